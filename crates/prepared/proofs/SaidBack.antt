-- The bytes of a well-formed set say that set, and so do those of the set of zeros: specs/Said reads back what specs/Put puts.
-- Assumes nothing.
use mathlib.Core.Path.{◌≡◌, refl, sym, ap, ap₂, ◌∙◌}
use mathlib.Core.Bool.{true}
use mathlib.Core.List.{List, ◌∷◌}
use Prim.Native.Nat.{ℕ, ◌+◌, ◌-◌, ◌*◌, ◌/◌, ◌%◌, ◌^◌, min, ◌≤◌, ◌<◌}
use native.Mathlib.Nat.{add-zero, lt_of_lt_of_le}
use native.Mathlib.Decide.{dec_lt}
use native.Mathlib.Omega.{arith}
use lib.Dec.{ltb}
use lib.ListN.{length, get_or, drop, replicate, length-append, length-drop, length-replicate, get_or-replicate, get_or-append}
use lib.Pow.{pow_mono}
use lib.Seq.{ext_get_or, get_or-append-add, get_or-drop}
use borrow.Author.Tests.{ltb-true}
use Rattle.words.specs.Loop.{listed}
use Rattle.words.proofs.LoopLaws.{listed_long, get_d_listed}
use Rattle.scan.specs.declared.set.Kind.{Kind}
use Rattle.scan.specs.declared.set.Kind.TheVariants.{Sensor, PastOutput, PastSensor}
use Rattle.scan.specs.declared.set.Constraint.{Constraint}
use Rattle.scan.specs.declared.set.Set.{Set}
use Rattle.scan.specs.Set.{most_reads, most_outputs, most_constraints, name_places, zero_read, zero_output, zero_constraint, zero_set, no_read, no_output, no_constraint, read_point, output_point, constraint}
use Rattle.scan.specs.Shape.{well_formed}
use Rattle.scan.proofs.ShapeLaws.{read_formed, output_formed, points_formed, counts, rest_lt, masks, beyond_zero}
use Rattle.scan.proofs.ZeroPlaces.{read_blank, output_blank, constraint_blank}
use Rattle.scan.proofs.NamesLaws.{name_formed}
use Rattle.prepared.specs.Filled.{filled}
use Rattle.prepared.specs.Put.{prepared_bytes, digit, kind_byte, index_byte, head_bytes, read_bytes, constraint_bytes, byte_of, bytes_of}
use Rattle.prepared.specs.Said.{kind_from, byte_in, two, four, name_in, ranks_in, read_in, output_in, constraint_in, first_of, set_said}
use Rattle.prepared.proofs.PutLaws.{head_at, read_at_law, output_at_law, constraint_at}

-- There are 1,837 bytes.
pub put_long : (s : Set) → length (bytes_of s) ≡ 1837
unfolding bytes_of
put_long s = listed_long (byte_of s) prepared_bytes

-- ---- numbers, kinds and lists

-- the kind of a kind's two bytes
kind_back : (k : Kind) → kind_from (kind_byte k) (index_byte k) ≡ k
unfolding kind_from
kind_back Sensor = refl
kind_back (PastOutput i) = refl
kind_back (PastSensor i) = refl

-- the number of a number's two bytes
two_back : (x : ℕ) → x < 65536 → two (digit x 0) (digit x 1) ≡ x
two_back x h = omega arith

-- the number of a number's four bytes
four_back : (x : ℕ) → x < 4294967296 → four (digit x 0) (digit x 1) (digit x 2) (digit x 3) ≡ x
four_back x h =
    let far : x / 65536 / 256 ≡ x / 16777216 = omega arith in
    let high : two (digit x 2) (digit x 3) ≡ x / 65536 = omega (arith, two_back (x / 65536) (omega arith)) in
    let low : two (digit x 0) (digit x 1) ≡ x % 65536 = omega arith in
    ap₂ (λ (a b : ℕ). a * 65536 + b) high low ∙ omega arith

-- a list by its places
places_back : {A : Type 0} (d : A) (n : ℕ) (g : ℕ → A) (l : List A) → length l ≡ n → ((j : ℕ) → j < n → g j ≡ get_or l j d) → listed n g ≡ l
places_back d n g l e same =
    let long = listed_long g n in
    ext_get_or d (listed n g) l (long ∙ sym e) (λ j h. let b : j < n = omega arith in get_d_listed g d n j b ∙ same j b)

-- the eight places of a name
name_back : (b : List ℕ) (at : ℕ) (name : List ℕ) → length name ≡ 8 → ((j : ℕ) → j < 8 → byte_in b (at + j) ≡ get_or name j 0) → name_in b at ≡ name
unfolding listed
name_back b at name e same =
    ap (λ (k : ℕ). byte_in b k ∷ drop 1 (name_in b at)) (sym (add-zero at)) ∙ places_back 0 8 (λ j. byte_in b (at + j)) name e same

-- the twelve ranks of a constraint
ranks_back : (b : List ℕ) (at : ℕ) (ranks : List ℕ) → length ranks ≡ 12 → ((j : ℕ) → j < 12 → byte_in b (at + j) ≡ get_or ranks j 0) → ranks_in b at ≡ ranks
unfolding listed
ranks_back b at ranks e same =
    ap (λ (k : ℕ). byte_in b k ∷ drop 1 (ranks_in b at)) (sym (add-zero at)) ∙ places_back 0 12 (λ j. byte_in b (at + j)) ranks e same

-- places filled up to a count, and zeros behind them, as the list has them
first_back : {A : Type 0} (d nil : A) (count most : ℕ) (f : ℕ → A) (l : List A) → length l ≡ most → count ≤ most
    → ((k : ℕ) → k < count → f k ≡ get_or l k d) → ((k : ℕ) → count ≤ k → k < most → nil ≡ get_or l k d) → first_of count most nil f ≡ l
first_back d nil count most f l long few used blank =
    let end : min count most ≡ count = omega arith in
    ap (filled most nil f) end ∙ ext_get_or d (filled most nil f count) l (sum ∙ sym long) (λ k h. at k (omega (arith, sum)) (dec_lt k count))
  where
    sum : length (filled most nil f count) ≡ most
    sum =
        length-append (listed count f) (drop count (replicate most nil))
        ∙ omega (arith, listed_long f count, length-drop count (replicate most nil), length-replicate most nil)

    at : (k : ℕ) → k < most → Dec (k < count) → get_or (filled most nil f count) k d ≡ get_or l k d
    at k h (yes lt) =
        let within : k < length (listed count f) = omega (arith, listed_long f count) in
        get_or-append (listed count f) (drop count (replicate most nil)) d k within ∙ get_d_listed f d count k lt ∙ used k lt
    at k h (no ge) =
        let e : k ≡ length (listed count f) + (k - count) = omega (arith, listed_long f count) in
        let place : count + (k - count) ≡ k = omega arith in
        ap (λ (j : ℕ). get_or (filled most nil f count) j d) e
        ∙ get_or-append-add (listed count f) (drop count (replicate most nil)) (k - count) d
        ∙ get_or-drop count (replicate most nil) (k - count) d
        ∙ ap (λ (j : ℕ). get_or (replicate most nil) j d) place
        ∙ get_or-replicate most k nil d h ∙ blank k (omega arith) h

-- ---- the bytes of each part

module _ (s : Set) where
  -- byte i
  byte_at : (i : ℕ) → i < prepared_bytes → byte_in (bytes_of s) i ≡ byte_of s i
  unfolding bytes_of
  byte_at i h = get_d_listed (byte_of s) 0 prepared_bytes i h

  -- byte j of the head
  head_byte : (j : ℕ) → j < 5 → byte_in (bytes_of s) j ≡ get_or (head_bytes s) j 0
  head_byte j h = byte_at j (omega arith) ∙ sym (head_at s j h)

  -- byte j of read point k
  read_byte : (i k j : ℕ) → i ≡ 5 + 10 * k + j → k < most_reads → j < 10 → byte_in (bytes_of s) i ≡ get_or (read_bytes (read_point s.reads k)) j 0
  read_byte i k j e hk hj =
      let q : (i - 5) / 10 ≡ k = omega arith in
      let m : (i - 5) % 10 ≡ j = omega arith in
      byte_at i (omega arith) ∙ sym (read_at_law s i s.reads refl (omega arith) (omega arith))
      ∙ ap₂ (λ (p b : ℕ). get_or (read_bytes (read_point s.reads p)) b 0) q m

  -- byte j of output k
  output_byte : (i k j : ℕ) → i ≡ 205 + 8 * k + j → k < most_outputs → j < 8 → byte_in (bytes_of s) i ≡ get_or (output_point s.outputs k).name j 0
  output_byte i k j e hk hj =
      let q : (i - 205) / 8 ≡ k = omega arith in
      let m : (i - 205) % 8 ≡ j = omega arith in
      byte_at i (omega arith) ∙ sym (output_at_law s i s.outputs refl (omega arith) (omega arith))
      ∙ ap₂ (λ (p b : ℕ). get_or (output_point s.outputs p).name b 0) q m

  -- byte j of constraint k
  constraint_byte : (i k j : ℕ) → i ≡ 301 + 24 * k + j → k < most_constraints → j < 24 → byte_in (bytes_of s) i ≡ get_or (constraint_bytes (constraint s k)) j 0
  unfolding constraint
  constraint_byte i k j e hk hj =
      let q : (i - 301) / 24 ≡ k = omega arith in
      let m : (i - 301) % 24 ≡ j = omega arith in
      byte_at i (omega arith) ∙ sym (constraint_at s i s.constraints refl (omega arith))
      ∙ ap₂ (λ (p b : ℕ). get_or (constraint_bytes (constraint s p)) b 0) q m

  -- ---- each part

  -- a read point whose name has eight places
  read_back : (k : ℕ) → k < most_reads → length (read_point s.reads k).name ≡ name_places → read_in (bytes_of s) k ≡ read_point s.reads k
  read_back k h long =
      let b = bytes_of s in
      let p = read_point s.reads k in
      let tag : byte_in b at ≡ kind_byte p.kind = read_byte at k 0 (omega arith) h (omega arith) in
      let index : byte_in b (at + 1) ≡ index_byte p.kind = read_byte (at + 1) k 1 (omega arith) h (omega arith) in
      let kind = ap₂ kind_from tag index ∙ kind_back p.kind in
      let name = name_back b (at + 2) p.name long place in
      λ i. record { kind = kind i; name = name i }
    where
      at : ℕ
      at = 5 + 10 * k

      place : (j : ℕ) → j < 8 → byte_in (bytes_of s) (at + 2 + j) ≡ get_or (read_point s.reads k).name j 0
      place j l = read_byte (at + 2 + j) k (2 + j) (omega arith) h (omega arith) ∙ sym (get_or-drop 2 (read_bytes (read_point s.reads k)) j 0)

  -- an output whose name has eight
  output_back : (k : ℕ) → k < most_outputs → length (output_point s.outputs k).name ≡ name_places → output_in (bytes_of s) k ≡ output_point s.outputs k
  output_back k h long =
      let at = 205 + 8 * k in
      let name = name_back (bytes_of s) at (output_point s.outputs k).name long (λ j l. output_byte (at + j) k j (omega arith) h l) in
      λ i. record { name = name i }

-- the masks of a constraint fit their bytes, and it has twelve ranks
record ConstraintFits (c : Constraint) : Type 0 where
  read_plain : c.read_plain < 4294967296
  read_negated : c.read_negated < 4294967296
  out_plain : c.out_plain < 65536
  out_negated : c.out_negated < 65536
  ranks_long : length c.ranks ≡ most_outputs

-- a constraint that fits
constraint_back : (s : Set) (k : ℕ) → k < most_constraints → ConstraintFits (constraint s k) → constraint_in (bytes_of s) k ≡ constraint s k
constraint_back s k h fits =
    let c = constraint s k in
    let ranks = ranks_back (bytes_of s) (at + 12) c.ranks fits.ranks_long rank in
    let read_plain = (λ i. four (first i) (byte 1 refl i) (byte 2 refl i) (byte 3 refl i)) ∙ four_back c.read_plain fits.read_plain in
    let read_negated = (λ i. four (byte 4 refl i) (byte 5 refl i) (byte 6 refl i) (byte 7 refl i)) ∙ four_back c.read_negated fits.read_negated in
    let out_plain = (λ i. two (byte 8 refl i) (byte 9 refl i)) ∙ two_back c.out_plain fits.out_plain in
    let out_negated = (λ i. two (byte 10 refl i) (byte 11 refl i)) ∙ two_back c.out_negated fits.out_negated in
    λ i. record { read_plain = read_plain i; read_negated = read_negated i; out_plain = out_plain i; out_negated = out_negated i; ranks = ranks i }
  where
    at : ℕ
    at = 301 + 24 * k

    first : byte_in (bytes_of s) at ≡ get_or (constraint_bytes (constraint s k)) 0 0
    first = constraint_byte s at k 0 (omega arith) h (omega arith)

    byte : (j : ℕ) → ltb j 24 ≡ true → byte_in (bytes_of s) (at + j) ≡ get_or (constraint_bytes (constraint s k)) j 0
    byte j l = constraint_byte s (at + j) k j refl h (ltb-true j 24 l)

    rank : (j : ℕ) → j < 12 → byte_in (bytes_of s) (at + 12 + j) ≡ get_or (constraint s k).ranks j 0
    rank j l = constraint_byte s (at + 12 + j) k (12 + j) (omega arith) h (omega arith) ∙ sym (get_or-drop 12 (constraint_bytes (constraint s k)) j 0)

-- ---- the set

-- what a set must have for its bytes to say it: counts within the limits, each place below them fit for its bytes, and each behind them of zeros
record Fits (s : Set) : Type 0 where
  r_le : s.r ≤ most_reads
  n_le : s.n ≤ most_outputs
  m_le : s.m ≤ most_constraints
  rest_lt : s.rest < 65536
  reads_long : length s.reads ≡ most_reads
  outputs_long : length s.outputs ≡ most_outputs
  constraints_long : length s.constraints ≡ most_constraints
  read_fits : (k : ℕ) → k < s.r → length (read_point s.reads k).name ≡ name_places
  read_blank : (k : ℕ) → s.r ≤ k → k < most_reads → read_point s.reads k ≡ zero_read
  output_fits : (j : ℕ) → j < s.n → length (output_point s.outputs j).name ≡ name_places
  output_blank : (j : ℕ) → s.n ≤ j → j < most_outputs → output_point s.outputs j ≡ zero_output
  constraint_fits : (i : ℕ) → i < s.m → ConstraintFits (constraint s i)
  constraint_blank : (i : ℕ) → s.m ≤ i → i < most_constraints → constraint s i ≡ zero_constraint

-- a count of its byte
count_back : (x : ℕ) → x < 256 → x % 256 ≡ x
count_back x h = omega arith

module _ (s : Set) (fits : Fits s) where
  -- the read points of such a set
  reads_back : first_of s.r most_reads zero_read (read_in (bytes_of s)) ≡ s.reads
  reads_back =
      first_back no_read zero_read s.r most_reads (read_in (bytes_of s)) s.reads fits.reads_long fits.r_le
      (λ k h. read_back s k (omega (arith, fits.r_le)) (fits.read_fits k h)) (λ k l h. sym (fits.read_blank k l h))

  -- its outputs
  outputs_back : first_of s.n most_outputs zero_output (output_in (bytes_of s)) ≡ s.outputs
  outputs_back =
      first_back no_output zero_output s.n most_outputs (output_in (bytes_of s)) s.outputs fits.outputs_long fits.n_le
      (λ j h. output_back s j (omega (arith, fits.n_le)) (fits.output_fits j h)) (λ j l h. sym (fits.output_blank j l h))

  -- its constraints
  constraints_back : first_of s.m most_constraints zero_constraint (constraint_in (bytes_of s)) ≡ s.constraints
  unfolding constraint
  constraints_back =
      first_back no_constraint zero_constraint s.m most_constraints (constraint_in (bytes_of s)) s.constraints fits.constraints_long fits.m_le
      (λ i h. constraint_back s i (omega (arith, fits.m_le)) (fits.constraint_fits i h)) (λ i l h. sym (fits.constraint_blank i l h))

  -- the bytes of such a set say it
  fits_back : set_said (bytes_of s) ≡ s
  unfolding set_said
  fits_back =
      let b = bytes_of s in
      let r : byte_in b 0 ≡ s.r = head_byte s 0 (omega arith) ∙ count_back s.r (omega (arith, fits.r_le)) in
      let n : byte_in b 1 ≡ s.n = head_byte s 1 (omega arith) ∙ count_back s.n (omega (arith, fits.n_le)) in
      let m : byte_in b 2 ≡ s.m = head_byte s 2 (omega arith) ∙ count_back s.m (omega (arith, fits.m_le)) in
      let rest = ap₂ two (head_byte s 3 (omega arith)) (head_byte s 4 (omega arith)) ∙ two_back s.rest fits.rest_lt in
      let reads = ap (λ (k : ℕ). first_of k most_reads zero_read (read_in b)) r ∙ reads_back in
      let outputs = ap (λ (k : ℕ). first_of k most_outputs zero_output (output_in b)) n ∙ outputs_back in
      let constraints = ap (λ (k : ℕ). first_of k most_constraints zero_constraint (constraint_in b)) m ∙ constraints_back in
      λ i. record { r = r i; n = n i; m = m i; rest = rest i; reads = reads i; outputs = outputs i; constraints = constraints i }

-- ---- well-formed sets, and the set of zeros

-- a word of k bits has j
within : (k j x : ℕ) → k ≤ j → x < 2 ^ k → x < 2 ^ j
within k j x h l = lt_of_lt_of_le l (pow_mono {i = k} {j = j} h)

-- a well-formed set has what it takes
formed_fits : (s : Set) → well_formed s ≡ true → Fits s
formed_fits s ok =
    let has = counts s ok in
    let points = points_formed s ok in
    let r32 : s.r ≤ 32 = omega (arith, has.r_le) in
    let n16 : s.n ≤ 16 = omega (arith, has.n_le) in
    record {
      r_le = has.r_le;
      n_le = has.n_le;
      m_le = has.m_le;
      rest_lt = within s.n 16 s.rest n16 (rest_lt s ok);
      reads_long = points.reads_long;
      outputs_long = points.outputs_long;
      constraints_long = points.constraints_long;
      read_fits = λ k h. (name_formed (read_point s.reads k).name (read_formed s.reads s.n k (points.read_ok_law k h)).name_ok_law).long;
      read_blank = λ k l h. read_blank (read_point s.reads k) (points.read_zero_law k l h);
      output_fits = λ j h. (name_formed (output_point s.outputs j).name (output_formed s.reads s.r s.outputs j (points.output_ok_law j h)).name_ok_law).long;
      output_blank = λ j l h. output_blank (output_point s.outputs j) (points.output_zero j l h);
      constraint_fits = λ i h. let t = masks s ok i h in record {
        read_plain = within s.r 32 (constraint s i).read_plain r32 t.read_plain;
        read_negated = within s.r 32 (constraint s i).read_negated r32 t.read_negated;
        out_plain = within s.n 16 (constraint s i).out_plain n16 t.out_plain;
        out_negated = within s.n 16 (constraint s i).out_negated n16 t.out_negated;
        ranks_long = t.ranks_long;
      };
      constraint_blank = λ i l h. constraint_blank (constraint s i) (beyond_zero s ok i l h);
    }

-- The bytes of a well-formed set say that set.
pub said_back : (s : Set) → well_formed s ≡ true → set_said (bytes_of s) ≡ s
said_back s ok = fits_back s (formed_fits s ok)

-- the set of zeros has what it takes
zero_fits : Fits zero_set
unfolding zero_set constraint
zero_fits = record {
  r_le = omega arith;
  n_le = omega arith;
  m_le = omega arith;
  rest_lt = omega arith;
  reads_long = length-replicate most_reads zero_read;
  outputs_long = length-replicate most_outputs zero_output;
  constraints_long = length-replicate most_constraints zero_constraint;
  read_fits = λ k h. absurd (omega arith);
  read_blank = λ k l h. get_or-replicate most_reads k zero_read no_read h;
  output_fits = λ j h. absurd (omega arith);
  output_blank = λ j l h. get_or-replicate most_outputs j zero_output no_output h;
  constraint_fits = λ i h. absurd (omega arith);
  constraint_blank = λ i l h. get_or-replicate most_constraints i zero_constraint no_constraint h;
}

-- The bytes of the set of zeros say that set.
pub said_zero : set_said (bytes_of zero_set) ≡ zero_set
said_zero = fits_back zero_set zero_fits
