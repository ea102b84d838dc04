-- What the proofs of `field` and `writer` share: bytes put into a buffer, loops that put one part behind the other, the parts of the file, and the answer.
-- Assumes nothing.
use mathlib.Core.Path.{◌≡◌, refl, sym, ap, ap₂, subst, ◌∙◌}
use mathlib.Core.Bool.{Bool, true, false, cond}
use mathlib.Core.List.{List, [], ◌∷◌, ◌++◌, append_assoc, append-nil}
use Prim.Native.Nat.{ℕ, zero, suc, ◌+◌, ◌-◌, ◌/◌, ◌%◌, ◌≤◌, ◌<◌}
use native.Mathlib.Nat.{add-zero, zero-add}
use native.Mathlib.Numerals.{add-one}
use native.Mathlib.Omega.{arith}
use lib.ListN.{length, get_or, take, drop, set, length-append, length-take, length-drop, take-append-drop}
use lib.Seq.{take-suc, sets-eq, take_at, drop-append-add, drop-drop, length-take-le}
use lib.Dec.{leb, ltb}
use borrow.Author.Tests.{lt-ltb, le-ltb, le-leb, lt-leb, eq-eqb, ne_eqb}
use borrow.Rule.Slice.PartMut.{put_mid}
use Rattle.words.proofs.LoopTurns.{Grows}
use Rattle.scan.specs.declared.set.Kind.{Kind}
use Rattle.scan.specs.declared.set.Kind.TheVariants.{Sensor, PastOutput, PastSensor}
use Rattle.scan.specs.declared.set.ReadPoint.{ReadPoint}
use Rattle.scan.specs.declared.set.OutputPoint.{OutputPoint}
use Rattle.scan.specs.declared.set.Constraint.{Constraint}
use Rattle.scan.specs.declared.set.Set.{Set}
use Rattle.scan.specs.Set.{no_read, no_output, no_constraint}
use Rattle.scan.specs.Names.{name_bytes}
use Rattle.scan.specs.Shape.{well_formed}
use Rattle.writer.specs.Write.{field_of, kind_bytes, read_body, output_body, constraint_tag, literal_body, read_tag, output_tag, fields_of, rest_body, rest_field, write_of, write_answer, buffer_after}
use Rattle.writer.specs.way.Write.{read_fields, output_fields, constraint_fields, put_at, Put}
use Rattle.std.specs.Prelude.{Ok, Err}
use Rattle.shape.specs.declared.putting.PutError.TheVariants.{BadSet, Short}

-- ---- bytes in a buffer

pub put_kept : (buf : List ℕ) (at : ℕ) (x : List ℕ) → at + length x ≤ length buf → length (put_at buf at x) ≡ length buf
put_kept buf at x h = simp (length-append, length-take, length-drop) (omega arith)

pub put_nothing : (buf : List ℕ) (at : ℕ) → buf ≡ put_at buf at []
put_nothing buf at = sym (ap (λ (k : ℕ). take at buf ++ drop k buf) (add-zero at) ∙ take-append-drop at buf)

-- bytes put behind bytes
pub put_put : (buf : List ℕ) (at : ℕ) (x y : List ℕ) → at + length x ≤ length buf → put_at (put_at buf at x) (at + length x) y ≡ put_at buf at (x ++ y)
put_put buf at x y h =
    let p : List ℕ = take at buf ++ x in
    let rest : List ℕ = drop (at + length x) buf in
    let long : length p ≡ at + length x = length-append (take at buf) x ∙ ap (λ (k : ℕ). k + length x) (length-take-le at buf (omega arith)) in
    let places : at + length x + length y ≡ at + length (x ++ y) = simp length-append (omega arith) in
    ap (λ (l : List ℕ). put_at l (at + length x) y) (sym (append_assoc (take at buf) x rest))
    ∙ ap₂ (λ (l r : List ℕ). l ++ (y ++ r))
    (take_at p rest (at + length x) long)
    (ap (λ (k : ℕ). drop (k + length y) (p ++ rest)) (sym long) ∙ drop-append-add p rest (length y) ∙ drop-drop (length y) (at + length x) buf ∙ ap (λ (k : ℕ). drop k buf) places)
    ∙ append_assoc (take at buf) x (y ++ drop (at + length (x ++ y)) buf)
    ∙ ap (λ (l : List ℕ). take at buf ++ l) (sym (append_assoc x y (drop (at + length (x ++ y)) buf)))

-- bytes put behind bytes, and the place behind both
pub put_then : (buf : List ℕ) (at : ℕ) (x y mid after : List ℕ) (next place : ℕ) → at + length x ≤ length buf → Put buf at x mid next → Put mid next y after place
    → Put buf at (x ++ y) after place
put_then buf at x y mid after next place h p q = (
  q.0 ∙ ap₂ (λ (l : List ℕ) (k : ℕ). put_at l k y) p.0 p.1 ∙ put_put buf at x y h,
  omega (arith, p.1, q.1, length-append x y),
)

-- two bytes stored one after the other
pub put_two : (buf : List ℕ) (at x y : ℕ) → at + 2 ≤ length buf → set (set buf at x) (at + 1) y ≡ put_at buf at (x ∷ y ∷ [])
put_two buf at x y h =
    let e1 : at + 1 ≡ suc at = omega arith in
    rw e1 (sets-eq (x ∷ y ∷ []) buf at h ∙ append_assoc (take at buf) (x ∷ y ∷ []) (drop (at + 2) buf))

-- three
pub put_three : (buf : List ℕ) (at x y z : ℕ) → at + 3 ≤ length buf
    → set (set (set buf at x) (at + 1) y) (at + 2) z ≡ put_at buf at (x ∷ y ∷ z ∷ [])
put_three buf at x y z h =
    let e1 : at + 1 ≡ suc at = omega arith in
    let e2 : at + 2 ≡ suc (suc at) = omega arith in
    rw (e1, e2) (sets-eq (x ∷ y ∷ z ∷ []) buf at h ∙ append_assoc (take at buf) (x ∷ y ∷ z ∷ []) (drop (at + 3) buf))

-- room behind what is in place
pub next_room : (buf : List ℕ) (at : ℕ) (x y mid : List ℕ) (next : ℕ) → Put buf at x mid next → at + length (x ++ y) ≤ length buf → next + length y ≤ length mid
next_room buf at x y mid next p h =
    let lengths-add = length-append x y in
    let first : at + length x ≤ length buf = omega (arith, lengths-add) in
    omega (arith, lengths-add, p.1, ap length p.0, put_kept buf at x first)

-- room for a body behind its header
pub body_room : (buf : List ℕ) (at tag len : ℕ) (body mid : List ℕ) (next : ℕ) → Put buf at (tag ∷ len / 256 ∷ len % 256 ∷ []) mid next
    → at + length (field_of tag body) ≤ length buf → next + length body ≤ length mid
body_room buf at tag len body mid next p h = next_room buf at (tag ∷ len / 256 ∷ len % 256 ∷ []) body mid next p h

-- a body put behind its header
pub field_put : (buf : List ℕ) (at tag len : ℕ) (body mid after : List ℕ) (next place : ℕ) → len ≡ length body → at + length (field_of tag body) ≤ length buf
    → Put buf at (tag ∷ len / 256 ∷ len % 256 ∷ []) mid next → Put mid next body after place → Put buf at (field_of tag body) after place
field_put buf at tag len body mid after next place e h p q =
    subst (λ (n : ℕ). Put buf at (tag ∷ n / 256 ∷ n % 256 ∷ body) after place) e
    (put_then buf at (tag ∷ len / 256 ∷ len % 256 ∷ []) body mid after next place (omega arith) p q)

-- ---- kinds

-- kind and index are two bytes
pub kind_long : (k : Kind) → length (kind_bytes k) ≡ 2
kind_long Sensor = refl
kind_long (PastOutput i) = refl
kind_long (PastSensor i) = refl

pub read_long : (p : ReadPoint) → length (read_body p) ≡ 2 + length (name_bytes p.name)
read_long p = omega (arith, length-append (kind_bytes p.kind) (name_bytes p.name), kind_long p.kind)

-- ---- the rest word

-- a rest word of 0 has no field
pub rest_none : (rest : ℕ) → rest ≡ 0 → rest_field rest ≡ []
unfolding rest_field
rest_none rest e = ap (λ (b : Bool). cond b [] (field_of 0x06 (rest_body rest))) (eq-eqb rest 0 e)

-- any other has
pub rest_some : (rest : ℕ) → (rest ≡ 0 → ⊥) → rest_field rest ≡ field_of 0x06 (rest_body rest)
unfolding rest_field
rest_some rest ne = ap (λ (b : Bool). cond b [] (field_of 0x06 (rest_body rest))) (ne_eqb rest 0 ne)

-- ---- the fields of a list's elements

module _ {A : Type 0} (tag : A → ℕ) (body : A → List ℕ) where
  pub fields_append : (xs ys : List A) → fields_of tag body (xs ++ ys) ≡ fields_of tag body xs ++ fields_of tag body ys
  unfolding fields_of
  fields_append [] ys = refl
  fields_append (x ∷ xs) ys =
      ap (λ (l : List ℕ). field_of (tag x) (body x) ++ l) (fields_append xs ys)
      ∙ sym (append_assoc (field_of (tag x) (body x)) (fields_of tag body xs) (fields_of tag body ys))

  -- one field more
  pub fields_more : (xs : List A) (k : ℕ) (d : A) → k < length xs
      → fields_of tag body (take (k + 1) xs) ≡ fields_of tag body (take k xs) ++ field_of (tag (get_or xs k d)) (body (get_or xs k d))
  unfolding fields_of
  fields_more xs k d h =
      ap (λ (j : ℕ). fields_of tag body (take j xs)) (add-one k)
      ∙ ap (fields_of tag body) (take-suc xs k d h)
      ∙ fields_append (take k xs) (get_or xs k d ∷ [])
      ∙ ap (λ (l : List ℕ). fields_of tag body (take k xs) ++ l) (append-nil (field_of (tag (get_or xs k d)) (body (get_or xs k d))))

-- ---- loops that put one part behind the other

pub fields_grow : {A : Type 0} (tag : A → ℕ) (body : A → List ℕ) (xs : List A) (n : ℕ) (d : A) → n ≤ length xs
    → Grows (λ k. fields_of tag body (take k xs)) (λ k. field_of (tag (get_or xs k d)) (body (get_or xs k d))) n
unfolding fields_of
fields_grow tag body xs n d few = record { none = refl; one = λ k h. fields_more tag body xs k d (omega arith) }

-- the invariant of a loop that puts parts: the first k are in place
abbrev pub Puts : (ℕ → List ℕ) → ℕ → List ℕ → ℕ → List ℕ → ℕ → ℕ → Type 0
Puts whole n buf at after next k = (k ≤ n) × Put buf at (whole k) after next

-- bytes copied over as many places
pub put_over : (buf : List ℕ) (at k : ℕ) (bytes : List ℕ) → k ≡ length bytes → put_mid at k buf bytes ≡ put_at buf at bytes
put_over buf at k bytes e =
    ap (λ (l : List ℕ). take at buf ++ (bytes ++ l)) (drop-drop k at buf ∙ ap (λ (j : ℕ). drop (at + j) buf) e)

-- the invariant of a loop that adds up lengths: that of the first k parts
abbrev pub Counted : (ℕ → List ℕ) → ℕ → ℕ → ℕ → Type 0
Counted whole n len k = (k ≤ n) × (len ≡ length (whole k))

module _ {whole more : ℕ → List ℕ} {n : ℕ} (g : Grows whole more n) where
  longer : (k : ℕ) → k < n → length (whole (k + 1)) ≡ length (whole k) + length (more k)
  longer k h = ap length (g.one k h) ∙ length-append (whole k) (more k)

  fewer_by : (k d : ℕ) → k + d ≤ n → length (whole k) ≤ length (whole (k + d))
  fewer_by k zero h = let e = ap (λ (j : ℕ). length (whole j)) (add-zero k) in omega (arith, e)
  fewer_by k (suc d) h =
      let step : k + suc d ≡ k + d + 1 = omega arith in
      omega (arith, ap (λ (j : ℕ). length (whole j)) step, fewer_by k d (omega arith), longer (k + d) (omega arith))

  -- fewer parts are no longer
  fewer : (k : ℕ) → k ≤ n → length (whole k) ≤ length (whole n)
  fewer k h = let e : k + (n - k) ≡ n = omega arith in omega (arith, ap (λ (j : ℕ). length (whole j)) e, fewer_by k (n - k) (omega arith))

  pub counted_none : Counted whole n 0 0
  counted_none = (omega arith, sym (ap length g.none))

  pub counted_one : (len k sum : ℕ) → Counted whole n len k → k < n → sum ≡ len + length (more k) → Counted whole n sum (k + 1)
  counted_one len k sum i h e = (omega arith, omega (arith, i.1, e, longer k h))

  pub counted_all : (len k : ℕ) → Counted whole n len k → n ≤ k → len ≡ length (whole n)
  counted_all len k i h = let e : k ≡ n = omega arith in i.1 ∙ ap (λ (j : ℕ). length (whole j)) e

  module _ (buf : List ℕ) (at : ℕ) (room : at + length (whole n) ≤ length buf) where
    pub puts_none : Puts whole n buf at buf at 0
    puts_none = (omega arith, subst (λ (l : List ℕ). Put buf at l buf at) (sym g.none) (put_nothing buf at, sym (add-zero at)))

    pub puts_kept : (after : List ℕ) (next k : ℕ) → Puts whole n buf at after next k → length after ≡ length buf
    puts_kept after next k i = ap length i.1.0 ∙ put_kept buf at (whole k) (omega (arith, fewer k i.0))

    -- there is room for the next part
    pub puts_room : (after : List ℕ) (next k : ℕ) → Puts whole n buf at after next k → k < n → next + length (more k) ≤ length after
    puts_room after next k i h = omega (arith, i.1.1, puts_kept after next k i, longer k h, fewer (k + 1) (omega arith))

    pub puts_one : (after : List ℕ) (next k : ℕ) (then : List ℕ) (place : ℕ) → Puts whole n buf at after next k → k < n
        → Put after next (more k) then place → Puts whole n buf at then place (k + 1)
    puts_one after next k then place i h p = (
      omega arith,
      subst (λ (l : List ℕ). Put buf at l then place) (sym (g.one k h))
          (put_then buf at (whole k) (more k) after then next place (omega (arith, fewer k i.0)) i.1 p),
    )

    pub puts_all : (after : List ℕ) (next k : ℕ) → Puts whole n buf at after next k → n ≤ k → Put buf at (whole n) after next
    puts_all after next k i h = let e : k ≡ n = omega arith in subst (λ (j : ℕ). Put buf at (whole j) after next) e i.1

-- ---- the parts of the file

pub reads_grow : (reads : List ReadPoint) (r : ℕ) → r ≤ length reads → Grows (read_fields reads) (λ k. field_of 0x02 (read_body (get_or reads k no_read))) r
reads_grow reads r few = fields_grow read_tag read_body reads r no_read few

pub outputs_grow : (outputs : List OutputPoint) (n : ℕ) → n ≤ length outputs → Grows (output_fields outputs) (λ k. field_of 0x03 (output_body (get_or outputs k no_output))) n
outputs_grow outputs n few = fields_grow output_tag output_body outputs n no_output few

pub constraints_grow : (constraints : List Constraint) (m : ℕ) → m ≤ length constraints → Grows (constraint_fields constraints) (λ k. field_of (constraint_tag (get_or constraints k no_constraint)) (literal_body (get_or constraints k no_constraint))) m
constraints_grow constraints m few = fields_grow constraint_tag literal_body constraints m no_constraint few

-- the file's length, part by part
pub file_long : (s : Set) → length (write_of s) ≡ 8 + length (read_fields s.reads s.r) + length (output_fields s.outputs s.n) + length (rest_field s.rest) + length (constraint_fields s.constraints s.m)
unfolding write_of
file_long s = simp length-append (omega arith)

-- ---- one part of the file behind the other

-- the file up to its counts, its read points, its outputs, its rest word and its constraints
abbrev pub counts_put : Set → List ℕ
counts_put s = field_of 0x01 (s.r ∷ s.n ∷ [])

abbrev pub reads_put : Set → List ℕ
reads_put s = counts_put s ++ read_fields s.reads s.r

abbrev pub outputs_put : Set → List ℕ
outputs_put s = reads_put s ++ output_fields s.outputs s.n

abbrev pub rest_put : Set → List ℕ
rest_put s = outputs_put s ++ rest_field s.rest

abbrev pub constraints_put : Set → List ℕ
constraints_put s = rest_put s ++ constraint_fields s.constraints s.m

pub file_ends : (s : Set) → constraints_put s ++ field_of 0x05 [] ≡ write_of s
unfolding write_of
file_ends s = refl

-- where there is room for both, there is for the first
front_room : (x y : List ℕ) (room : ℕ) → 0 + length (x ++ y) ≤ room → 0 + length x ≤ room
front_room x y room h = omega (arith, length-append x y)

module _ (s : Set) (room : ℕ) (fits : 0 + length (write_of s) ≤ room) where
  pub room_end : 0 + length (constraints_put s ++ field_of 0x05 []) ≤ room
  unfolding write_of
  room_end = fits

  pub room_constraints : 0 + length (constraints_put s) ≤ room
  room_constraints = front_room (constraints_put s) (field_of 0x05 []) room room_end

  pub room_rest : 0 + length (rest_put s) ≤ room
  room_rest = front_room (rest_put s) (constraint_fields s.constraints s.m) room room_constraints

  pub room_outputs : 0 + length (outputs_put s) ≤ room
  room_outputs = front_room (outputs_put s) (rest_field s.rest) room room_rest

  pub room_reads : 0 + length (reads_put s) ≤ room
  room_reads = front_room (reads_put s) (output_fields s.outputs s.n) room room_outputs

  pub room_counts : 0 + length (counts_put s) ≤ room
  room_counts = front_room (counts_put s) (read_fields s.reads s.r) room room_reads

-- ---- the answer

module _ (s : Set) (buf : List ℕ) where
  pub bad_set : well_formed s ≡ false → (Err BadSet ≡ write_answer s (length buf)) × (buf ≡ buffer_after s buf)
  unfolding write_answer buffer_after
  bad_set e = (sym (simp e), sym (simp e))

  module _ (ok : well_formed s ≡ true) (needed : ℕ) (e : needed ≡ length (write_of s)) where
    pub too_short : length buf < needed → (Err (Short needed) ≡ write_answer s (length buf)) × (buf ≡ buffer_after s buf)
    unfolding write_answer buffer_after
    too_short h =
        let lt : ltb (length buf) (length (write_of s)) ≡ true = lt-ltb (length buf) (length (write_of s)) (omega arith) in
        let le : leb (length (write_of s)) (length buf) ≡ false = lt-leb (length (write_of s)) (length buf) (omega arith) in
        (ap (λ (k : ℕ). Err (Short k)) e ∙ sym (simp (ok, lt)), sym (simp (ok, le)))

    pub written : needed ≤ length buf → (after : List ℕ) → after ≡ put_at buf 0 (write_of s) → (Ok needed ≡ write_answer s (length buf)) × (after ≡ buffer_after s buf)
    unfolding write_answer buffer_after
    written h after a =
        let lt : ltb (length buf) (length (write_of s)) ≡ false = le-ltb (length buf) (length (write_of s)) (omega arith) in
        let le : leb (length (write_of s)) (length buf) ≡ true = le-leb (length (write_of s)) (length buf) (omega arith) in
        (ap (λ (k : ℕ). Ok k) e ∙ sym (simp (ok, lt)), a ∙ ap (λ (k : ℕ). write_of s ++ drop k buf) (zero-add (length (write_of s))) ∙ sym (simp (ok, le)))
