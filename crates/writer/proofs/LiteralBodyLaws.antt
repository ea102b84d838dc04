-- The literals of a constraint as bytes: as the code puts them, bit by bit of a word, and how many bytes they are.
-- Assumes nothing.
use mathlib.Core.Path.{◌≡◌, refl, sym, ap, ap₂, ◌∙◌}
use mathlib.Core.Bool.{Bool, true, false, cond, ◌||◌}
use mathlib.Core.List.{List, [], ◌++◌, append-nil}
use Prim.Native.Nat.{ℕ, zero, suc, ◌+◌, ◌-◌, ◌*◌, ◌^◌, ◌≤◌, ◌<◌}
use native.Mathlib.Nat.{zero-add, lt_of_lt_of_le, mul-add, mul-one, mul-zero}
use native.Mathlib.Omega.{arith}
use lib.ListN.{length, get_or, replicate, length-append}
use lib.Pow.{pow_mono}
use lib.Bits.{bit_or, or_lt}
use lib.Count.{ones}
use Rattle.words.proofs.ListLaws.{zeros_any}
use Rattle.words.specs.Word.{bit}
use Rattle.words.specs.Loop.{count, joined}
use Rattle.words.proofs.BitLaws.{bit_of_or}
use Rattle.words.proofs.PopcountLaws.{ones_in_law, ones_count}
use Rattle.scan.specs.declared.set.Constraint.{Constraint}
use Rattle.scan.specs.declared.set.Set.{Set}
use Rattle.scan.specs.Set.{most_reads, most_outputs, constraint, rank, outs}
use Rattle.scan.specs.Shape.{well_formed}
use Rattle.scan.proofs.ShapeLaws.{counts, masks, outs_lt}
use Rattle.header.specs.Tag.{literal_size}
use Rattle.writer.specs.Write.{literal_bytes, read_literal, output_literal, literals_by}
use Rattle.writer.specs.way.Write.{FewPoints, signed_by, literal_at, literals_at}

-- ---- a literal, as the code puts it

-- told by the points that are named and those that are plain
literal_told : (wide p n : Bool) (x y k z : ℕ)
    → cond (p || n) (literal_bytes wide (cond p x y) k z) [] ≡ cond p (literal_bytes wide x k z) (cond n (literal_bytes wide y k z) [])
literal_told wide true n x y k z = refl
literal_told wide false true x y k z = refl
literal_told wide false false x y k z = refl

module _ (wide : Bool) (c : Constraint) (k : ℕ) where
  read_told : literal_at wide 0 c.read_plain (bit_or c.read_plain c.read_negated) (replicate most_reads 0) k ≡ read_literal wide c k
  unfolding literal_at read_literal
  read_told =
      let p = c.read_plain in
      let n = c.read_negated in
      (λ i. cond (bit_of_or k p n i) (literal_bytes wide (cond (bit k p) 0 0x80) k (zeros_any most_reads k i)) []) ∙ literal_told wide (bit k p) (bit k n) 0 0x80 k 0

  output_told : literal_at wide 0x40 c.out_plain (outs c) c.ranks k ≡ output_literal wide c k
  unfolding literal_at output_literal
  output_told =
      let p = c.out_plain in
      let n = c.out_negated in
      (λ i. cond (bit_of_or k p n i) (literal_bytes wide (cond (bit k p) 0x40 0xC0) k (rank c k)) []) ∙ literal_told wide (bit k p) (bit k n) 0x40 0xC0 k (rank c k)

-- what gives nothing from r on
pub joined_short : (f : ℕ → List ℕ) (r more : ℕ) → ((k : ℕ) → r ≤ k → k < more + r → f k ≡ []) → joined (more + r) f ≡ joined r f
unfolding joined
joined_short f r zero h = ap (λ (j : ℕ). joined j f) (zero-add r)
joined_short f r (suc more) h =
    let e : suc more + r ≡ suc (more + r) = omega arith in
    ap (λ (j : ℕ). joined j f) e ∙ ap₂ ◌++◌ (joined_short f r more (λ k l m. h k l (omega arith))) (h (more + r) (omega arith) (omega arith)) ∙ append-nil (joined r f)

module _ (wide : Bool) (flags plain named : ℕ) (ranks : List ℕ) where
  -- the literal of a point that is named
  pub literal_here : (k own : ℕ) → bit k named ≡ true → own ≡ signed_by (bit k plain) flags → literal_at wide flags plain named ranks k ≡ literal_bytes wide own k (get_or ranks k 0)
  unfolding literal_at
  literal_here k own e n = λ i. cond (e i) (literal_bytes wide (sym n i) k (get_or ranks k 0)) []

  literal_none : (k : ℕ) → bit k named ≡ false → literal_at wide flags plain named ranks k ≡ []
  unfolding literal_at
  literal_none k e = ap (λ (b : Bool). cond b (literal_bytes wide (signed_by (bit k plain) flags) k (get_or ranks k 0)) []) e

  -- points that are not named have none
  pub literals_skip : (k t : ℕ) → k ≤ t → ((j : ℕ) → k ≤ j → j < t → bit j named ≡ false)
      → joined k (literal_at wide flags plain named ranks) ≡ joined t (literal_at wide flags plain named ranks)
  literals_skip k t h none =
      let f = literal_at wide flags plain named ranks in
      let whole : t - k + k ≡ t = omega arith in
      sym (joined_short f k (t - k) (λ j l m. literal_none j (none j l (omega arith)))) ∙ ap (λ (j : ℕ). joined j f) whole

pub joined_same : (f g : ℕ → List ℕ) → ((k : ℕ) → f k ≡ g k) → (n : ℕ) → joined n f ≡ joined n g
unfolding joined
joined_same f g e zero = refl
joined_same f g e (suc n) = ap₂ ◌++◌ (joined_same f g e n) (e n)

-- the literals of the read points, and then those of the outputs, are the constraint's
pub literals_told : (wide : Bool) (c : Constraint) → length c.ranks ≡ most_outputs
    → literals_at wide 0 c.read_plain (bit_or c.read_plain c.read_negated) (replicate most_reads 0) ++ literals_at wide 0x40 c.out_plain (outs c) c.ranks ≡ literals_by wide c
unfolding literals_by
literals_told wide c long =
    ap₂ ◌++◌ (joined_same _ (read_literal wide c) (read_told wide c) most_reads)
    (joined_same _ (output_literal wide c) (output_told wide c) (length c.ranks) ∙ ap (λ (n : ℕ). joined n (output_literal wide c)) long)

-- a constraint in use of a well-formed set has no bits beyond the most points
pub masks_few : (s : Set) → well_formed s ≡ true → (i : ℕ) → i < s.m → FewPoints (constraint s i)
masks_few s ok i h =
    let c = constraint s i in
    let k = counts s ok in
    let ms = masks s ok i h in (
      lt_of_lt_of_le (or_lt s.r c.read_plain c.read_negated ms.read_plain ms.read_negated) (pow_mono {i = s.r} {j = most_reads} k.r_le),
      lt_of_lt_of_le (outs_lt s.r s.n c ms) (pow_mono {i = s.n} {j = most_outputs} k.n_le),
    )

-- ---- how many bytes they are

-- the bytes of one
bytes_long : (wide : Bool) (flags number rank : ℕ) → length (literal_bytes wide flags number rank) ≡ literal_size wide
bytes_long true flags number rank = refl
bytes_long false flags number rank = refl

-- so many for a point that is plain or negated, and none for another
literal_long : (size : ℕ) (p n : Bool) (a b : List ℕ) → length a ≡ size → length b ≡ size → length (cond p a (cond n b [])) ≡ size * cond (p || n) 1 0
literal_long size true n a b e f = e ∙ sym (mul-one size)
literal_long size false true a b e f = f ∙ sym (mul-one size)
literal_long size false false a b e f = sym (mul-zero size)

joined_long : (size : ℕ) (f : ℕ → List ℕ) (p : ℕ → Bool) → ((k : ℕ) → length (f k) ≡ size * cond (p k) 1 0) → (n : ℕ) → length (joined n f) ≡ size * count n p
unfolding joined count
joined_long size f p h zero = sym (mul-zero size)
joined_long size f p h (suc n) =
    length-append (joined n f) (f n) ∙ ap₂ ◌+◌ (joined_long size f p h n) (h n) ∙ sym (mul-add size (count n p) (cond (p n) 1 0))

-- the count of ones of a word of n bits
ones_below : (n w : ℕ) → w < 2 ^ n → ones w ≡ count n (λ k. bit k w)
ones_below n w h = ones_in_law n w h ∙ ones_count n w

module _ (wide : Bool) (c : Constraint) where
  read_long : (k : ℕ) → length (read_literal wide c k) ≡ literal_size wide * cond (bit k (bit_or c.read_plain c.read_negated)) 1 0
  unfolding read_literal
  read_long k =
      literal_long (literal_size wide) (bit k c.read_plain) (bit k c.read_negated) (literal_bytes wide 0 k 0) (literal_bytes wide 0x80 k 0) (bytes_long wide 0 k 0) (bytes_long wide 0x80 k 0)
      ∙ ap (λ (b : Bool). literal_size wide * cond b 1 0) (sym (bit_of_or k c.read_plain c.read_negated))

  output_long : (k : ℕ) → length (output_literal wide c k) ≡ literal_size wide * cond (bit k (outs c)) 1 0
  unfolding output_literal
  output_long k =
      let x = rank c k in
      literal_long (literal_size wide) (bit k c.out_plain) (bit k c.out_negated) (literal_bytes wide 0x40 k x) (literal_bytes wide 0xC0 k x) (bytes_long wide 0x40 k x) (bytes_long wide 0xC0 k x)
      ∙ ap (λ (b : Bool). literal_size wide * cond b 1 0) (sym (bit_of_or k c.out_plain c.out_negated))

  -- so many for each one of the masks, no more than for the most points
  pub literals_long : bit_or c.read_plain c.read_negated < 2 ^ most_reads → outs c < 2 ^ most_outputs
      → literal_size wide * (ones (bit_or c.read_plain c.read_negated) + ones (outs c)) ≡ length (literals_by wide c)
  unfolding literals_by
  literals_long hr ho =
      let reads : ℕ = bit_or c.read_plain c.read_negated in
      let size = literal_size wide in
      ap₂ (λ (x y : ℕ). size * (x + y)) (ones_below most_reads reads hr) (ones_below most_outputs (outs c) ho)
      ∙ mul-add size (count most_reads (λ k. bit k reads)) (count most_outputs (λ k. bit k (outs c)))
      ∙ sym (length-append (joined most_reads (read_literal wide c)) (joined most_outputs (output_literal wide c))
      ∙ ap₂ ◌+◌ (joined_long size (read_literal wide c) (λ k. bit k reads) read_long most_reads) (joined_long size (output_literal wide c) (λ k. bit k (outs c)) output_long most_outputs))
