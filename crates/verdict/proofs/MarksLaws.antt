-- Marks, a bit of a byte for each vector: which vectors are marked, one mark more, and the bytes that judging eight vectors at once makes.
-- Assumes nothing.
use mathlib.Core.Path.{◌≡◌, refl, sym, ap, ap₂, ◌∙◌, subst}
use mathlib.Core.Bool.{Bool, true, false, not, ◌&&◌, ◌||◌}
use mathlib.Core.List.{List}
use Prim.Native.Nat.{ℕ, zero, suc, ◌+◌, ◌-◌, ◌*◌, ◌/◌, ◌%◌, ◌^◌, ◌≤◌, ◌<◌}
use native.Mathlib.Nat.{mod-lt, lt_of_le_of_lt}
use native.Mathlib.Decide.{ℕ_discrete, dec_lt}
use native.Mathlib.Omega.{arith}
use lib.Dec.{eqb, ltb, lit<}
use lib.ListN.{length, get_or, set, length-set, get_or-eq_default}
use lib.Bits.{bit_and, bit_or, and_le_l}
use lib.Pow.{pow_pos}
use lib.Seq.{get_or-set_same, get_or-set_other}
use borrow.Author.Tests.{eq-eqb, ne_eqb, eqb-true, lt-ltb, le-ltb, ltb-true, not-true}
use Rattle.words.specs.Word.{bit}
use Rattle.words.specs.Loop.{some, listed}
use Rattle.words.proofs.BoolLaws.{by_test, clash, same_truth, and_true}
use Rattle.words.proofs.BitLaws.{bit_of_or, bit_zero, bit_pow, bit_above, same_bits, same_parts}
use Rattle.words.proofs.LoopLaws.{some_at, some_true, some_cong, bit_word, bit_low, word_lt, some_bit, listed_long, listed_cong, get_d_listed}
use Rattle.scan.specs.declared.eight.Eight.{Eight}
use Rattle.scan.specs.way.Table.{safe_over}
use Rattle.scan.specs.way.Eight.{low_held, eight_of, safe_byte}
use Rattle.scan.proofs.EightLaws.{eight_count, safe_byte_bit, safe_byte_le, low_held_lt}
use Rattle.verdict.specs.Judge.{scratch_bytes}
use Rattle.verdict.specs.way.Marks.{marked, with_mark, within, mark_byte, marked_where, has_mark, first_vectors}
use Rattle.verdict.proofs.JudgeLaws.{scratch_one, scratch_eighth, scratch_enough}

-- a vector is told by its byte and its bit there
place_is : (v : ℕ) → 8 * (v / 8) + v % 8 ≡ v
place_is v = omega arith

-- a byte that the marks of n outputs have holds a vector of theirs
pub byte_lt : (n v : ℕ) → v < 2 ^ n → v / 8 < scratch_bytes n
byte_lt n v h = omega (arith, scratch_enough n)

-- ---- one mark more

pub mark_length : (marks : List ℕ) (v : ℕ) → length (with_mark marks v) ≡ length marks
unfolding with_mark
mark_length marks v = length-set marks (v / 8) _

module _ (marks : List ℕ) (v : ℕ) (h : v / 8 < length marks) where
  or_none : (b : Bool) → b ≡ b || false
  or_none true = refl
  or_none false = refl

  pub marked_more : (u : ℕ) → marked (with_mark marks v) u ≡ marked marks u || eqb u v
  unfolding marked with_mark
  marked_more u = go (ℕ_discrete (u / 8) (v / 8))
    where
      go : Dec (u / 8 ≡ v / 8)
          → bit (u % 8) (get_or (set marks (v / 8) (bit_or (get_or marks (v / 8) 0) (2 ^ (v % 8)))) (u / 8) 0) ≡ bit (u % 8) (get_or marks (u / 8) 0) || eqb u v
      go (yes q) =
          ap (λ (k : ℕ). bit (u % 8) (get_or (set marks (v / 8) (bit_or (get_or marks (v / 8) 0) (2 ^ (v % 8)))) k 0)) q
          ∙ ap (bit (u % 8)) (get_or-set_same marks (v / 8) _ 0 h)
          ∙ bit_of_or (u % 8) (get_or marks (v / 8) 0) (2 ^ (v % 8))
          ∙ ap₂ (λ (k : ℕ) (b : Bool). bit (u % 8) (get_or marks k 0) || b) (sym q)
          (bit_pow (u % 8) (v % 8) ∙ sym (same_parts u v ∙ ap (λ (b : Bool). b && eqb (u % 8) (v % 8)) (eq-eqb (u / 8) (v / 8) q)))
      go (no nq) =
          ap (bit (u % 8)) (get_or-set_other marks (v / 8) (u / 8) _ 0 nq)
          ∙ or_none (bit (u % 8) (get_or marks (u / 8) 0))
          ∙ ap (λ (b : Bool). bit (u % 8) (get_or marks (u / 8) 0) || b)
          (sym (same_parts u v ∙ ap (λ (b : Bool). b && eqb (u % 8) (v % 8)) (ne_eqb (u / 8) (v / 8) nq)))

-- ---- the vectors that pass a test

module _ (n : ℕ) (ok : ℕ → Bool) where
  -- bit j of byte b
  pub mark_bit : (b j : ℕ) → j < 8 → bit j (mark_byte n ok b) ≡ within n ok (8 * b + j)
  unfolding mark_byte
  mark_bit b j h = bit_word j 8 (λ k. within n ok (8 * b + k)) h

  within_not : (v : ℕ) → ltb v (2 ^ n) ≡ false → false ≡ within n ok v
  unfolding within
  within_not v e = ap (λ (b : Bool). b && ok v) (sym e)

  -- just those of n outputs that pass it are marked
  pub marked_where_law : (v : ℕ) → marked (marked_where n ok) v ≡ within n ok v
  unfolding marked
  marked_where_law v = go (dec_lt (v / 8) (scratch_bytes n))
    where
      go : Dec (v / 8 < scratch_bytes n) → bit (v % 8) (get_or (marked_where n ok) (v / 8) 0) ≡ within n ok v
      go (yes h) =
          ap (bit (v % 8)) (get_d_listed (mark_byte n ok) 0 (scratch_bytes n) (v / 8) h)
          ∙ mark_bit (v / 8) (v % 8) (mod-lt v (lit< tt))
          ∙ ap (within n ok) (place_is v)
      go (no nh) =
          ap (bit (v % 8)) (get_or-eq_default (marked_where n ok) 0 (subst (λ (k : ℕ). k ≤ v / 8) (sym (listed_long (mark_byte n ok) (scratch_bytes n))) (omega arith)))
          ∙ bit_zero (v % 8)
          ∙ within_not v (le-ltb v (2 ^ n) (omega (arith, scratch_enough n)))

  -- a byte has a mark where one of its vectors passes
  mark_there : (v : ℕ) → within n ok v ≡ true → has_mark (mark_byte n ok) (v / 8) ≡ true
  mark_there v e =
      by_test (eqb (mark_byte n ok (v / 8)) 0)
      (λ t. clash
      (mark_bit (v / 8) (v % 8) (mod-lt v (lit< tt)) ∙ ap (within n ok) (place_is v) ∙ e)
      (ap (bit (v % 8)) (eqb-true (mark_byte n ok (v / 8)) 0 t) ∙ bit_zero (v % 8)))
      (λ t. ap not t)

  mark_of : (b : ℕ) → has_mark (mark_byte n ok) b ≡ true → (v : ℕ) × (within n ok v ≡ true)
  unfolding mark_byte
  mark_of b e =
      let x = some_bit 8 (mark_byte n ok b) (word_lt 8 (λ k. within n ok (8 * b + k))) (positive (mark_byte n ok b) (not-true _ e)) in
      (8 * b + x.0, sym (mark_bit b x.0 x.1) ∙ x.2)
    where
      positive : (w : ℕ) → eqb w 0 ≡ false → zero < w
      positive zero t = clash (eq-eqb 0 0 refl) t
      positive (suc w) t = omega arith

  within_of : (v : ℕ) → within n ok v ≡ true → (v < 2 ^ n) × (ok v ≡ true)
  unfolding within
  within_of v e = let b = and_true (ltb v (2 ^ n)) (ok v) e in (ltb-true v (2 ^ n) b.0, b.1)

  within_at : (v : ℕ) → v < 2 ^ n → within n ok v ≡ ok v
  unfolding within
  within_at v h = ap (λ (b : Bool). b && ok v) (lt-ltb v (2 ^ n) h)

  -- some byte has a mark where some vector passes
  pub some_mark : some (scratch_bytes n) (has_mark (mark_byte n ok)) ≡ some (2 ^ n) ok
  some_mark =
      same_truth (some (scratch_bytes n) (has_mark (mark_byte n ok))) (some (2 ^ n) ok)
      (λ e. let b = some_at (scratch_bytes n) (has_mark (mark_byte n ok)) e in
      let v = mark_of b.0 b.2 in
      let w = within_of v.0 v.1 in
      some_true (2 ^ n) ok v.0 w.0 w.1)
      (λ e. let v = some_at (2 ^ n) ok e in
      some_true (scratch_bytes n) (has_mark (mark_byte n ok)) (v.0 / 8) (byte_lt n v.0 v.1) (mark_there v.0 (within_at v.0 v.1 ∙ v.2)))

  pub marked_here : (v : ℕ) → v < 2 ^ n → marked (marked_where n ok) v ≡ ok v
  marked_here v h = marked_where_law v ∙ within_at v h

  pub marked_passes : (v : ℕ) → marked (marked_where n ok) v ≡ true → (v < 2 ^ n) × (ok v ≡ true)
  marked_passes v e = within_of v (sym (marked_where_law v) ∙ e)

-- ---- eight vectors at once

module _ (n b : ℕ) (there : b < scratch_bytes n) where
  -- of the eight vectors of a byte those that n outputs have
  first_bit : (j : ℕ) → j < 8 → bit j (first_vectors n) ≡ ltb (8 * b + j) (2 ^ n)
  unfolding first_vectors
  first_bit j h = go (dec_lt n 3)
    where
      below : n < 3 → Dec (j < 2 ^ n) → bit j (2 ^ (2 ^ n) - 1) ≡ ltb (8 * b + j) (2 ^ n)
      below few (yes l) = bit_low (2 ^ n) j l ∙ sym (lt-ltb (8 * b + j) (2 ^ n) (omega (arith, scratch_one n few)))
      below few (no nl) = bit_above (2 ^ n) j (2 ^ (2 ^ n) - 1) (omega (arith, pow_pos (2 ^ n))) (omega arith) ∙ sym (le-ltb (8 * b + j) (2 ^ n) (omega arith))

      go : Dec (n < 3) → bit j (first_vectors n) ≡ ltb (8 * b + j) (2 ^ n)
      go (yes few) = rw (lt-ltb n 3 few) (below few (dec_lt j (2 ^ n)))
      go (no many) =
          rw (le-ltb n 3 (omega arith))
          (bit_low 8 j h ∙ sym (lt-ltb (8 * b + j) (2 ^ n) (omega (arith, scratch_eighth n (omega arith)))))

  -- the byte that judging eight at once makes
  safe_byte_is : (plain named : List ℕ) (count : ℕ) (e : Eight) → e ≡ eight_of plain named count → (f0 f1 held : ℕ) → held ≡ bit_and (low_held f0 f1) (first_vectors n)
      → safe_byte held f0 f1 e.high.plain e.high.named e.low e.high.count b ≡ mark_byte n (safe_over f0 f1 plain named count) b
  unfolding within mark_byte
  safe_byte_is plain named count e ee f0 f1 held eh =
      ap₂ (λ (x k : ℕ). safe_byte x f0 f1 e.high.plain e.high.named e.low k b) eh (eight_count plain named count e ee)
      ∙ same_bits 8 _ (mark_byte n (safe_over f0 f1 plain named count) b)
      (lt_of_le_of_lt (safe_byte_le _ f0 f1 e.high.plain e.high.named e.low count b) (lt_of_le_of_lt (and_le_l (low_held f0 f1) (first_vectors n)) (low_held_lt f0 f1)))
      (word_lt 8 _)
      (λ j h. safe_byte_bit plain named count e ee f0 f1 (first_vectors n) b j h
      ∙ ap (λ (x : Bool). x && safe_over f0 f1 plain named count (8 * b + j)) (first_bit j h)
      ∙ sym (mark_bit n (safe_over f0 f1 plain named count) b j h))

-- all bytes of n outputs, and whether one has a safe vector
module _ (n : ℕ) (plain named : List ℕ) (count : ℕ) (e : Eight) (ee : e ≡ eight_of plain named count) (f0 f1 held : ℕ)
    (eh : held ≡ bit_and (low_held f0 f1) (first_vectors n)) where
  pub bytes_are : listed (scratch_bytes n) (safe_byte held f0 f1 e.high.plain e.high.named e.low e.high.count) ≡ marked_where n (safe_over f0 f1 plain named count)
  bytes_are = listed_cong (scratch_bytes n) _ _ (λ b h. safe_byte_is n b h plain named count e ee f0 f1 held eh)

  pub some_safe : some (scratch_bytes n) (has_mark (safe_byte held f0 f1 e.high.plain e.high.named e.low e.high.count)) ≡ some (2 ^ n) (safe_over f0 f1 plain named count)
  some_safe =
      some_cong (scratch_bytes n) _ (has_mark (mark_byte n (safe_over f0 f1 plain named count)))
      (λ b h. ap (λ (x : ℕ). not (eqb x 0)) (safe_byte_is n b h plain named count e ee f0 f1 held eh))
      ∙ some_mark n (safe_over f0 f1 plain named count)

-- what is held of eight vectors is a byte
pub held_le : (f0 f1 n : ℕ) → bit_and (low_held f0 f1) (first_vectors n) ≤ 255
held_le f0 f1 n = omega (arith, and_le_l (low_held f0 f1) (first_vectors n), low_held_lt f0 f1)
