-- Eight vectors judged at once (specs/way/Eight): bit j of the byte b tells whether the vector 8 b + j is safe, and no bit is set that was not asked for.
-- Assumes nothing.
use mathlib.Core.Path.{◌≡◌, refl, sym, ap, ap₂, ◌∙◌}
use mathlib.Core.Bool.{Bool, true, false, cond, not, ◌&&◌}
use mathlib.Core.List.{List}
use Prim.Native.Nat.{ℕ, ◌+◌, ◌*◌, ◌/◌, ◌%◌, ◌≤◌, ◌<◌, min}
use native.Mathlib.Nat.{lt_of_le_of_lt}
use native.Mathlib.Omega.{arith}
use lib.Arith.{bin_ind}
use lib.Dec.{eqb}
use lib.ListN.{get_or}
use lib.Bits.{bit_and, and_step, and_shr, and_mod, and_le_l, xor_add_and}
use Rattle.words.specs.Word.{bit, without, meets}
use Rattle.words.proofs.BoolLaws.{and_assoc}
use Rattle.words.proofs.BitLaws.{bit_of_and, bit_without, bit_zero, split_eight}
use Rattle.words.proofs.LoopLaws.{bit_cond, bit_gather, bit_word, some_cong, word_lt}
use Rattle.scan.specs.declared.holds.Holds.{Holds}
use Rattle.scan.specs.declared.holds.Holds.TheVariants.{Forced, Clash}
use Rattle.scan.specs.declared.table.Table.{Table}
use Rattle.scan.specs.declared.eight.Eight.{Eight}
use Rattle.scan.specs.Set.{most_constraints}
use Rattle.scan.specs.way.Columns.{entry_true}
use Rattle.scan.specs.way.Table.{entry_flips, flips_over, any_true, safe_over, safe_held, safe_in}
use Rattle.scan.specs.way.Eight.{low_true, low_held, high_part, low_part, eight_of, safe_byte, safe_byte_held, safe_byte_in}
use Rattle.scan.proofs.PlacesLaws.{places_at}

-- ---- one of the eight

module _ (b j : ℕ) (l : j < 8) where
  high_is : b ≡ (8 * b + j) / 8
  high_is = omega (arith, l)

  low_is : j ≡ (8 * b + j) % 8
  low_is = omega (arith, l)

  low_bit : (plain named : ℕ) → bit j (low_true plain named) ≡ eqb (bit_and j (named % 8)) (plain % 8)
  unfolding low_true
  low_bit plain named = bit_word j 8 (λ k. eqb (bit_and k (named % 8)) (plain % 8)) l

  -- a product of literals is true at it where those of the outputs from 3 on are true for all eight, and those of outputs 0 to 2 at bit j
  product_bit : (plain named : ℕ) → eqb (bit_and b (named / 8)) (plain / 8) && bit j (low_true plain named) ≡ eqb (bit_and (8 * b + j) named) plain
  product_bit plain named =
      ap (λ (x : Bool). eqb (bit_and b (named / 8)) (plain / 8) && x) (low_bit plain named)
      ∙ ap₂ (λ (x y : ℕ). eqb (bit_and x (named / 8)) (plain / 8) && eqb (bit_and y (named % 8)) (plain % 8)) high_is low_is
      ∙ sym (split_eight (8 * b + j) named plain)

  -- ---- the holds

  crosswise : (h₁ h₀ l₁ l₀ : Bool) → (h₁ && h₀) && (l₁ && l₀) ≡ (h₁ && l₁) && (h₀ && l₀)
  crosswise false h₀ l₁ l₀ = refl
  crosswise true true l₁ l₀ = refl
  crosswise true false true l₀ = refl
  crosswise true false false l₀ = refl

  -- every held output is as it is held where those from 3 on are, and those of outputs 0 to 2
  held_bit : (f0 f1 : ℕ) → meets (f1 / 8) (f0 / 8) b && bit j (low_held f0 f1) ≡ meets f1 f0 (8 * b + j)
  unfolding low_held meets
  held_bit f0 f1 =
      let h₁ = eqb (bit_and b (f1 / 8)) (f1 / 8) in
      let h₀ = eqb (bit_and b (f0 / 8)) 0 in
      ap (λ (x : Bool). (h₁ && h₀) && x) (bit_of_and j (low_true f1 f1) (low_true 0 f0))
      ∙ crosswise h₁ h₀ (bit j (low_true f1 f1)) (bit j (low_true 0 f0))
      ∙ ap₂ ◌&&◌ (product_bit f1 f1) (product_bit 0 f0)

  -- ---- the entries

  module _ (plain named : List ℕ) (count : ℕ) (e : Eight) (is : e ≡ eight_of plain named count) where
    plain_at : (i : ℕ) → i < min count most_constraints → get_or e.high.plain i 0 ≡ high_part plain i
    unfolding eight_of
    plain_at i h = ap (λ (x : Eight). get_or x.high.plain i 0) is ∙ places_at (high_part plain) (min count most_constraints) i h

    named_at : (i : ℕ) → i < min count most_constraints → get_or e.high.named i 0 ≡ high_part named i
    unfolding eight_of
    named_at i h = ap (λ (x : Eight). get_or x.high.named i 0) is ∙ places_at (high_part named) (min count most_constraints) i h

    low_at : (i : ℕ) → i < min count most_constraints → get_or e.low i 0 ≡ low_part plain named i
    unfolding eight_of
    low_at i h = ap (λ (x : Eight). get_or x.low i 0) is ∙ places_at (low_part plain named) (min count most_constraints) i h

    entry_bit : (i : ℕ) → i < min count most_constraints → bit j (entry_flips e.high.plain e.high.named e.low b i) ≡ entry_true plain named (8 * b + j) i
    unfolding entry_flips entry_true
    entry_bit i h =
        bit_cond (eqb (bit_and b (get_or e.high.named i 0)) (get_or e.high.plain i 0)) j (get_or e.low i 0)
        ∙ (λ k. eqb (bit_and b (named_at i h k)) (plain_at i h k) && bit j (low_at i h k))
        ∙ product_bit (get_or plain i 0) (get_or named i 0)

    -- some entry is true at it
    any_bit : bit j (flips_over e.high.plain e.high.named e.low count b) ≡ any_true plain named count (8 * b + j)
    unfolding flips_over any_true
    any_bit =
        bit_gather j (min count most_constraints) (entry_flips e.high.plain e.high.named e.low b)
        ∙ some_cong (min count most_constraints) (λ i. bit j (entry_flips e.high.plain e.high.named e.low b i)) (entry_true plain named (8 * b + j)) entry_bit

    -- ---- the byte, where these are asked for

    byte_bit : (held f0 f1 : ℕ) → bit j (safe_byte held f0 f1 e.high.plain e.high.named e.low count b)
        ≡ meets (f1 / 8) (f0 / 8) b && (bit j held && not (any_true plain named count (8 * b + j)))
    unfolding safe_byte
    byte_bit held f0 f1 =
        let true-at = flips_over e.high.plain e.high.named e.low count b in
        let kept = meets (f1 / 8) (f0 / 8) b in
        bit_cond kept j (without held true-at)
        ∙ ap (λ (x : Bool). kept && x) (bit_without j held true-at)
        ∙ ap (λ (x : Bool). kept && (bit j held && not x)) any_bit

-- ---- the byte

outward : (m h c n : Bool) → m && ((h && c) && n) ≡ c && ((m && h) && n)
outward true true c n = refl
outward true false true n = refl
outward true false false n = refl
outward false h true n = refl
outward false h false n = refl

-- the entries are as many
pub eight_count : (plain named : List ℕ) (count : ℕ) (e : Eight) → e ≡ eight_of plain named count → e.high.count ≡ count
unfolding eight_of
eight_count plain named count e is = ap (λ (x : Eight). x.high.count) is

-- of those chosen, the safe ones
pub safe_byte_bit : (plain named : List ℕ) (count : ℕ) (e : Eight) → e ≡ eight_of plain named count → (f0 f1 chosen b j : ℕ) → j < 8
    → bit j (safe_byte (bit_and (low_held f0 f1) chosen) f0 f1 e.high.plain e.high.named e.low count b)
    ≡ bit j chosen && safe_over f0 f1 plain named count (8 * b + j)
unfolding safe_over
safe_byte_bit plain named count e is f0 f1 chosen b j l =
    let kept = meets (f1 / 8) (f0 / 8) b in
    let none = not (any_true plain named count (8 * b + j)) in
    byte_bit b j l plain named count e is (bit_and (low_held f0 f1) chosen) f0 f1
    ∙ ap (λ (x : Bool). kept && (x && none)) (bit_of_and j (low_held f0 f1) chosen)
    ∙ outward kept (bit j (low_held f0 f1)) (bit j chosen) none
    ∙ ap (λ (x : Bool). bit j chosen && (x && none)) (held_bit b j l f0 f1)

-- by the holds: all the safe ones, and none at a clash
safe_byte_held_law : (h : Holds) (plain named : List ℕ) (count b j : ℕ) → j < 8 → bit j (safe_byte_held h plain named count b) ≡ safe_held h plain named count (8 * b + j)
unfolding safe_over
safe_byte_held_law (Forced f0 f1) plain named count b j l =
    let kept = meets (f1 / 8) (f0 / 8) b in
    let none = not (any_true plain named count (8 * b + j)) in
    byte_bit b j l plain named count (eight_of plain named count) refl (low_held f0 f1) f0 f1
    ∙ and_assoc kept (bit j (low_held f0 f1)) none
    ∙ ap (λ (x : Bool). x && none) (held_bit b j l f0 f1)
safe_byte_held_law (Clash k) plain named count b j l = bit_zero j

-- by a table
pub safe_byte_in_law : (t : Table) (b j : ℕ) → j < 8 → bit j (safe_byte_in t b) ≡ safe_in t (8 * b + j)
unfolding safe_byte_in
safe_byte_in_law t b j l = safe_byte_held_law t.holds t.entries.plain t.entries.named t.entries.count b j l

-- ---- how large the bytes are

and_again : (a b : ℕ) → bit_and a (bit_and a b) ≡ bit_and a b
and_again =
    bin_ind (λ (n : ℕ). (b : ℕ) → bit_and n (bit_and n b) ≡ bit_and n b) (λ b. refl)
    (λ n ih b. let whole = and_step n (bit_and n b) in
    let high : bit_and (n / 2) (bit_and n b / 2) ≡ bit_and n b / 2 = ap (bit_and (n / 2)) (and_shr n b 1) ∙ ih (b / 2) ∙ sym (and_shr n b 1) in
    let same : bit_and n b % 2 ≡ bit_and (n % 2) (b % 2) = and_mod n b 1 in
    let digit = and_le_l (n % 2) (b % 2) in
    omega (arith, whole, high, same, digit))

without_le : (a b : ℕ) → without a b ≤ a
unfolding without
without_le a b = let sum = xor_add_and a (bit_and a b) in let again = and_again a b in omega (arith, sum, again)

cond_le : (c : Bool) (x most : ℕ) → x ≤ most → cond c x 0 ≤ most
cond_le true x most h = h
cond_le false x most h = omega arith

pub safe_byte_le : (held f0 f1 : ℕ) (plain named low : List ℕ) (count b : ℕ) → safe_byte held f0 f1 plain named low count b ≤ held
unfolding safe_byte
safe_byte_le held f0 f1 plain named low count b =
    let true-at = flips_over plain named low count b in
    cond_le (meets (f1 / 8) (f0 / 8) b) (without held true-at) held (without_le held true-at)

pub low_held_lt : (f0 f1 : ℕ) → low_held f0 f1 < 256
unfolding low_held low_true
low_held_lt f0 f1 = lt_of_le_of_lt (and_le_l (low_true f1 f1) (low_true 0 f0)) (word_lt 8 (λ j. eqb (bit_and j (f1 % 8)) (f1 % 8)))
