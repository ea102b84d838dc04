-- The lowest bit of a word: where it is, the word without it, and a word gone through bit by bit from below.
-- Assumes nothing.
use mathlib.Core.Path.{◌≡◌, refl, sym, ap, ◌∙◌}
use mathlib.Core.Bool.{Bool, true, false, ◌&&◌}
use Prim.Native.Nat.{ℕ, zero, suc, ◌+◌, ◌-◌, ◌/◌, ◌%◌, ◌^◌, ◌≤◌, ◌<◌}
use native.Mathlib.Nat.{not-suc-le-zero, le_of_suc-le-suc}
use native.Mathlib.Decide.{dec_lt}
use native.Mathlib.Omega.{arith}
use lib.Dec.{eqb}
use lib.Bits.{bit_and}
use lib.Count.{under, count_trailing_zeros}
use borrow.Author.Tests.{eqb-true, eqb-false}
use Rattle.words.specs.Word.{odd, bit}
use Rattle.words.proofs.BoolLaws.{by_test, clash, and_false}
use Rattle.words.proofs.BitLaws.{bit_of_and, bit_zero, bit_half, bit_lowest, half_lt, digit_lt}

-- t is the lowest bit of x; one less than x has no bit there, and above it the bits of x
pub record Lowest (x t : ℕ) : Type 0 where
  pub here : bit t x ≡ true
  pub below : (j : ℕ) → j < t → bit j x ≡ false
  pub cleared : bit t (x - 1) ≡ false
  pub above : (j : ℕ) → t < j → bit j (x - 1) ≡ bit j x

bit_first : (x d : ℕ) → x % 2 ≡ d → bit 0 x ≡ eqb d 1
unfolding odd
bit_first x d e = bit_lowest x ∙ ap (λ (y : ℕ). eqb y 1) e

lowest_odd : (x : ℕ) → x % 2 ≡ 1 → Lowest x 0
lowest_odd x e =
    let half : (x - 1) / 2 ≡ x / 2 = omega arith in
    let rest : (x - 1) % 2 ≡ 0 = omega arith in record {
      here = bit_first x 1 e;
      below = λ j h. absurd (not-suc-le-zero h);
      cleared = bit_first (x - 1) 0 rest;
      above = on half;
    }
  where
    on : (x - 1) / 2 ≡ x / 2 → (j : ℕ) → 0 < j → bit j (x - 1) ≡ bit j x
    on half zero h = absurd (not-suc-le-zero h)
    on half (suc j) h = sym (bit_half j (x - 1)) ∙ ap (bit j) half ∙ bit_half j x

lowest_even : (x t : ℕ) → 0 < x → x % 2 ≡ 0 → Lowest (x / 2) t → Lowest x (suc t)
lowest_even x t some e l =
    let half : (x - 1) / 2 ≡ x / 2 - 1 = omega arith in record {
      here = sym (bit_half t x) ∙ l.here;
      below = under_it;
      cleared = sym (bit_half t (x - 1)) ∙ ap (bit t) half ∙ l.cleared;
      above = over_it half;
    }
  where
    under_it : (j : ℕ) → j < suc t → bit j x ≡ false
    under_it zero h = bit_first x 0 e
    under_it (suc j) h = sym (bit_half j x) ∙ l.below j (le_of_suc-le-suc h)

    over_it : (x - 1) / 2 ≡ x / 2 - 1 → (j : ℕ) → suc t < j → bit j (x - 1) ≡ bit j x
    over_it half zero h = absurd (not-suc-le-zero h)
    over_it half (suc j) h = sym (bit_half j (x - 1)) ∙ ap (bit j) half ∙ l.above j (le_of_suc-le-suc h) ∙ bit_half j x

-- what `trailing_zeros` gives is the lowest bit
pub lowest : (w x : ℕ) → 0 < x → x < 2 ^ w → Lowest x (count_trailing_zeros w x)
unfolding count_trailing_zeros
lowest zero x some h = absurd (omega arith)
lowest (suc w) x some h = go (x % 2) refl (λ more. lowest w (x / 2) more (half_lt w x h))
  where
    go : (d : ℕ) → x % 2 ≡ d → (0 < x / 2 → Lowest (x / 2) (count_trailing_zeros w (x / 2))) → Lowest x (under d (count_trailing_zeros w (x / 2)))
    go zero e rest = lowest_even x _ some e (rest (omega arith))
    go (suc d) e rest = lowest_odd x (omega (arith, digit_lt x))

-- ---- a word gone through from below

-- `left` has the bits of w from k on
pub record Rest (w left k : ℕ) : Type 0 where
  pub from : (j : ℕ) → k ≤ j → bit j left ≡ bit j w
  pub before : (j : ℕ) → j < k → bit j left ≡ false

pub rest_all : (w : ℕ) → Rest w w 0
rest_all w = record { from = λ j h. refl; before = λ j h. absurd (not-suc-le-zero h) }

-- nothing is left: no bit from k on
pub rest_none : (w left k : ℕ) → Rest w left k → left ≤ 0 → (j : ℕ) → k ≤ j → bit j w ≡ false
rest_none w left k r none j h = let e : left ≡ 0 = omega arith in sym (r.from j h) ∙ ap (bit j) e ∙ bit_zero j

and_same : (b : Bool) → b && b ≡ b
and_same true = refl
and_same false = refl

module _ (w left k t : ℕ) (r : Rest w left k) (l : Lowest left t) where
  -- the lowest bit that is left is the next of the word
  pub rest_from : k ≤ t
  rest_from = go (dec_lt t k)
    where
      go : Dec (t < k) → k ≤ t
      go (yes h) = clash l.here (r.before t h)
      go (no h) = omega arith

  pub rest_here : bit t w ≡ true
  rest_here = sym (r.from t rest_from) ∙ l.here

  pub rest_gap : (j : ℕ) → k ≤ j → j < t → bit j w ≡ false
  rest_gap j h b = sym (r.from j h) ∙ l.below j b

  pub rest_next : Rest w (bit_and left (left - 1)) (t + 1)
  rest_next = record {
    from = λ j h. bit_of_and j left (left - 1) ∙ ap (λ (b : Bool). bit j left && b) (l.above j (omega arith)) ∙ and_same (bit j left) ∙ r.from j (omega (arith, rest_from));
    before = λ j h. bit_of_and j left (left - 1) ∙ by_test (eqb j t)
        (λ e. and_false (bit j left) (bit j (left - 1)) (ap (λ (i : ℕ). bit i (left - 1)) (eqb-true j t e) ∙ l.cleared))
        (λ e. let ne = eqb-false j t e in ap (λ (b : Bool). b && bit j (left - 1)) (l.below j (omega (arith, ne))));
  }
