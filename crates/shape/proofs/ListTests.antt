-- What the library's methods say of a list's elements, said by places: `all` and `position`.
-- Assumes nothing.
use mathlib.Core.Path.{◌≡◌, refl, sym, ap, ap₂, subst, ◌∙◌}
use mathlib.Core.List.{List, [], ◌∷◌}
use mathlib.Core.Bool.{Bool, true, false, not, cond, ◌&&◌}
use Prim.Native.Nat.{ℕ, zero, suc, ◌+◌, ◌≤◌, ◌<◌}
use native.Mathlib.Nat.{not-suc-le-zero}
use Rattle.std.proofs.Common.{one-add}
use native.Mathlib.Omega.{arith}
use lib.Dec.{ltb}
use lib.ListN.{length, get_or}
use borrow.Author.Tests.{ltb-true, ltb-false}
use Rattle.std.specs.Prelude.{Option, Some, None}
use Rattle.std.specs.List.{list_all, position_or_len}
use Rattle.std.specs.Option.{unwrap_or}
use Rattle.words.specs.Loop.{all, first}
use Rattle.words.proofs.BoolLaws.{by_test, same_truth, and_true}
use Rattle.words.proofs.LoopLaws.{all_true, all_at, first_is, first_none}

module _ {A : Type 0} (p : A → Bool) (none : A) where
  -- the test at a place
  abbrev pub at : List A → ℕ → Bool
  at xs k = p (get_or xs k none)

  each : (xs : List A) → list_all p xs ≡ true → (k : ℕ) → k < length xs → at xs k ≡ true
  each [] e k h = absurd (not-suc-le-zero h)
  each (x ∷ xs) e zero h = (and_true (p x) _ e).0
  each (x ∷ xs) e (suc k) h = each xs (and_true (p x) _ e).1 k (omega arith)

  every_one : (xs : List A) → ((k : ℕ) → k < length xs → at xs k ≡ true) → list_all p xs ≡ true
  every_one [] f = refl
  every_one (x ∷ xs) f = ap₂ ◌&&◌ (f 0 (omega arith)) (every_one xs (λ k h. f (suc k) (omega arith)))

  -- all elements pass exactly where all places do
  pub all_places : (xs : List A) → list_all p xs ≡ all (length xs) (at xs)
  all_places xs = same_truth _ _ (λ e. all_true (length xs) (at xs) (each xs e)) (λ e. every_one xs (all_at (length xs) (at xs) e))

  -- the first place that passes, from the front
  record Place (xs : List A) (i : ℕ) : Type 0 where
    within : i ≤ length xs
    before : (k : ℕ) → k < i → at xs k ≡ false
    here : i < length xs → at xs i ≡ true

  step : (x : A) (xs : List A) (b : Bool) → p x ≡ b → position_or_len p (x ∷ xs) ≡ cond (not b) (1 + position_or_len p xs) 0
  step x xs b e = ap (λ (c : Bool). cond (not c) (1 + position_or_len p xs) 0) e

  behind : (x : A) (xs : List A) (i : ℕ) → p x ≡ false → Place xs i → Place (x ∷ xs) (1 + i)
  behind x xs i t s =
      let w = s.within in
      record { within = omega arith; before = early x xs i t s; here = later x xs i s }
    where
      early : (x : A) (xs : List A) (i : ℕ) → p x ≡ false → Place xs i → (k : ℕ) → k < 1 + i → at (x ∷ xs) k ≡ false
      early x xs i t s zero h = t
      early x xs i t s (suc k) h = s.before k (omega arith)

      later : (x : A) (xs : List A) (i : ℕ) → Place xs i → 1 + i < length (x ∷ xs) → at (x ∷ xs) (1 + i) ≡ true
      later x xs i s h = ap (at (x ∷ xs)) (one-add i) ∙ s.here (omega arith)

  place_of : (xs : List A) → Place xs (position_or_len p xs)
  place_of [] = record { within = omega arith; before = λ k h. absurd (not-suc-le-zero h); here = λ h. absurd (not-suc-le-zero h) }
  place_of (x ∷ xs) =
      by_test (p x)
      (λ t. subst (Place (x ∷ xs)) (sym (step x xs true t)) (record { within = omega arith; before = λ k h. absurd (not-suc-le-zero h); here = λ h. t }))
      (λ t. subst (Place (x ∷ xs)) (sym (step x xs false t)) (behind x xs (position_or_len p xs) t (place_of xs)))

  pub first_place : (xs : List A) → position_or_len p xs ≡ first (length xs) (at xs)
  first_place xs =
      let i = position_or_len p xs in
      let s = place_of xs in
      by_test (ltb i (length xs))
      (λ t. let l = ltb-true i (length xs) t in sym (first_is (length xs) i (at xs) l (s.here l) s.before))
      (λ t. let w = s.within in let end : i ≡ length xs = omega (arith, ltb-false i (length xs) t) in
      end ∙ sym (first_none (length xs) (at xs) (λ j h. s.before j (omega arith))))

  -- what `position` answers, or the list's length
  pub place_or_end : (xs : List A) (n : ℕ) → length xs ≡ n → (r : Option ℕ) → r ≡ cond (ltb (position_or_len p xs) (length xs)) (Some (position_or_len p xs)) None
      → unwrap_or r n ≡ first n (at xs)
  place_or_end xs n e r er =
      let i = position_or_len p xs in
      let w = (place_of xs).within in
      ap (λ (o : Option ℕ). unwrap_or o n) er
      ∙ by_test (ltb i (length xs))
      (λ t. ap (λ (b : Bool). unwrap_or (cond b (Some i) None) n) t)
      (λ t. ap (λ (b : Bool). unwrap_or (cond b (Some i) None) n) t ∙ omega (arith, ltb-false i (length xs) t))
      ∙ first_place xs ∙ ap (λ (m : ℕ). first m (at xs)) e
