-- Simple and combined constraints: a simple one has one output literal, and one with an output is simple or combined.
-- Assumes nothing.
use mathlib.Core.Path.{◌≡◌, sym, ap, ap₂, ◌∙◌, subst}
use mathlib.Core.Bool.{true, false, not, ◌&&◌}
use Prim.Native.Nat.{ℕ, ◌^◌, ◌≤◌, ◌<◌}
use native.Mathlib.Nat.{lt_of_lt_of_le}
use native.Mathlib.Decide.{ℕ_discrete}
use native.Mathlib.Omega.{arith}
use lib.Dec.{ltb}
use lib.Count.{ones_in}
use lib.Pow.{pow_mono}
use borrow.Author.Tests.{eqb-true, eqb-false, lt-ltb}
use Rattle.words.specs.Word.{bit, popcount}
use Rattle.words.proofs.BitLaws.{bit_of_and, bit_of_or, bit_zero, bit_below, bits_meet}
use Rattle.words.proofs.BoolLaws.{by_test, clash, or_left, or_right}
use Rattle.words.proofs.PopcountLaws.{one_set, none_zero}
use Rattle.scan.specs.declared.set.Constraint.{Constraint}
use Rattle.scan.specs.Set.{most_outputs, outs}
use Rattle.scan.specs.Constraint.{outs_true, simple, combined}
use Rattle.scan.proofs.ShapeLaws.{Masks, outs_lt}

module _ (r n : ℕ) (c : Constraint) (n_le : n ≤ most_outputs) (ms : Masks r n c) where
  below : (k : ℕ) → bit k (outs c) ≡ true → k < 16
  below k e = omega (arith, bit_below n k (outs c) (outs_lt r n c ms) e)

  -- a constraint is simple or combined
  pub simple_or_combined : simple c ≡ false → combined c ≡ true
  unfolding simple combined popcount
  simple_or_combined e = lt-ltb 1 _ (more (ℕ_discrete (ones_in 16 (outs c)) 0) (eqb-false _ 1 e))
    where
      wide : outs c < 2 ^ 16
      wide = lt_of_lt_of_le (outs_lt r n c ms) (pow_mono {i = n} {j = 16} (omega arith))

      more : Dec (ones_in 16 (outs c) ≡ 0) → (ones_in 16 (outs c) ≡ 1 → ⊥) → 1 < ones_in 16 (outs c)
      more (yes z) ne = let none : outs c ≡ 0 = none_zero 16 (outs c) wide z in absurd (omega (arith, ms.has_out))
      more (no nz) ne = omega arith

  -- and not both
  pub combined_is : combined c ≡ not (simple c)
  unfolding simple combined
  combined_is =
      by_test (simple c)
      (λ e. ap (λ (k : ℕ). ltb 1 k) (eqb-true (popcount (outs c)) 1 e) ∙ sym (ap not e))
      (λ e. simple_or_combined e ∙ sym (ap not e))

  -- no output is named both ways
  pub not_both : (k : ℕ) → bit k c.out_plain ≡ true → bit k c.out_negated ≡ true → ⊥
  not_both k p q =
      clash (bit_of_and k c.out_plain c.out_negated ∙ ap₂ ◌&&◌ p q) (ap (bit k) ms.out_once ∙ bit_zero k)

  module _ (one : simple c ≡ true) where
    -- a simple constraint names one output
    pub lone : (j k : ℕ) → bit j (outs c) ≡ true → bit k (outs c) ≡ true → j ≡ k
    unfolding simple popcount
    lone j k bj bk = one_set 16 (outs c) (eqb-true _ 1 one) j k (below j bj) (below k bk) bj bk

    plain_in : (k : ℕ) → bit k c.out_plain ≡ true → bit k (outs c) ≡ true
    plain_in k e = bit_of_or k c.out_plain c.out_negated ∙ or_left (bit k c.out_plain) (bit k c.out_negated) e

    negated_in : (k : ℕ) → bit k c.out_negated ≡ true → bit k (outs c) ≡ true
    negated_in k e = bit_of_or k c.out_plain c.out_negated ∙ or_right (bit k c.out_plain) (bit k c.out_negated) e

    -- with its plain output set, or its negated output clear, its output literal is true
    pub lone_plain : (v k : ℕ) → bit k c.out_plain ≡ true → bit k v ≡ true → outs_true c v ≡ true
    unfolding outs_true
    lone_plain v k p b =
        bits_meet n c.out_plain c.out_negated v ms.out_plain ms.out_negated
        (λ j q. ap (λ (x : ℕ). bit x v) (lone j k (plain_in j q) (plain_in k p)) ∙ b)
        (λ j q. absurd (not_both k p (subst (λ (x : ℕ). bit x c.out_negated ≡ true) (lone j k (negated_in j q) (plain_in k p)) q)))

    pub lone_negated : (v k : ℕ) → bit k c.out_negated ≡ true → bit k v ≡ false → outs_true c v ≡ true
    unfolding outs_true
    lone_negated v k p b =
        bits_meet n c.out_plain c.out_negated v ms.out_plain ms.out_negated
        (λ j q. absurd (not_both k (subst (λ (x : ℕ). bit x c.out_plain ≡ true) (lone j k (plain_in j q) (negated_in k p)) q) p))
        (λ j q. ap (λ (x : ℕ). bit x v) (lone j k (negated_in j q) (negated_in k p)) ∙ b)
