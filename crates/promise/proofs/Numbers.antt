-- Answers that tell different numbers differ; tests and what they test.
-- Assumes nothing.
use mathlib.Core.Path.{◌≡◌}
use mathlib.Core.Bool.{Bool, true, false}
use mathlib.Core.Logic.{◌↔◌}
use mathlib.Core.List.{List, ◌∷◌}
use Prim.Native.Nat.{ℕ}
use lib.Dec.{eqb}
use borrow.Author.Tests.{eqb-false}
use Rattle.words.proofs.BoolLaws.{by_test, clash}

-- two lists that begin with different numbers are not equal
pub apart {ℓ} : {C : Type ℓ} (x y : ℕ) (xs ys : List ℕ) → eqb x y ≡ false → x ∷ xs ≡ y ∷ ys → C
apart x y xs ys n e = let f : x ≡ y = cc in absurd (eqb-false x y n f)

-- where a test passes exactly when P holds, it does not pass exactly when P does not hold
pub fails_not : {P : Type 0} (b : Bool) → (b ≡ true) ↔ P → (b ≡ false) ↔ (¬ P)
fails_not b i = (λ e p. clash (i.1 p) e, λ n. by_test b (λ t. absurd (n (i.0 t))) (λ t. t))
