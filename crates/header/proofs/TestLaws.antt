-- What holds of columns of tests: one behind the other, and the first test that fails.
-- Assumes nothing.
use mathlib.Core.Path.{◌≡◌, sym, ◌∙◌}
use mathlib.Core.List.{List, [], ◌∷◌, ◌++◌}
use mathlib.Core.Logic.{inl, inr}
use Prim.Native.Nat.{ℕ}
use Rattle.words.proofs.BoolLaws.{clash}
use Rattle.header.specs.Test.{Test, FirstFails, NoneFails}

-- ---- columns one behind the other

pub first_front : (a b : List Test) (c o : ℕ) → FirstFails a c o → FirstFails (a ++ b) c o
first_front [] b c o x = absurd x
first_front (t ∷ a) b c o (inl x) = inl x
first_front (t ∷ a) b c o (inr x) = inr (x.0, first_front a b c o x.1)

pub first_behind : (a b : List Test) (c o : ℕ) → NoneFails a → FirstFails b c o → FirstFails (a ++ b) c o
first_behind [] b c o n x = x
first_behind (t ∷ a) b c o n x = inr (n.0, first_behind a b c o n.1 x)

pub none_joined : (a b : List Test) → NoneFails a → NoneFails b → NoneFails (a ++ b)
none_joined [] b n m = m
none_joined (t ∷ a) b n m = (n.0, none_joined a b n.1 m)

-- a column has one first test that fails, and it is not so that none fails
pub first_once : (column : List Test) (c o d p : ℕ) → FirstFails column c o → FirstFails column d p → (c ≡ d) × (o ≡ p)
first_once [] c o d p x y = absurd x
first_once (t ∷ column) c o d p (inl x) (inl y) = (sym x.1 ∙ y.1, sym x.2 ∙ y.2)
first_once (t ∷ column) c o d p (inl x) (inr y) = clash x.0 y.0
first_once (t ∷ column) c o d p (inr x) (inl y) = clash y.0 x.0
first_once (t ∷ column) c o d p (inr x) (inr y) = first_once column c o d p x.1 y.1

pub none_first : (column : List Test) (c o : ℕ) → NoneFails column → FirstFails column c o → ⊥
none_first [] c o n x = x
none_first (t ∷ column) c o n (inl x) = clash x.0 n.0
none_first (t ∷ column) c o n (inr x) = none_first column c o n.1 x.1
