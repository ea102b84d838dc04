-- Tests of a file in a column: what a refusal is told by.
-- Assumes nothing.
use Rattle.std.specs.Prelude.{◌≡◌, ℕ, Bool, true, false, List, [], ◌∷◌, ◌⊎◌}

-- a test: the number and the offset of its refusal, and whether the file is refused by it
pub record Test : Type 0 where
  pub number : ℕ
  pub offset : ℕ
  pub fails : Bool

-- a test by its three parts
abbrev pub test : ℕ → ℕ → Bool → Test
test number offset fails = record { number = number; offset = offset; fails = fails }

-- the first test of the column that fails has this number and offset
abbrev pub FirstFails : List Test → ℕ → ℕ → Type 0
FirstFails [] number offset = ⊥
FirstFails (t ∷ column) number offset =
    ((t.fails ≡ true) × (t.number ≡ number) × (t.offset ≡ offset)) ⊎ ((t.fails ≡ false) × FirstFails column number offset)

-- no test of the column fails
abbrev pub NoneFails : List Test → Type 0
NoneFails [] = Unit {0}
NoneFails (t ∷ column) = (t.fails ≡ false) × NoneFails column
