-- Places that are filled one after the other.
-- Assumes nothing.
use Rattle.std.specs.Prelude.{ℕ, List, ◌++◌, drop, replicate}
use Rattle.words.specs.Loop.{listed}

-- the first k of `most` places by f, and `nil` in each place behind them
abbrev pub filled : {A : Type 0} → ℕ → A → (ℕ → A) → ℕ → List A
filled most nil f k = listed k f ++ drop k (replicate most nil)
