-- The code's way to a line: a word, and numbers one behind the other.
-- Assumes nothing.
use Rattle.std.specs.Prelude.{ℕ, List, [], ◌∷◌, ◌++◌}
use Rattle.line.specs.Line.{spaced}

-- a word and numbers, with one space before each
abbrev pub numbered : List ℕ → List ℕ → List ℕ
numbered word [] = word
numbered word (n ∷ ns) = numbered (word ++ spaced n) ns
