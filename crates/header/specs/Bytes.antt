-- A file is a list of bytes. A list of the proof language holds numbers of any size, so theorems about files take this as a premise.
-- Assumes nothing.
use Rattle.std.specs.Prelude.{ℕ, ◌<◌, List, length, get_or}

-- every element is below 256
abbrev pub Bytes : List ℕ → Type 0
Bytes file = (k : ℕ) → k < length file → get_or file k 0 < 256
