-- The code's way with names: a name's places one after the other, and the names of points in a list of their own.
-- Assumes nothing.
use Rattle.std.specs.Prelude.{ℕ, ◌<◌, ◌≡◌, Bool, not, ◌&&◌, ◌||◌, List, [], eqb, ltb, get_or}
use Rattle.words.specs.Loop.{first}
use Rattle.scan.specs.declared.set.ReadPoint.{ReadPoint}
use Rattle.scan.specs.declared.set.OutputPoint.{OutputPoint}
use Rattle.scan.specs.Set.{most_reads, most_outputs, read_point, output_point}
use Rattle.scan.specs.Names.{name_byte, same_name}

-- a zero, or a name byte behind a byte that is no zero
unfoldable pub next_ok : ℕ → ℕ → Bool
next_ok before b = eqb b 0 || (name_byte b && not (eqb before 0))

-- name k of the list is the name
unfoldable pub name_is : List (List ℕ) → List ℕ → ℕ → Bool
name_is names name k = same_name (get_or names k []) name

-- the first of the first i names that is the name, or i
unfoldable pub first_name : List (List ℕ) → ℕ → List ℕ → ℕ
first_name names i name = first i (name_is names name)

-- one of the first i names, or of the first j of the others, is the name
unfoldable pub name_used : List (List ℕ) → ℕ → List (List ℕ) → ℕ → List ℕ → Bool
name_used names i own j name = ltb (first_name names i name) i || ltb (first_name own j name) j

-- the names are those of the read points, at every place of theirs
abbrev pub ReadNames : List (List ℕ) → List ReadPoint → Type 0
ReadNames names reads = (k : ℕ) → k < most_reads → get_or names k [] ≡ (read_point reads k).name

-- the names are those of the outputs
abbrev pub OutputNames : List (List ℕ) → List OutputPoint → Type 0
OutputNames names outputs = (k : ℕ) → k < most_outputs → get_or names k [] ≡ (output_point outputs k).name
