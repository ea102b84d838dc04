-- Document 01's number of each answer, 0 for one that is no refusal, with the answer's values behind it.
-- Assumes nothing.
use Rattle.std.specs.Prelude.{ℕ, List, [], ◌∷◌, Result, Ok, Err}
use Rattle.shape.specs.declared.finding.Point.{Point}
use Rattle.shape.specs.declared.finding.Point.TheVariants.{Read, Output}
use Rattle.shape.specs.declared.finding.FindError.{FindError}
use Rattle.shape.specs.declared.finding.FindError.TheVariants.{BadSet, BadLength, Unknown}

-- of finding: 0 for a read point or 1 for an output, and the point's number; or the refusal
abbrev pub find_told : Result Point FindError → List ℕ
find_told (Ok (Read k)) = 0 ∷ 0 ∷ k ∷ []
find_told (Ok (Output k)) = 0 ∷ 1 ∷ k ∷ []
find_told (Err BadSet) = 20 ∷ []
find_told (Err BadLength) = 40 ∷ []
find_told (Err Unknown) = 41 ∷ []
