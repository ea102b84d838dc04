-- What a list of answers holds.
-- Assumes nothing.
use Rattle.std.specs.Prelude.{List, [], ◌∷◌, ◌≢◌, ℕ}
use Rattle.machine.specs.declared.machine.ScanAnswer.{ScanAnswer}
use Rattle.machine.specs.Told.{scan_told}

-- no answer of the list is the refusal of this number
abbrev pub NeverTold : ℕ → List ScanAnswer → Type 0
NeverTold number [] = Unit {0}
NeverTold number (a ∷ answers) = (scan_told a ≢ number ∷ []) × NeverTold number answers
