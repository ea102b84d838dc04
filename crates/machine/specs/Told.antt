-- Document 01's number of each answer, 0 for one that is no refusal, with the answer's values behind it.
-- Assumes nothing.
use Rattle.std.specs.Prelude.{ℕ, List, [], ◌∷◌}
use Rattle.machine.specs.declared.machine.ScanAnswer.{ScanAnswer}
use Rattle.machine.specs.declared.machine.ScanAnswer.TheVariants.{Sent, BadState, BadSensor, BadRequest, Unsafe}

-- of a scan: the vector sent and the passes made, or the refusal
abbrev pub scan_told : ScanAnswer → List ℕ
scan_told (Sent vector passes) = 0 ∷ vector ∷ passes ∷ []
scan_told BadState = 30 ∷ []
scan_told BadSensor = 31 ∷ []
scan_told BadRequest = 32 ∷ []
scan_told Unsafe = 33 ∷ []
