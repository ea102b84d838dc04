-- What is said to C of finding.
-- Assumes nothing.
use Rattle.std.specs.Prelude.{ℕ, List, get_or}
use Rattle.shape.specs.Finding.{find_of}
use Rattle.shape.specs.Told.{find_told}
use Rattle.firmware.specs.declared.finding.FindResult.{FindResult}
use Rattle.firmware.specs.Past.{set_in}

-- by what finding tells: the refusal, or 0 with 0 for a read point or 1 for an output, and the point's number
abbrev pub find_result : List ℕ → FindResult
find_result told = record { number = get_or told 0 0; output = get_or told 1 0; point = get_or told 2 0 }

-- what `rsf_find` answers
unfoldable pub find_file : List ℕ → List ℕ → FindResult
find_file file name = find_result (find_told (find_of (set_in file) name))
