-- What is said to C of a scan.
-- Assumes nothing.
use Rattle.std.specs.Prelude.{ℕ, List, get_or}
use Rattle.machine.specs.declared.machine.Scanned.{Scanned}
use Rattle.machine.specs.Machine.{scan_of}
use Rattle.machine.specs.Told.{scan_told}
use Rattle.firmware.specs.declared.past.Past.{Past}
use Rattle.firmware.specs.declared.scanning.ScanResult.{ScanResult}
use Rattle.firmware.specs.Past.{set_in, with_past, past_of}

-- by what a scan tells: the refusal, or 0 with the vector and the passes; and the past for the next scan
abbrev pub scan_result : List ℕ → Past → ScanResult
scan_result told p = record { number = get_or told 0 0; vector = get_or told 1 0; passes = get_or told 2 0; past = p }

-- the answer, and the past of the next state
abbrev pub scanned_result : Scanned → ScanResult
scanned_result t = scan_result (scan_told t.answer) (past_of t.state)

-- what `rsf_scan` answers
unfoldable pub scan_file : List ℕ → Past → ℕ → ℕ → ScanResult
scan_file file p sensor request = scanned_result (scan_of (with_past (set_in file) p) sensor request)
