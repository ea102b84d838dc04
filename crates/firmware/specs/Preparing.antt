-- What is said to C of a scan of a set in bytes that the caller keeps.
-- Assumes nothing.
use Rattle.std.specs.Prelude.{ℕ, List}
use Rattle.machine.specs.Machine.{scan_of}
use Rattle.prepared.specs.Said.{set_said}
use Rattle.firmware.specs.declared.past.Past.{Past}
use Rattle.firmware.specs.declared.scanning.ScanResult.{ScanResult}
use Rattle.firmware.specs.Past.{with_past}
use Rattle.firmware.specs.Scanning.{scanned_result}

-- what `rsf_scan_prepared` answers, whatever the bytes
unfoldable pub scan_prepared : List ℕ → Past → ℕ → ℕ → ScanResult
scan_prepared bytes p sensor request = scanned_result (scan_of (with_past (set_said bytes) p) sensor request)
