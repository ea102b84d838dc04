-- `firmware::scanning::rsf_scan` meets its contract. Assumes nothing.
use Rattle.firmware.proofs.ScanningLaws.{scan_crosses}
use Rattle.firmware.proofs.scanning.rsf_scan.Goals as goal

pub returns : goal.returns
returns c = scan_crosses _ _ c.load-loaded.ensures _ _ _ _ _ _ c.with_past.ensures c.scan.ensures c.scanned_result.ensures
