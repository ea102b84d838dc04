-- `firmware::scanning::scan_result` meets its contract. Assumes nothing.
use Rattle.firmware.proofs.ScanningLaws.{scan_of_law, scan_bare}
use Rattle.firmware.proofs.scanning.scan_result.Goals as goal

pub returns-in-Sent : goal.returns-in-Sent
returns-in-Sent c = let n = c in scan_of_law n.args.answer _ n.args.past n.number_of-number.result n.number_of-number.ensures c.in-Sent.is

pub returns : goal.returns
returns c = let n = c in scan_bare n.args.answer n.args.past n.number_of-number.result n.number_of-number.ensures c.in_default.not-Sent
