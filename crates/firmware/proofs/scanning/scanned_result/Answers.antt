-- `firmware::scanning::scanned_result` meets its contract. Assumes nothing.
use mathlib.Core.Path.{ap, ◌∙◌}
use Rattle.machine.specs.Told.{scan_told}
use Rattle.firmware.specs.Scanning.{scan_result}
use Rattle.firmware.proofs.scanning.scanned_result.Goals as goal

pub returns : goal.returns
returns c = c.scan_result.ensures ∙ ap (scan_result (scan_told c.args.scanned.answer)) c.past_of.ensures
