-- `firmware::finding::rsf_find` meets its contract. Assumes nothing.
use Rattle.firmware.proofs.FindingLaws.{find_crosses}
use Rattle.firmware.proofs.finding.rsf_find.Goals as goal

pub returns : goal.returns
returns c = find_crosses _ _ c.load-loaded.ensures _ _ _ c.find.ensures c.find_result.ensures
