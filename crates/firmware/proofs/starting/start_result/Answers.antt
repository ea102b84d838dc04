-- `firmware::starting::start_result` meets its contract. Assumes nothing.
use Rattle.firmware.proofs.StartingLaws.{start_of_law}
use Rattle.firmware.proofs.starting.start_result.Goals as goal

pub returns : goal.returns
returns c = start_of_law c.args.started _ _ c.verdict_result-verdict.ensures c.past_of-past.ensures
