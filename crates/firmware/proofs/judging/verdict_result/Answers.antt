-- `firmware::judging::verdict_result` meets its contract. Assumes nothing.
use Rattle.firmware.proofs.JudgingLaws.{verdict_of, verdict_bare}
use Rattle.firmware.proofs.judging.verdict_result.Goals as goal

pub returns-in-NoVector : goal.returns-in-NoVector
returns-in-NoVector c = let n = c in verdict_of n.args.verdict _ n.number_of-number.result n.number_of-number.ensures c.in-NoVector.is

pub returns-in-Clash : goal.returns-in-Clash
returns-in-Clash c = let n = c in verdict_of n.args.verdict _ n.number_of-number.result n.number_of-number.ensures c.in-Clash.is

pub returns-in-NoEnd : goal.returns-in-NoEnd
returns-in-NoEnd c = let n = c in verdict_of n.args.verdict _ n.number_of-number.result n.number_of-number.ensures c.in-NoEnd.is

pub returns-in_default : goal.returns-in_default
returns-in_default c = let n = c in verdict_bare n.args.verdict n.number_of-number.result n.number_of-number.ensures c.in_default.not-NoVector c.in_default.not-Clash c.in_default.not-NoEnd
