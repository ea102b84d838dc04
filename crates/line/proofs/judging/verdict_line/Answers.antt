-- `line::judging::verdict_line` meets its contract, for each verdict. Assumes nothing.
use mathlib.Core.Path.{ap, sym}
use Rattle.line.specs.Line.{verdict_line}
use Rattle.line.proofs.judging.verdict_line.Goals as goal

pub returns-in-Accepted : goal.returns-in-Accepted
returns-in-Accepted c = ap (verdict_line c.args.set) (sym c.in-Accepted.is)

pub returns-in-NoVector : goal.returns-in-NoVector
returns-in-NoVector c = ap (verdict_line c.args.set) (sym c.in-NoVector.is)

pub returns-in-Clash : goal.returns-in-Clash
returns-in-Clash c = ap (verdict_line c.args.set) (sym c.in-Clash.is)

pub returns-in-NoEnd : goal.returns-in-NoEnd
returns-in-NoEnd c = ap (verdict_line c.args.set) (sym c.in-NoEnd.is)
