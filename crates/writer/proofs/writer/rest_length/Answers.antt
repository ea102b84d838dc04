-- `writer::writer::rest_length` meets its contract: by the test. Assumes nothing.
use mathlib.Core.Path.{ap}
use native.Mathlib.Omega.{arith}
use lib.ListN.{length}
use Rattle.writer.proofs.WriteLaws.{rest_none, rest_some}
use Rattle.writer.proofs.writer.rest_length.Goals as goal

pub returns-then-rest-eq0 : goal.returns-then-rest-eq0
returns-then-rest-eq0 c = omega (arith, ap length (rest_none c.args.rest c.if-rest-eq0.true))

pub returns-else-rest-eq0 : goal.returns-else-rest-eq0
returns-else-rest-eq0 c = omega (arith, ap length (rest_some c.args.rest c.if-rest-eq0.false))
