-- `scan::table::Table::pass` meets its contract. Assumes nothing.
use mathlib.Core.Path.{ap}
use lib.Bits.{bit_xor}
use Rattle.scan.specs.way.Table.{pass_over}
use Rattle.scan.proofs.table.Table.pass.Goals as goal

pub returns : goal.returns
unfolding pass_over
returns c = ap (bit_xor c.args.v) c.flips.ensures
