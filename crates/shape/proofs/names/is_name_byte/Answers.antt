-- `shape::names::is_name_byte` meets its contract. Assumes nothing.
use Rattle.scan.specs.Names.{name_byte}
use Rattle.shape.proofs.names.is_name_byte.Goals as goal

pub returns : goal.returns
unfolding name_byte
returns c = c.both.ensures
