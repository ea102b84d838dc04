-- `shape::shape::is_read_zero` meets its contract. Assumes nothing.
use Rattle.scan.specs.Shape.{read_zero}
use Rattle.words.proofs.BoolLaws.{two}
use Rattle.shape.proofs.shape.is_read_zero.Goals as goal

pub returns : goal.returns
unfolding read_zero
returns c =
    let z = c in
    two z.is_sensor.result z.is_zero_name.result _ _ c.both.result z.is_sensor.ensures z.is_zero_name.ensures c.both.ensures
