-- `header::header::fits_table` meets its contract: the tests say which case of `fits_table` holds. Assumes nothing.
use Rattle.header.proofs.HeaderLaws.{step_positive}
use Rattle.header.proofs.header.fits_table.Goals as goal

pub nonzero_rem-result : goal.nonzero_rem-result
nonzero_rem-result c =
    let a = c.args in
    rw c.wide-step.ensures (step_positive a.tag c.if-t-ge-TAG_BOUND.false)
