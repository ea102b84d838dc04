-- `scan::set::zero_set` meets its contract: by computation. Assumes nothing.
use mathlib.Core.Path.{refl}
use Rattle.scan.specs.Set.{zero_set}
use Rattle.scan.proofs.set.zero_set.Goals as goal

pub returns : goal.returns
unfolding zero_set
returns c = refl
