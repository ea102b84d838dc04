-- `start::starting::fresh` meets its contract. Assumes nothing.
use mathlib.Core.Path.{refl}
use Rattle.start.proofs.starting.fresh.Goals as goal

pub returns : goal.returns
returns c = refl
