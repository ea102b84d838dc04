-- `prepared::said::output_in` meets its contract. Assumes nothing.
use mathlib.Core.Path.{ap}
use Rattle.prepared.proofs.said.output_in.Goals as goal

pub returns : goal.returns
returns c = ap (λ x. record { name = x }) c.name_in-name.ensures
