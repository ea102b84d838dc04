-- `prepared::said::read_in` meets its contract. Assumes nothing.
use mathlib.Core.Path.{ap₂}
use Rattle.prepared.proofs.said.read_in.Goals as goal

pub returns : goal.returns
returns c = ap₂ (λ k x. record { kind = k; name = x }) c.kind_from-kind.ensures c.name_in-name.ensures
