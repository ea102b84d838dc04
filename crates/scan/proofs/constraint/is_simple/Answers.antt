-- `scan::constraint::is_simple` meets its contract. Assumes nothing.
use mathlib.Core.Path.{ap}
use Prim.Native.Nat.{ℕ}
use lib.Dec.{eqb}
use Rattle.scan.specs.Constraint.{simple}
use Rattle.scan.proofs.constraint.is_simple.Goals as goal

pub returns : goal.returns
unfolding simple
returns c = ap (λ (k : ℕ). eqb k 1) c.ones16.ensures
