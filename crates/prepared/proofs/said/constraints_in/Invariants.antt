-- `prepared::said::constraints_in` meets its contract. The invariant: the constraints passed are made, with zeros behind them. Assumes nothing.
use mathlib.Core.Path.{◌≡◌}
use Prim.Native.Nat.{◌≤◌}
use Rattle.scan.specs.Set.{most_constraints, zero_constraint}
use Rattle.prepared.specs.Filled.{filled}
use Rattle.prepared.specs.Said.{constraint_in}
use Rattle.prepared.proofs.said.constraints_in.Given as goal

abbrev pub invariant-loop-i : goal.invariant-loop-i
invariant-loop-i l = (l.i ≤ l.end) × (l.end ≤ most_constraints) × (l.constraints ≡ filled most_constraints zero_constraint (constraint_in l.b) l.i)
