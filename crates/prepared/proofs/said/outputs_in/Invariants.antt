-- `prepared::said::outputs_in` meets its contract. The invariant: the outputs passed are made, with zeros behind them. Assumes nothing.
use mathlib.Core.Path.{◌≡◌}
use Prim.Native.Nat.{◌≤◌}
use Rattle.scan.specs.Set.{most_outputs, zero_output}
use Rattle.prepared.specs.Filled.{filled}
use Rattle.prepared.specs.Said.{output_in}
use Rattle.prepared.proofs.said.outputs_in.Given as goal

abbrev pub invariant-loop-j : goal.invariant-loop-j
invariant-loop-j l = (l.j ≤ l.end) × (l.end ≤ most_outputs) × (l.outputs ≡ filled most_outputs zero_output (output_in l.b) l.j)
