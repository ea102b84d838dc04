-- `shape::names::names_of_outputs` meets its contract. The loop's invariant: the names before k are in place. Assumes nothing.
use Prim.Native.Nat.{ℕ}
use Rattle.scan.specs.Set.{most_outputs, output_point}
use Rattle.shape.proofs.NamesWayLaws.{Placed}
use Rattle.shape.proofs.names.names_of_outputs.Given as goal

abbrev pub invariant-loop-k : goal.invariant-loop-k
invariant-loop-k l = Placed most_outputs (λ (j : ℕ). (output_point l.outputs j).name) l.names l.k
