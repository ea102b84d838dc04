-- `shape::names::names_of_reads` meets its contract. The loop's invariant: the names before k are in place. Assumes nothing.
use Prim.Native.Nat.{ℕ}
use Rattle.scan.specs.Set.{most_reads, read_point}
use Rattle.shape.proofs.NamesWayLaws.{Placed}
use Rattle.shape.proofs.names.names_of_reads.Given as goal

abbrev pub invariant-loop-k : goal.invariant-loop-k
invariant-loop-k l = Placed most_reads (λ (j : ℕ). (read_point l.reads j).name) l.names l.k
