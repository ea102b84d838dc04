-- `shape::shape::are_reads_ok` meets its contract. The loop's invariant: `ok` tells whether the places before k are right. Assumes nothing.
use Rattle.scan.specs.Set.{most_reads}
use Rattle.scan.specs.Shape.{read_place}
use Rattle.words.proofs.LoopTurns.{Passed}
use Rattle.shape.proofs.shape.are_reads_ok.Given as goal

abbrev pub invariant-loop-k : goal.invariant-loop-k
invariant-loop-k l = Passed most_reads (read_place l.reads l.r l.n) l.ok l.k
