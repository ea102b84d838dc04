-- `shape::shape::are_ranks_ok` meets its contract. The loop's invariant: `ok` tells whether the ranks before k are right. Assumes nothing.
use Rattle.scan.specs.Set.{most_outputs}
use Rattle.scan.specs.Shape.{rank_ok}
use Rattle.words.proofs.LoopTurns.{Passed}
use Rattle.shape.proofs.shape.are_ranks_ok.Given as goal

abbrev pub invariant-loop-k : goal.invariant-loop-k
invariant-loop-k l = Passed most_outputs (rank_ok l.c) l.ok l.k
