-- `shape::shape::are_ranks_zero` meets its contract. The loop's invariant: `ok` tells whether the ranks before k are 0. Assumes nothing.
use Rattle.scan.specs.Set.{most_outputs}
use Rattle.scan.specs.Shape.{rank_zero}
use Rattle.words.proofs.LoopTurns.{Passed}
use Rattle.shape.proofs.shape.are_ranks_zero.Given as goal

abbrev pub invariant-loop-k : goal.invariant-loop-k
invariant-loop-k l = Passed most_outputs (rank_zero l.c) l.ok l.k
