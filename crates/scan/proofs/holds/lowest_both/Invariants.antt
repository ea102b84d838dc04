-- `scan::holds::lowest_both` meets its contract. The invariant: none of the outputs passed is in both words. Assumes nothing.
use Rattle.words.proofs.LoopTurns.{Missed}
use Rattle.scan.specs.Holds.{both_ways}
use Rattle.scan.proofs.holds.lowest_both.Given as goal

abbrev pub invariant-loop-k : goal.invariant-loop-k
invariant-loop-k l = Missed 16 (both_ways l.f0 l.f1) l.k
