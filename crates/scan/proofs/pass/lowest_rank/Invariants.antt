-- `scan::pass::lowest_rank` meets its contract. The invariant: `low` is the lowest rank among the outputs passed. Assumes nothing.
use mathlib.Core.Path.{◌≡◌}
use Rattle.scan.specs.Pass.{lowest}
use Rattle.scan.proofs.pass.lowest_rank.Given as goal

abbrev pub invariant-loop-k : goal.invariant-loop-k
invariant-loop-k l = (l.low ≡ lowest l.c l.own l.k)
