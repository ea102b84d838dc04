-- `scan::pass::yielding_of` meets its contract. The invariant: `out` has those of the outputs passed that yield. Assumes nothing.
use mathlib.Core.Path.{◌≡◌}
use Rattle.words.specs.Loop.{word}
use Rattle.scan.specs.Pass.{has_rank}
use Rattle.scan.proofs.pass.yielding_of.Given as goal

abbrev pub invariant-loop-k : goal.invariant-loop-k
invariant-loop-k l = (l.out ≡ word l.k (has_rank l.c l.own l.low))
