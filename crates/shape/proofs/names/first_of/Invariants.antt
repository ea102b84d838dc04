-- `shape::names::first_of` meets its contract. The loop's invariant: none of the names before k is the name. Assumes nothing.
use Rattle.shape.specs.way.Names.{name_is}
use Rattle.words.proofs.LoopTurns.{Missed}
use Rattle.shape.proofs.names.first_of.Given as goal

abbrev pub invariant-loop-k : goal.invariant-loop-k
invariant-loop-k l = Missed l.i (name_is l.names l.name) l.k
