-- `shape::names::is_same_name` meets its contract. The loop's invariant: `same` tells whether the bytes before k agree. Assumes nothing.
use Rattle.scan.specs.Set.{name_places}
use Rattle.scan.specs.Names.{same_at}
use Rattle.words.proofs.LoopTurns.{Passed}
use Rattle.shape.proofs.names.is_same_name.Given as goal

abbrev pub invariant-loop-k : goal.invariant-loop-k
invariant-loop-k l = Passed name_places (same_at l.a l.b) l.same l.k
