-- `shape::names::is_zero_name` meets its contract. The loop's invariant: `ok` tells whether the bytes before k are zero. Assumes nothing.
use Rattle.scan.specs.Set.{name_places}
use Rattle.scan.specs.Names.{zero_at}
use Rattle.words.proofs.LoopTurns.{Passed}
use Rattle.shape.proofs.names.is_zero_name.Given as goal

abbrev pub invariant-loop-k : goal.invariant-loop-k
invariant-loop-k l = Passed name_places (zero_at l.name) l.ok l.k
