-- `shape::shape::are_constraints_ok` meets its contract. The loop's invariant: `ok` tells whether the places before i are right. Assumes nothing.
use Rattle.scan.specs.Set.{most_constraints}
use Rattle.scan.specs.Shape.{constraint_place}
use Rattle.words.proofs.LoopTurns.{Passed}
use Rattle.shape.proofs.shape.are_constraints_ok.Given as goal

abbrev pub invariant-loop-i : goal.invariant-loop-i
invariant-loop-i l = Passed most_constraints (constraint_place l.s) l.ok l.i
