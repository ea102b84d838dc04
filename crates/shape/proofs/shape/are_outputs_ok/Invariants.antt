-- `shape::shape::are_outputs_ok` meets its contract. The loop's invariant: `ok` tells whether the places before j are right. Assumes nothing.
use Rattle.scan.specs.Set.{most_outputs}
use Rattle.shape.specs.way.Shape.{output_place_by}
use Rattle.words.proofs.LoopTurns.{Passed}
use Rattle.shape.proofs.shape.are_outputs_ok.Given as goal

abbrev pub invariant-loop-j : goal.invariant-loop-j
invariant-loop-j l = Passed most_outputs (output_place_by l.reads l.r l.outputs l.n) l.ok l.j
