-- `shape::shape::are_constraints_ok` meets its contract. The loop's invariant: `ok` tells whether the places before i are right. Assumes nothing.
use Rattle.scan.specs.Set.{most_constraints, constraint}
use Rattle.scan.specs.Shape.{constraint_place}
use Rattle.words.proofs.LoopTurns.{passed_none, passed_one, passed_all}
use Rattle.shape.proofs.shape.are_constraints_ok.Goals as goal

pub loop-i-init : goal.loop-i-init
loop-i-init c = passed_none most_constraints _

pub loop-i-preserved : goal.loop-i-preserved
unfolding constraint_place constraint
loop-i-preserved c =
    let p = c in
    let t = p in
    let l = t.loop-i in
    passed_one most_constraints (constraint_place t.args.s) l.i l.ok p.is_constraint_place_ok.result c.both-ok.result l.invariant t.loop-i-test.true
    p.is_constraint_place_ok.ensures c.both-ok.ensures

pub returns : goal.returns
returns c =
    let l = c.loop-i in
    passed_all most_constraints (constraint_place c.args.s) l.i l.ok l.invariant c.loop-i-test.false
