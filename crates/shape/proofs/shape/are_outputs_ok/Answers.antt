-- `shape::shape::are_outputs_ok` meets its contract. The loop's invariant: `ok` tells whether the places before j are right. Assumes nothing.
use Rattle.scan.specs.Set.{most_outputs}
use Rattle.shape.specs.way.Shape.{output_place_by}
use Rattle.words.proofs.LoopTurns.{passed_none, passed_one, passed_all}
use Rattle.shape.proofs.shape.are_outputs_ok.Goals as goal

pub loop-j-init : goal.loop-j-init
loop-j-init c = passed_none most_outputs _

pub loop-j-preserved : goal.loop-j-preserved
loop-j-preserved c =
    let p = c in
    let t = p in
    let l = t.loop-j in
    let a = t.args in
    passed_one most_outputs (output_place_by a.reads.now a.r a.outputs.now a.n) l.j l.ok p.is_output_place_ok.result c.both-ok.result l.invariant t.loop-j-test.true
    p.is_output_place_ok.ensures c.both-ok.ensures

pub returns : goal.returns
returns c =
    let l = c.loop-j in
    let a = c.args in
    passed_all most_outputs (output_place_by a.reads.now a.r a.outputs.now a.n) l.j l.ok l.invariant c.loop-j-test.false
