-- `shape::shape::are_reads_ok` meets its contract. The loop's invariant: `ok` tells whether the places before k are right. Assumes nothing.
use mathlib.Core.Path.{ap, ◌∙◌}
use Prim.Native.Nat.{ℕ}
use Rattle.scan.specs.Set.{most_reads, read_point}
use Rattle.scan.specs.Shape.{read_place}
use Rattle.shape.specs.way.Shape.{read_place_by}
use Rattle.words.proofs.LoopTurns.{passed_none, passed_one, passed_all}
use Rattle.shape.proofs.ShapeWayLaws.{by_place}
use Rattle.shape.proofs.shape.are_reads_ok.Goals as goal

pub loop-k-init : goal.loop-k-init
loop-k-init c = passed_none most_reads _

pub loop-k-preserved : goal.loop-k-preserved
loop-k-preserved c =
    let p = c in
    let t = p in
    let l = t.loop-k in
    let s = t in
    let a = s.args in
    let names = a.names.now in
    passed_one most_reads (read_place a.reads a.r a.n) l.k l.ok p.is_read_place_ok.result c.both-ok.result l.invariant t.loop-k-test.true
    (p.is_read_place_ok.ensures
    ∙ ap (λ (w : ℕ). read_place_by names w a.r a.n l.k (read_point a.reads l.k)) s.sensors_of-sensors.ensures
    ∙ by_place names a.reads s.requires a.r a.n l.k t.loop-k-test.true)
    c.both-ok.ensures

pub returns : goal.returns
returns c =
    let l = c.loop-k in
    let a = c.args in
    passed_all most_reads (read_place a.reads a.r a.n) l.k l.ok l.invariant c.loop-k-test.false
