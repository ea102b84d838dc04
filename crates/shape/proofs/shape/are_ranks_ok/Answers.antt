-- `shape::shape::are_ranks_ok` meets its contract. The loop's invariant: `ok` tells whether the ranks before k are right. Assumes nothing.
use mir.Syntax.{w8}
use mir.Val.{Fits}
use Rattle.scan.specs.Set.{most_outputs, rank}
use Rattle.scan.specs.Shape.{rank_ok}
use Rattle.words.proofs.LoopTurns.{passed_none, passed_one, passed_all}
use Rattle.shape.proofs.ShapeWayLaws.{rank_test}
use borrow.Author.Rules.{rules}
use Rattle.shape.proofs.shape.are_ranks_ok.Goals as goal
use Rattle.shape.proofs.shape.are_ranks_ok.Goals.{In-loop-k}

byte : (c : In-loop-k) → Fits w8 (rank c.args.c c.loop-k.k)
byte c = search rules

pub loop-k-init : goal.loop-k-init
loop-k-init c = passed_none most_outputs _

pub loop-k-preserved : goal.loop-k-preserved
loop-k-preserved c =
    let e = c in
    let b = e in
    let l = b.loop-k in
    let d = b.args.c in
    passed_one most_outputs (rank_ok d) l.k l.ok e.either.result c.both-ok.result l.invariant b.loop-k-test.true
    (rank_test d l.k b.bit16.result e.either.result (byte (goal.at.loop-k-preserved c).In-loop-k).fits b.bit16.ensures e.either.ensures) c.both-ok.ensures

pub returns : goal.returns
returns c =
    let l = c.loop-k in
    passed_all most_outputs (rank_ok c.args.c) l.k l.ok l.invariant c.loop-k-test.false
