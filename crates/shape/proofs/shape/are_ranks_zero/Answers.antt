-- `shape::shape::are_ranks_zero` meets its contract. The loop's invariant: `ok` tells whether the ranks before k are 0. Assumes nothing.
use mathlib.Core.Path.{refl}
use Rattle.scan.specs.Set.{most_outputs}
use Rattle.scan.specs.Shape.{rank_zero}
use Rattle.words.proofs.LoopTurns.{passed_none, passed_one, passed_all}
use Rattle.shape.proofs.shape.are_ranks_zero.Goals as goal

pub loop-k-init : goal.loop-k-init
loop-k-init c = passed_none most_outputs _

pub loop-k-preserved : goal.loop-k-preserved
loop-k-preserved c =
    let t = c in
    let l = t.loop-k in
    passed_one most_outputs (rank_zero t.args.c) l.k l.ok _ c.both-ok.result l.invariant t.loop-k-test.true refl c.both-ok.ensures

pub returns : goal.returns
returns c =
    let l = c.loop-k in
    passed_all most_outputs (rank_zero c.args.c) l.k l.ok l.invariant c.loop-k-test.false
