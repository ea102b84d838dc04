-- `shape::names::is_same_name` meets its contract. The loop's invariant: `same` tells whether the bytes before k agree. Assumes nothing.
use mathlib.Core.Path.{refl}
use Rattle.scan.specs.Set.{name_places}
use Rattle.scan.specs.Names.{same_at, same_name}
use Rattle.words.proofs.LoopTurns.{passed_none, passed_one, passed_all}
use Rattle.shape.proofs.names.is_same_name.Goals as goal

pub loop-k-init : goal.loop-k-init
loop-k-init c = passed_none name_places _

pub loop-k-preserved : goal.loop-k-preserved
loop-k-preserved c =
    let l = c.loop-k in
    let a = c.args in
    passed_one name_places (same_at a.a a.b) l.k l.same _ c.both-same.result l.invariant c.loop-k-test.true refl c.both-same.ensures

pub returns : goal.returns
unfolding same_name
returns c =
    let l = c.loop-k in
    let a = c.args in
    passed_all name_places (same_at a.a a.b) l.k l.same l.invariant c.loop-k-test.false
