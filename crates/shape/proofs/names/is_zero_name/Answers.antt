-- `shape::names::is_zero_name` meets its contract. The loop's invariant: `ok` tells whether the bytes before k are zero. Assumes nothing.
use mathlib.Core.Path.{◌≡◌, refl}
use lib.ListN.{length}
use Rattle.scan.specs.Set.{name_places}
use Rattle.scan.specs.Names.{zero_at}
use Rattle.words.proofs.LoopTurns.{passed_none, passed_one, passed_all}
use Rattle.shape.proofs.NamesWayLaws.{name_zeros}
use borrow.Author.Rules.{rules}
use Rattle.shape.proofs.names.is_zero_name.Goals as goal
use Rattle.shape.proofs.names.is_zero_name.Goals.{Start}

long : (c : Start) → length c.args.name ≡ name_places
long c = search rules

pub loop-k-init : goal.loop-k-init
loop-k-init c = passed_none name_places _

pub loop-k-preserved : goal.loop-k-preserved
loop-k-preserved c =
    let l = c.loop-k in
    passed_one name_places (zero_at c.args.name) l.k l.ok _ c.both-ok.result l.invariant c.loop-k-test.true refl c.both-ok.ensures

pub returns : goal.returns
returns c =
    let l = c.loop-k in
    let name = c.args.name in
    name_zeros name l.ok (long (goal.at.returns c).Start) (passed_all name_places (zero_at name) l.k l.ok l.invariant c.loop-k-test.false)
