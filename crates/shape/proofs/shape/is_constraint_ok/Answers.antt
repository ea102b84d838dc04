-- `shape::shape::is_constraint_ok` meets its contract. Assumes nothing.
use mathlib.Core.Path.{◌≡◌}
use lib.ListN.{length}
use Rattle.words.proofs.ListLaws.{mapped_long}
use Rattle.scan.specs.Set.{most_outputs}
use Rattle.shape.proofs.ShapeWayLaws.{constraint_right}
use borrow.Author.Rules.{rules}
use Rattle.shape.proofs.shape.is_constraint_ok.Goals as goal
use Rattle.shape.proofs.shape.is_constraint_ok.Goals.{Start}

long : (c : Start) → length c.args.c.ranks ≡ most_outputs
long c = search (rules, mapped_long)

pub returns : goal.returns
returns c =
    let b6 = c in
    let b5 = b6 in
    let k = b5 in
    let b4 = k in
    let b3 = b4 in
    let g2 = b3 in
    let g1 = g2 in
    let b2 = g1 in
    let b1 = b2 in
    let f2 = b1 in
    let f1 = f2 in
    let a = f1.args in
    constraint_right a.c (long (goal.at.returns c).Start) a.r a.n f1.fits32.result f2.fits32-2.result b1.both.result b2.both-reads.result
    g1.fits16.result g2.fits16-2.result b3.both-2.result b4.both-outs.result k.are_ranks_ok.result b5.both-named.result b6.both-3.result c.both-4.result
    f1.fits32.ensures f2.fits32-2.ensures b1.both.ensures b2.both-reads.ensures
    g1.fits16.ensures g2.fits16-2.ensures b3.both-2.ensures b4.both-outs.ensures k.are_ranks_ok.ensures b5.both-named.ensures b6.both-3.ensures c.both-4.ensures
