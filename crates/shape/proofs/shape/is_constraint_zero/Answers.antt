-- `shape::shape::is_constraint_zero` meets its contract. Assumes nothing.
use mathlib.Core.Path.{◌≡◌}
use lib.ListN.{length}
use Rattle.words.proofs.ListLaws.{mapped_long}
use Rattle.scan.specs.Set.{most_outputs}
use Rattle.shape.proofs.ShapeWayLaws.{constraint_zeros}
use borrow.Author.Rules.{rules}
use Rattle.shape.proofs.shape.is_constraint_zero.Goals as goal
use Rattle.shape.proofs.shape.is_constraint_zero.Goals.{Start}

long : (c : Start) → length c.args.c.ranks ≡ most_outputs
long c = search (rules, mapped_long)

pub returns : goal.returns
returns c =
    let b3 = c in
    let k = b3 in
    let b2 = k in
    let b1 = b2 in
    let s = (goal.at.returns c).Start in
    constraint_zeros s.args.c (long s) b1.both-reads.result b2.both-outs.result k.are_ranks_zero.result b3.both.result c.both-2.result
    b1.both-reads.ensures b2.both-outs.ensures k.are_ranks_zero.ensures b3.both.ensures c.both-2.ensures
