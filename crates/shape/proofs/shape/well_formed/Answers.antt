-- `shape::shape::well_formed` meets its contract. Assumes nothing.
use mathlib.Core.Path.{◌≡◌, sym, ◌∙◌}
use mathlib.Core.Bool.{true}
use Prim.Native.Nat.{◌≤◌}
use lib.ListN.{length}
use Rattle.words.specs.Loop.{every}
use Rattle.scan.specs.Set.{most_reads, most_outputs, most_constraints}
use Rattle.scan.specs.Shape.{count_tests}
use Rattle.words.proofs.ListLaws.{mapped_long}
use Rattle.scan.proofs.ShapeLaws.{counts_told_law}
use Rattle.shape.proofs.ShapeWayLaws.{bad_counts, set_tests_law, by_outputs}
use Rattle.shape.proofs.shape.well_formed.Goals as goal
use Rattle.shape.proofs.shape.well_formed.Goals.{Start, Then-are_counts_ok}

long_reads : (c : Start) → length c.args.set.reads ≡ most_reads
long_reads c = search mapped_long

long_outputs : (c : Start) → length c.args.set.outputs ≡ most_outputs
long_outputs c = search mapped_long

long_constraints : (c : Start) → length c.args.set.constraints ≡ most_constraints
long_constraints c = search mapped_long

-- past the first test
counted : (c : Then-are_counts_ok) → every (count_tests c.args.set.r c.args.set.n c.args.set.m) ≡ true
counted c = sym c.are_counts_ok.ensures ∙ c.if-are_counts_ok.true

few_reads : (c : Then-are_counts_ok) → c.args.set.r ≤ most_reads
few_reads c = let s = c.args.set in (counts_told_law s.r s.n s.m (counted c)).0

pub are_outputs_ok-requires : goal.are_outputs_ok-requires
are_outputs_ok-requires c = few_reads (goal.at.are_outputs_ok-requires c).Then-are_counts_ok

pub returns-then-are_counts_ok : goal.returns-then-are_counts_ok
returns-then-are_counts_ok c =
    let b = c in
    let d = b in
    let f = d in
    let o = f in
    let p = o in
    let w = p in
    let n = w in
    let k = n in
    let t = (goal.at.returns-then-are_counts_ok c).Then-are_counts_ok in
    let z = (goal.at.returns-then-are_counts_ok c).Start in
    let s = z.args.set in
    set_tests_law s p.are_reads_ok.result o.are_outputs_ok.result k.are_constraints_ok-fine.result f.fits16.result
    d.both.result b.both-then-are_counts_ok.result c.both-then-are_counts_ok-2.result
    (counted t) (long_reads z) (long_outputs z) (long_constraints z) p.are_reads_ok.ensures
    (o.are_outputs_ok.ensures
    ∙ by_outputs n.names_of_reads-names.result s.reads n.names_of_reads-names.ensures w.names_of_outputs-own.result s.outputs w.names_of_outputs-own.ensures s.r s.n (few_reads t))
    k.are_constraints_ok-fine.ensures f.fits16.ensures d.both.ensures b.both-then-are_counts_ok.ensures c.both-then-are_counts_ok-2.ensures

pub returns : goal.returns
returns c = bad_counts c.args.set (sym c.are_counts_ok.ensures ∙ c.if-are_counts_ok.false)
