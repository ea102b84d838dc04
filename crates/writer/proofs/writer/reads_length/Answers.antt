-- `writer::writer::reads_length` meets its contract. The loop's invariant: `len` is the length of the fields of the first k read points.
use borrow.Author.Rules.{rules}
use mathlib.Core.Path.{◌≡◌}
use Prim.Native.Nat.{◌+◌, ◌≤◌}
use native.Mathlib.Omega.{arith}
use lib.ListN.{length, get_or}
use Rattle.words.proofs.ListLaws.{mapped_long}
use Rattle.scan.specs.Set.{most_reads, no_read}
use Rattle.writer.proofs.WriteLaws.{read_long, reads_grow, counted_none, counted_one, counted_all}
use Rattle.writer.proofs.writer.reads_length.Goals as goal
use Rattle.writer.proofs.writer.reads_length.Goals.{Start}

few : (c : Start) → c.args.r ≤ length c.args.reads
few c =
    let long : length c.args.reads ≡ most_reads = search (rules, mapped_long) in
    omega (arith, long, c.requires)

pub loop-k-init : goal.loop-k-init
loop-k-init c = (counted_none (reads_grow c.args.reads c.args.r (few (goal.at.loop-k-init c).Start)), omega arith)

pub offset_bounds-reads-k : goal.offset_bounds-reads-k
offset_bounds-reads-k c = omega (arith, c.requires)

pub bounds-reads-k : goal.bounds-reads-k
bounds-reads-k c = omega (arith, c.requires)

pub overflow_add-len : goal.overflow_add-len
overflow_add-len c = omega (arith, c.requires)

pub overflow_add-len-in-loop-k : goal.overflow_add-len-in-loop-k
overflow_add-len-in-loop-k c = omega (arith, c.requires, c.name_length.ensures.1)

pub loop-k-preserved : goal.loop-k-preserved
loop-k-preserved c =
    let s = c in
    let l = c.loop-k in
    let n = c.name_length in (
      counted_one (reads_grow s.args.reads s.args.r (few (goal.at.loop-k-preserved c).Start)) l.len l.k (l.len + (5 + n.result)) l.invariant.0 c.loop-k-test.true
          (omega (arith, n.ensures.0, read_long (get_or s.args.reads l.k no_read))),
      omega (arith, l.invariant.1, n.ensures.1),
    )

pub returns : goal.returns
returns c =
    let s = c in
    let l = c.loop-k in
    (counted_all (reads_grow s.args.reads s.args.r (few (goal.at.returns c).Start)) l.len l.k l.invariant.0 c.loop-k-test.false, omega (arith, s.requires, l.invariant.1))
