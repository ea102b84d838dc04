-- `writer::writer::put_reads` meets its contract. The loop's invariant: the fields of the first k read points are in place. Assumes nothing.
use borrow.Author.Rules.{rules}
use mathlib.Core.Path.{◌≡◌}
use Prim.Native.Nat.{◌≤◌}
use native.Mathlib.Omega.{arith}
use lib.ListN.{length}
use Rattle.words.proofs.ListLaws.{mapped_long}
use Rattle.scan.specs.Set.{most_reads}
use Rattle.writer.proofs.WriteLaws.{reads_grow, puts_none, puts_kept, puts_room, puts_one, puts_all}
use Rattle.writer.proofs.writer.put_reads.Goals as goal
use Rattle.writer.proofs.writer.put_reads.Goals.{Start}

few : (c : Start) → c.args.r ≤ length c.args.reads
few c =
    let long : length c.args.reads ≡ most_reads = search (rules, mapped_long) in
    omega (arith, long, c.requires.0)

pub loop-k-init : goal.loop-k-init
loop-k-init c =
    let s = c in
    let a = s.args in
    puts_none (reads_grow a.reads a.r (few (goal.at.loop-k-init c).Start)) a.buf.now a.at s.requires.1

pub offset_bounds-reads-k : goal.offset_bounds-reads-k
offset_bounds-reads-k c = omega (arith, c.requires.0)

pub bounds-reads-k : goal.bounds-reads-k
bounds-reads-k c = omega (arith, c.requires.0)

pub put_read-next-requires : goal.put_read-next-requires
put_read-next-requires c =
    let s = c in
    let a = s.args in
    let l = c.loop-k in
    puts_room (reads_grow a.reads a.r (few (goal.at.put_read-next-requires c).Start)) a.buf.now a.at s.requires.1 l.buf l.next l.k l.invariant c.loop-k-test.true

pub loop-k-preserved : goal.loop-k-preserved
loop-k-preserved c =
    let s = c in
    let a = s.args in
    let l = c.loop-k in
    puts_one (reads_grow a.reads a.r (few (goal.at.loop-k-preserved c).Start)) a.buf.now a.at s.requires.1 l.buf l.next l.k _ _ l.invariant
    c.loop-k-test.true
    c.put_read-next.ensures

pub shape_of-buf : goal.shape_of-buf
shape_of-buf c =
    let s = c in
    let a = s.args in
    let l = c.loop-k in
    puts_kept (reads_grow a.reads a.r (few (goal.at.shape_of-buf c).Start)) a.buf.now a.at s.requires.1 l.buf l.next l.k l.invariant

pub returns : goal.returns
returns c =
    let s = c in
    let a = s.args in
    let l = c.loop-k in
    puts_all (reads_grow a.reads a.r (few (goal.at.returns c).Start)) a.buf.now a.at s.requires.1 l.buf l.next l.k l.invariant c.loop-k-test.false
