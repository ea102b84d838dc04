-- `writer::writer::put_constraints` meets its contract. The loop's invariant: the fields of the first i constraints are in place. Assumes nothing.
use borrow.Author.Rules.{rules}
use mathlib.Core.Path.{◌≡◌}
use Prim.Native.Nat.{◌≤◌}
use native.Mathlib.Omega.{arith}
use lib.ListN.{length}
use Rattle.words.proofs.ListLaws.{mapped_long}
use Rattle.scan.specs.Set.{most_constraints}
use Rattle.writer.proofs.WriteLaws.{constraints_grow, puts_none, puts_kept, puts_room, puts_one, puts_all}
use Rattle.writer.proofs.writer.put_constraints.Goals as goal
use Rattle.writer.proofs.writer.put_constraints.Goals.{Start}

few : (c : Start) → c.args.m ≤ length c.args.constraints
few c =
    let long : length c.args.constraints ≡ most_constraints = search (rules, mapped_long) in
    omega (arith, long, c.requires.0)

pub loop-i-init : goal.loop-i-init
loop-i-init c =
    let s = c in
    let a = s.args in
    puts_none (constraints_grow a.constraints a.m (few (goal.at.loop-i-init c).Start)) a.buf.now a.at s.requires.2

pub offset_bounds-constraints-i : goal.offset_bounds-constraints-i
offset_bounds-constraints-i c = omega (arith, c.requires.0)

pub bounds-constraints-i : goal.bounds-constraints-i
bounds-constraints-i c = omega (arith, c.requires.0)

pub put_constraint-next-requires : goal.put_constraint-next-requires
put_constraint-next-requires c =
    let s = c in
    let a = s.args in
    let l = c.loop-i in
    let h = c.loop-i-test.true in
    (s.requires.1 l.i h, puts_room (constraints_grow a.constraints a.m (few (goal.at.put_constraint-next-requires c).Start)) a.buf.now a.at s.requires.2 l.buf l.next l.i l.invariant h)

pub loop-i-preserved : goal.loop-i-preserved
loop-i-preserved c =
    let s = c in
    let a = s.args in
    let l = c.loop-i in
    puts_one (constraints_grow a.constraints a.m (few (goal.at.loop-i-preserved c).Start)) a.buf.now a.at s.requires.2 l.buf l.next l.i _ _ l.invariant
    c.loop-i-test.true
    c.put_constraint-next.ensures

pub shape_of-buf : goal.shape_of-buf
shape_of-buf c =
    let s = c in
    let a = s.args in
    let l = c.loop-i in
    puts_kept (constraints_grow a.constraints a.m (few (goal.at.shape_of-buf c).Start)) a.buf.now a.at s.requires.2 l.buf l.next l.i l.invariant

pub returns : goal.returns
returns c =
    let s = c in
    let a = s.args in
    let l = c.loop-i in
    puts_all (constraints_grow a.constraints a.m (few (goal.at.returns c).Start)) a.buf.now a.at s.requires.2 l.buf l.next l.i l.invariant c.loop-i-test.false
