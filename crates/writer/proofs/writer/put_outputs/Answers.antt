-- `writer::writer::put_outputs` meets its contract. The loop's invariant: the fields of the first j outputs are in place. Assumes nothing.
use borrow.Author.Rules.{rules}
use mathlib.Core.Path.{◌≡◌}
use Prim.Native.Nat.{◌≤◌}
use native.Mathlib.Omega.{arith}
use lib.ListN.{length}
use Rattle.words.proofs.ListLaws.{mapped_long}
use Rattle.scan.specs.Set.{most_outputs}
use Rattle.writer.proofs.WriteLaws.{outputs_grow, puts_none, puts_kept, puts_room, puts_one, puts_all}
use Rattle.writer.proofs.writer.put_outputs.Goals as goal
use Rattle.writer.proofs.writer.put_outputs.Goals.{Start}

few : (c : Start) → c.args.n ≤ length c.args.outputs
few c =
    let long : length c.args.outputs ≡ most_outputs = search (rules, mapped_long) in
    omega (arith, long, c.requires.0)

pub loop-j-init : goal.loop-j-init
loop-j-init c =
    let s = c in
    let a = s.args in
    puts_none (outputs_grow a.outputs a.n (few (goal.at.loop-j-init c).Start)) a.buf.now a.at s.requires.1

pub offset_bounds-outputs-j : goal.offset_bounds-outputs-j
offset_bounds-outputs-j c = omega (arith, c.requires.0)

pub bounds-outputs-j : goal.bounds-outputs-j
bounds-outputs-j c = omega (arith, c.requires.0)

pub put_output-next-requires : goal.put_output-next-requires
put_output-next-requires c =
    let s = c in
    let a = s.args in
    let l = c.loop-j in
    puts_room (outputs_grow a.outputs a.n (few (goal.at.put_output-next-requires c).Start)) a.buf.now a.at s.requires.1 l.buf l.next l.j l.invariant c.loop-j-test.true

pub loop-j-preserved : goal.loop-j-preserved
loop-j-preserved c =
    let s = c in
    let a = s.args in
    let l = c.loop-j in
    puts_one (outputs_grow a.outputs a.n (few (goal.at.loop-j-preserved c).Start)) a.buf.now a.at s.requires.1 l.buf l.next l.j _ _ l.invariant
    c.loop-j-test.true
    c.put_output-next.ensures

pub shape_of-buf : goal.shape_of-buf
shape_of-buf c =
    let s = c in
    let a = s.args in
    let l = c.loop-j in
    puts_kept (outputs_grow a.outputs a.n (few (goal.at.shape_of-buf c).Start)) a.buf.now a.at s.requires.1 l.buf l.next l.j l.invariant

pub returns : goal.returns
returns c =
    let s = c in
    let a = s.args in
    let l = c.loop-j in
    puts_all (outputs_grow a.outputs a.n (few (goal.at.returns c).Start)) a.buf.now a.at s.requires.1 l.buf l.next l.j l.invariant c.loop-j-test.false
