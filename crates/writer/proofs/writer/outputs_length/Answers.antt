-- `writer::writer::outputs_length` meets its contract. The loop's invariant: `len` is the length of the fields of the first j outputs.
use borrow.Author.Rules.{rules}
use mathlib.Core.Path.{◌≡◌}
use Prim.Native.Nat.{◌+◌, ◌≤◌}
use native.Mathlib.Omega.{arith}
use lib.ListN.{length}
use Rattle.words.proofs.ListLaws.{mapped_long}
use Rattle.scan.specs.Set.{most_outputs}
use Rattle.writer.proofs.WriteLaws.{outputs_grow, counted_none, counted_one, counted_all}
use Rattle.writer.proofs.writer.outputs_length.Goals as goal
use Rattle.writer.proofs.writer.outputs_length.Goals.{Start}

few : (c : Start) → c.args.n ≤ length c.args.outputs
few c =
    let long : length c.args.outputs ≡ most_outputs = search (rules, mapped_long) in
    omega (arith, long, c.requires)

pub loop-j-init : goal.loop-j-init
loop-j-init c = (counted_none (outputs_grow c.args.outputs c.args.n (few (goal.at.loop-j-init c).Start)), omega arith)

pub offset_bounds-outputs-j : goal.offset_bounds-outputs-j
offset_bounds-outputs-j c = omega (arith, c.requires)

pub bounds-outputs-j : goal.bounds-outputs-j
bounds-outputs-j c = omega (arith, c.requires)

pub overflow_add-len : goal.overflow_add-len
overflow_add-len c = omega (arith, c.requires)

pub overflow_add-len-in-loop-j : goal.overflow_add-len-in-loop-j
overflow_add-len-in-loop-j c = omega (arith, c.requires, c.name_length.ensures.1)

pub loop-j-preserved : goal.loop-j-preserved
loop-j-preserved c =
    let s = c in
    let l = c.loop-j in
    let n = c.name_length in (
      counted_one (outputs_grow s.args.outputs s.args.n (few (goal.at.loop-j-preserved c).Start)) l.len l.j (l.len + (3 + n.result)) l.invariant.0 c.loop-j-test.true
          (omega (arith, n.ensures.0)),
      omega (arith, l.invariant.1, n.ensures.1),
    )

pub returns : goal.returns
returns c =
    let s = c in
    let l = c.loop-j in
    (counted_all (outputs_grow s.args.outputs s.args.n (few (goal.at.returns c).Start)) l.len l.j l.invariant.0 c.loop-j-test.false, omega (arith, s.requires, l.invariant.1))
