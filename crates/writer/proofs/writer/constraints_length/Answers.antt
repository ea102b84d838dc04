-- `writer::writer::constraints_length` meets its contract. The loop's invariant: `len` is the length of the fields of the first i constraints.
use borrow.Author.Rules.{rules}
use mathlib.Core.Path.{◌≡◌}
use Prim.Native.Nat.{◌+◌, ◌≤◌}
use native.Mathlib.Omega.{arith}
use lib.ListN.{length}
use Rattle.words.proofs.ListLaws.{mapped_long}
use Rattle.scan.specs.Set.{most_constraints}
use Rattle.writer.proofs.WriteLaws.{constraints_grow, counted_none, counted_one, counted_all}
use Rattle.writer.proofs.writer.constraints_length.Goals as goal
use Rattle.writer.proofs.writer.constraints_length.Goals.{Start}

few : (c : Start) → c.args.m ≤ length c.args.constraints
few c =
    let long : length c.args.constraints ≡ most_constraints = search (rules, mapped_long) in
    omega (arith, long, c.requires.0)

pub loop-i-init : goal.loop-i-init
loop-i-init c = (counted_none (constraints_grow c.args.constraints c.args.m (few (goal.at.loop-i-init c).Start)), omega arith)

pub offset_bounds-constraints-i : goal.offset_bounds-constraints-i
offset_bounds-constraints-i c = omega (arith, c.requires.0)

pub bounds-constraints-i : goal.bounds-constraints-i
bounds-constraints-i c = omega (arith, c.requires.0)

pub overflow_add-len : goal.overflow_add-len
overflow_add-len c = omega (arith, c.requires.0)

pub body_length-requires : goal.body_length-requires
body_length-requires c =
    c.requires.1 c.loop-i.i c.loop-i-test.true

pub overflow_add-len-in-loop-i : goal.overflow_add-len-in-loop-i
overflow_add-len-in-loop-i c = omega (arith, c.requires.0, c.body_length.ensures.1)

pub loop-i-preserved : goal.loop-i-preserved
loop-i-preserved c =
    let s = c in
    let l = c.loop-i in
    let b = c.body_length in (
      counted_one (constraints_grow s.args.constraints s.args.m (few (goal.at.loop-i-preserved c).Start)) l.len l.i (l.len + (3 + b.result)) l.invariant.0 c.loop-i-test.true
          (omega (arith, b.ensures.0)),
      omega (arith, l.invariant.1, b.ensures.1),
    )

pub returns : goal.returns
returns c =
    let s = c in
    let l = c.loop-i in
    (counted_all (constraints_grow s.args.constraints s.args.m (few (goal.at.returns c).Start)) l.len l.i l.invariant.0 c.loop-i-test.false, omega (arith, s.requires.0, l.invariant.1))
