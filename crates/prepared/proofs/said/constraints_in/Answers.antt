-- `prepared::said::constraints_in` meets its contract. The invariant: the constraints passed are made, with zeros behind them. Assumes nothing.
use mathlib.Core.Path.{◌≡◌, ap, ◌∙◌}
use Prim.Native.Nat.{min}
use native.Mathlib.Omega.{arith}
use Rattle.scan.specs.Set.{most_constraints, zero_constraint}
use Rattle.prepared.specs.Filled.{filled}
use Rattle.prepared.specs.Said.{constraint_in}
use Rattle.prepared.proofs.FilledLaws.{filled_none, filled_more}
use Rattle.prepared.proofs.said.constraints_in.Goals as goal

pub loop-i-init : goal.loop-i-init
loop-i-init c = (omega arith, omega arith, filled_none most_constraints zero_constraint _)

pub loop-i-preserved : goal.loop-i-preserved
loop-i-preserved c =
    let l = c.loop-i in
    (omega arith, l.invariant.1, filled_more most_constraints zero_constraint _ l.constraints l.i _ (omega arith) l.invariant.2 c.constraint_in.ensures)

pub returns : goal.returns
returns c =
    let l = c.loop-i in
    let a = c.args in
    let e : l.i ≡ min a.m most_constraints = omega (arith, c.min-end.ensures) in
    l.invariant.2 ∙ ap (filled most_constraints zero_constraint (constraint_in a.b.now)) e
