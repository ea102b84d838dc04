-- `prepared::said::outputs_in` meets its contract. The invariant: the outputs passed are made, with zeros behind them. Assumes nothing.
use mathlib.Core.Path.{◌≡◌, ap, ◌∙◌}
use Prim.Native.Nat.{min}
use native.Mathlib.Omega.{arith}
use Rattle.scan.specs.Set.{most_outputs, zero_output}
use Rattle.prepared.specs.Filled.{filled}
use Rattle.prepared.specs.Said.{output_in}
use Rattle.prepared.proofs.FilledLaws.{filled_none, filled_more}
use Rattle.prepared.proofs.said.outputs_in.Goals as goal

pub loop-j-init : goal.loop-j-init
loop-j-init c = (omega arith, omega arith, filled_none most_outputs zero_output _)

pub loop-j-preserved : goal.loop-j-preserved
loop-j-preserved c =
    let l = c.loop-j in
    (omega arith, l.invariant.1, filled_more most_outputs zero_output _ l.outputs l.j _ (omega arith) l.invariant.2 c.output_in.ensures)

pub returns : goal.returns
returns c =
    let l = c.loop-j in
    let a = c.args in
    let e : l.j ≡ min a.n most_outputs = omega (arith, c.min-end.ensures) in
    l.invariant.2 ∙ ap (filled most_outputs zero_output (output_in a.b.now)) e
