-- `prepared::said::reads_in` meets its contract. The invariant: the read points passed are made, with zeros behind them. Assumes nothing.
use mathlib.Core.Path.{◌≡◌, ap, ◌∙◌}
use Prim.Native.Nat.{min}
use native.Mathlib.Omega.{arith}
use Rattle.scan.specs.Set.{most_reads, zero_read}
use Rattle.prepared.specs.Filled.{filled}
use Rattle.prepared.specs.Said.{read_in}
use Rattle.prepared.proofs.FilledLaws.{filled_none, filled_more}
use Rattle.prepared.proofs.said.reads_in.Goals as goal

pub loop-k-init : goal.loop-k-init
loop-k-init c = (omega arith, omega arith, filled_none most_reads zero_read _)

pub loop-k-preserved : goal.loop-k-preserved
loop-k-preserved c =
    let l = c.loop-k in
    (omega arith, l.invariant.1, filled_more most_reads zero_read _ l.reads l.k _ (omega arith) l.invariant.2 c.read_in.ensures)

pub returns : goal.returns
returns c =
    let l = c.loop-k in
    let a = c.args in
    let e : l.k ≡ min a.r most_reads = omega (arith, c.min-end.ensures) in
    l.invariant.2 ∙ ap (filled most_reads zero_read (read_in a.b.now)) e
