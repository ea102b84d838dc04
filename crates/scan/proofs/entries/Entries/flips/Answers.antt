-- `scan::entries::Entries::flips` meets its contract. The invariant: `flips` has what the entries passed flip. Assumes nothing.
use mathlib.Core.Path.{ap, ◌∙◌}
use Prim.Native.Nat.{ℕ}
use native.Mathlib.Omega.{arith}
use Rattle.words.specs.Loop.{gather}
use Rattle.words.proofs.LoopTurns.{gather_none, gather_step}
use Rattle.scan.specs.way.Columns.{entry_true}
use Rattle.scan.specs.way.Table.{entry_flips, flips_over}
use Rattle.scan.proofs.entries.Entries.flips.Goals as goal

pub loop-i-init : goal.loop-i-init
loop-i-init c = gather_none _

pub loop-i-preserved : goal.loop-i-preserved
unfolding entry_true entry_flips
loop-i-preserved c =
    let l = c.loop-i in
    gather_step _ l.i l.flips c.flip_if-flips.result l.invariant c.flip_if-flips.ensures

pub returns : goal.returns
unfolding flips_over
returns c =
    let a = c.args in
    c.loop-i.invariant ∙ ap (λ (k : ℕ). gather k (entry_flips a.self.now.plain a.self.now.named a.flip.now a.v)) (omega arith)
