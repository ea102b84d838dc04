-- `scan::entries::Entries::is_any_true` meets its contract. The invariant: `found` tells whether one of the entries passed is true. Assumes nothing.
use mathlib.Core.Path.{refl, sym, ap, ◌∙◌}
use Prim.Native.Nat.{ℕ}
use native.Mathlib.Omega.{arith}
use Rattle.words.specs.Loop.{some}
use Rattle.words.proofs.LoopTurns.{some_none, some_step}
use Rattle.scan.specs.way.Columns.{entry_true}
use Rattle.scan.specs.way.Table.{any_true}
use Rattle.scan.proofs.entries.Entries.is_any_true.Goals as goal

pub loop-i-init : goal.loop-i-init
loop-i-init c = sym (some_none _)

pub loop-i-preserved : goal.loop-i-preserved
unfolding entry_true
loop-i-preserved c =
    let l = c.loop-i in
    let a = c.args in
    let p = entry_true a.self.now.plain a.self.now.named a.v in
    some_step p l.i l.found (p l.i) _ l.invariant refl refl

pub returns : goal.returns
unfolding any_true
returns c =
    let a = c.args in
    c.loop-i.invariant ∙ ap (λ (k : ℕ). some k (entry_true a.self.now.plain a.self.now.named a.v)) (omega arith)
