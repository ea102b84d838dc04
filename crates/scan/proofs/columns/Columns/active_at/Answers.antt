-- `scan::columns::Columns::active_at` meets its contract. The invariant: `active` has the active ones of the constraints passed. Assumes nothing.
use mathlib.Core.Path.{refl, ap, ◌∙◌}
use Prim.Native.Nat.{ℕ}
use native.Mathlib.Omega.{arith}
use Rattle.words.specs.Loop.{word}
use Rattle.words.proofs.LoopTurns.{word_none, word_turn}
use Rattle.scan.specs.way.Columns.{entry_true, active_by}
use Rattle.scan.proofs.columns.Columns.active_at.Goals as goal

pub loop-i-init : goal.loop-i-init
loop-i-init c = word_none _

pub loop-i-preserved : goal.loop-i-preserved
unfolding entry_true
loop-i-preserved c =
    let l = c.loop-i in
    let a = c.args in
    word_turn (entry_true a.self.now.read_plain a.self.now.read_named a.w) 64 l.i l.active c.pick-active.result _ (omega arith) l.invariant refl
    c.pick-active.ensures

pub returns : goal.returns
unfolding active_by
returns c =
    let a = c.args in
    c.loop-i.invariant ∙ ap (λ (k : ℕ). word k (entry_true a.self.now.read_plain a.self.now.read_named a.w)) (omega arith)
