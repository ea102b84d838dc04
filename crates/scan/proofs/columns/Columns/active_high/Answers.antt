-- `scan::columns::Columns::active_high` meets its contract. The invariant: `active` has those of the constraints passed whose other read literals are true. Assumes nothing.
use mathlib.Core.Path.{refl, ap, ◌∙◌}
use Prim.Native.Nat.{ℕ}
use native.Mathlib.Omega.{arith}
use Rattle.words.specs.Loop.{word}
use Rattle.words.proofs.LoopTurns.{word_none, word_turn}
use Rattle.scan.specs.way.Block.{high_asked, active_high}
use Rattle.scan.proofs.columns.Columns.active_high.Goals as goal

pub loop-i-init : goal.loop-i-init
loop-i-init c = word_none _

pub loop-i-preserved : goal.loop-i-preserved
unfolding high_asked
loop-i-preserved c =
    let l = c.loop-i in
    let a = c.args in
    word_turn (high_asked a.self.now.read_plain a.self.now.read_named a.w) 64 l.i l.active c.pick-active.result _ (omega arith) l.invariant refl
    c.pick-active.ensures

pub returns : goal.returns
unfolding active_high
returns c =
    let a = c.args in
    c.loop-i.invariant ∙ ap (λ (k : ℕ). word k (high_asked a.self.now.read_plain a.self.now.read_named a.w)) (omega arith)
