-- `scan::pass::yielding_of` meets its contract. The invariant: `out` has those of the outputs passed that yield. Assumes nothing.
use mathlib.Core.Path.{ap₂, ◌∙◌}
use Prim.Native.Nat.{ℕ}
use native.Mathlib.Omega.{arith}
use Rattle.words.specs.Loop.{word}
use Rattle.scan.specs.Pass.{has_rank, yielding}
use Rattle.words.proofs.LoopTurns.{word_none, word_step}
use Rattle.scan.proofs.pass.yielding_of.Goals as goal

pub loop-k-init : goal.loop-k-init
loop-k-init c = word_none _

pub loop-k-preserved : goal.loop-k-preserved
loop-k-preserved c =
    let l = c.loop-k in
    word_step _ l.k l.out c.yield_at-out.result l.invariant c.yield_at-out.ensures

pub returns : goal.returns
unfolding yielding
returns c =
    let b = c in
    let a = b.args in
    c.loop-k.invariant ∙ ap₂ (λ (k low : ℕ). word k (has_rank a.c a.own low)) (omega arith) b.lowest_rank-low.ensures
