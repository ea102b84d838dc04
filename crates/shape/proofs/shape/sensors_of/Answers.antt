-- `shape::shape::sensors_of` meets its contract. The invariant: `w` has the sensors among the read points passed. Assumes nothing.
use mathlib.Core.Path.{ap, ◌∙◌}
use Prim.Native.Nat.{ℕ}
use native.Mathlib.Omega.{arith}
use Rattle.words.specs.Loop.{word}
use Rattle.words.proofs.LoopTurns.{word_none, word_turn}
use Rattle.scan.specs.Set.{read_point}
use Rattle.scan.specs.Shape.{is_sensor}
use Rattle.shape.proofs.shape.sensors_of.Goals as goal

pub loop-k-init : goal.loop-k-init
loop-k-init c = (omega arith, word_none _)

pub loop-k-preserved : goal.loop-k-preserved
loop-k-preserved c =
    let l = c.loop-k in
    (omega arith, word_turn _ 32 l.k l.w c.pick-w.result _ (omega arith) l.invariant.1 c.is_sensor.ensures c.pick-w.ensures)

pub returns : goal.returns
returns c = c.loop-k.invariant.1 ∙ ap (λ (k : ℕ). word k (λ (j : ℕ). is_sensor (read_point c.args.reads j).kind)) (omega arith)
