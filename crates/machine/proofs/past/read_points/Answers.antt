-- `machine::past::read_points` meets its contract. The invariant: of the read points passed, `past` has the past points, and `word` what they read. Assumes nothing.
use mathlib.Core.Path.{◌≡◌, ap, ◌∙◌}
use mathlib.Core.Bool.{not}
use Prim.Native.Nat.{ℕ}
use native.Mathlib.Omega.{arith}
use Rattle.words.specs.Loop.{word}
use Rattle.scan.specs.Set.{kind}
use Rattle.words.proofs.LoopTurns.{word_none, word_turn}
use Rattle.machine.specs.Past.{reading_at, read_word}
use Rattle.machine.specs.Machine.{is_past}
use Rattle.machine.proofs.past.read_points.Goals as goal

pub loop-k-init : goal.loop-k-init
loop-k-init c =
    let a = c.args in
    (word_none (is_past a.s.now), word_none (reading_at a.s.now a.output a.sensor a.present))

pub loop-k-preserved : goal.loop-k-preserved
unfolding is_past reading_at kind
loop-k-preserved c =
    let r = c in
    let f = r in
    let i = f in
    let b = i in
    let l = b.loop-k in
    let a = b.args in
    let past = is_past a.s.now in
    let reads = reading_at a.s.now a.output a.sensor a.present in
    let is-past : not i.is_sensor.result ≡ past l.k = ap not i.is_sensor.ensures in
    let read : r.reading_of.result ≡ reads l.k = r.reading_of.ensures in (
      word_turn past 32 l.k l.past f.pick-past.result (not i.is_sensor.result) (omega arith) l.invariant.0 is-past f.pick-past.ensures,
      word_turn reads 32 l.k l.word c.pick-word.result r.reading_of.result (omega arith) l.invariant.1 read c.pick-word.ensures,
    )

pub returns : goal.returns
unfolding read_word
returns c =
    let l = c.loop-k in
    let a = c.args in
    let all : l.k ≡ a.s.now.r = omega arith in (
      l.invariant.0 ∙ ap (λ (k : ℕ). word k (is_past a.s.now)) all,
      l.invariant.1 ∙ ap (λ (k : ℕ). word k (reading_at a.s.now a.output a.sensor a.present)) all,
    )
