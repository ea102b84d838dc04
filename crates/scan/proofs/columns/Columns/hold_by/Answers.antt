-- `scan::columns::Columns::hold_by` meets its contract. The invariant: the two masks are those of the constraints passed. Assumes nothing.
use mathlib.Core.Path.{◌≡◌, refl, ap, ◌∙◌}
use mathlib.Core.List.{List}
use Prim.Native.Nat.{ℕ, min}
use native.Mathlib.Omega.{arith}
use Rattle.words.specs.Loop.{gather}
use Rattle.words.proofs.LoopTurns.{gather_none, kept_turn}
use Rattle.scan.specs.Set.{most_constraints}
use Rattle.scan.specs.Holds.{reckoned}
use Rattle.scan.specs.way.Holds.{kept_at, holds_by}
use Rattle.scan.proofs.columns.Columns.hold_by.Goals as goal

-- all constraints are passed
done : (plain negated : List ℕ) (m holding z o i : ℕ) → i ≡ min m most_constraints → z ≡ gather i (kept_at plain holding) → o ≡ gather i (kept_at negated holding)
    → reckoned z o ≡ holds_by plain negated m holding
unfolding holds_by
done plain negated m holding z o i e p q = λ j. reckoned ((p ∙ ap (λ (k : ℕ). gather k (kept_at plain holding)) e) j) ((q ∙ ap (λ (k : ℕ). gather k (kept_at negated holding)) e) j)

pub loop-i-init : goal.loop-i-init
loop-i-init c = (gather_none _, gather_none _)

pub loop-i-preserved : goal.loop-i-preserved
unfolding kept_at
loop-i-preserved c =
    let f = c in
    let b = f in
    let l = b.loop-i in
    let a = b.args in (
      kept_turn (kept_at a.self.now.out_plain a.holding) l.i l.f0 f.pick-f0.result _ _ b.bit64-held.result _
          l.invariant.0 b.bit64-held.ensures refl refl f.pick-f0.ensures,
      kept_turn (kept_at a.self.now.out_negated a.holding) l.i l.f1 c.pick-f1.result _ _ b.bit64-held.result _
          l.invariant.1 b.bit64-held.ensures refl refl c.pick-f1.ensures,
    )

pub returns : goal.returns
returns c =
    let e = c in
    let l = e.loop-i in
    let a = e.args in
    let told : c.reckon.result ≡ reckoned l.f0 l.f1 = c.reckon.ensures in
    told
    ∙ done a.self.now.out_plain a.self.now.out_negated a.self.now.m a.holding l.f0 l.f1 l.i (omega arith) l.invariant.0 l.invariant.1
