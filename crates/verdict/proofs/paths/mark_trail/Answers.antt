-- `verdict::paths::mark_trail` meets its contract. The invariant: the vectors of the trail from `begin` up to `done` are marked. Assumes nothing.
use mathlib.Core.Path.{◌≡◌, ap, ◌∙◌}
use Prim.Native.Nat.{ℕ, ◌+◌, ◌%◌, ◌-◌}
use native.Mathlib.Omega.{arith}
use lib.ListN.{get_or}
use Rattle.verdict.specs.way.Marks.{with_mark}
use Rattle.verdict.specs.way.Paths.{trail_places, trail_marked}
use Rattle.verdict.proofs.PathsLaws.{trail_step, trail_begun}
use Rattle.verdict.proofs.paths.mark_trail.Goals as goal

pub loop-done-init : goal.loop-done-init
loop-done-init c =
    let a = c.args in
    let none : 0 ≡ a.begin - a.begin = omega arith in
    (omega arith, trail_begun a.trail.now a.begin a.marks.now ∙ ap (λ (k : ℕ). trail_marked a.trail.now a.begin k a.marks.now) none)

pub loop-done-preserved : goal.loop-done-preserved
loop-done-preserved c =
    let m = c in
    let l = m in
    let a = l.args in
    let v = get_or a.trail.now (l.loop-done.done % trail_places) 0 in
    let put : m.put_mark.new.marks ≡ with_mark l.loop-done.marks v = m.put_mark.ensures in
    let at : l.loop-done.done ≡ a.begin + (l.loop-done.done - a.begin) = omega arith in
    let on : l.loop-done.done - a.begin + 1 ≡ l.loop-done.done + 1 - a.begin = omega arith in (
      omega arith,
      put
          ∙ trail_step a.trail.now a.begin (l.loop-done.done - a.begin) v a.marks.now l.loop-done.marks l.loop-done.invariant.1
          (ap (λ (k : ℕ). get_or a.trail.now (k % trail_places) 0) at)
          ∙ ap (λ (k : ℕ). trail_marked a.trail.now a.begin k a.marks.now) on,
    )

pub returns : goal.returns
returns c =
    let l = c in
    let a = l.args in
    let all : l.loop-done.done - a.begin ≡ a.made - a.begin = omega arith in
    l.loop-done.invariant.1 ∙ ap (λ (k : ℕ). trail_marked a.trail.now a.begin k a.marks.now) all
