-- `verdict::paths::mark_trail` meets its contract. The invariant: the vectors of the trail from `begin` up to `done` are marked. Assumes nothing.
use mathlib.Core.Path.{◌≡◌}
use Prim.Native.Nat.{◌≤◌, ◌-◌}
use Rattle.verdict.specs.way.Paths.{trail_marked}
use Rattle.verdict.proofs.paths.mark_trail.Given as goal

abbrev pub invariant-loop-done : goal.invariant-loop-done
invariant-loop-done l =
    (l.done - l.begin ≤ l.made - l.begin) × (l.marks ≡ trail_marked l.trail l.begin (l.done - l.begin) l.initial.marks)
