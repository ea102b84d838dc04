-- `loader::loader::constraints_at` meets its contract. The loop's invariant: the fields from here on, behind the constraints so far, give what all of
-- them give, whichever points the set has. Assumes nothing.
use mathlib.Core.Path.{◌≡◌}
use mathlib.Core.List.{List}
use Prim.Native.Nat.{ℕ, suc, ◌-◌, ◌≤◌}
use Rattle.scan.specs.declared.set.ReadPoint.{ReadPoint}
use Rattle.scan.specs.declared.set.OutputPoint.{OutputPoint}
use Rattle.scan.specs.Set.{most_constraints}
use Rattle.loader.specs.Load.{constraints_from}
use Rattle.loader.specs.way.Load.{rested_set, whole_set}
use Rattle.loader.proofs.loader.constraints_at.Given as goal

abbrev pub invariant-loop-front : goal.invariant-loop-front
invariant-loop-front l =
    (l.m ≤ most_constraints)
    × ((rest : ℕ) (reads : List ReadPoint) (outputs : List OutputPoint)
    → constraints_from l.s (suc most_constraints) l.at (rested_set l.counts.r l.counts.n rest reads outputs) ≡ constraints_from l.s (suc most_constraints - l.m) l.next (whole_set l.counts.r l.counts.n l.m rest reads outputs l.list))

abbrev pub decreases-loop-front : goal.decreases-loop-front
decreases-loop-front l = suc most_constraints - l.m
