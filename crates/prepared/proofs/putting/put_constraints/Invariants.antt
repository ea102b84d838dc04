-- `prepared::putting::put_constraints` meets its contract. The invariant: the bytes passed are put, whatever the other parts of the set are. Assumes nothing.
use mathlib.Core.Path.{◌≡◌}
use mathlib.Core.List.{List}
use Prim.Native.Nat.{◌≤◌}
use Rattle.scan.specs.declared.set.Constraint.{Constraint}
use Rattle.scan.specs.declared.set.Set.{Set}
use Rattle.prepared.proofs.PutLaws.{Putting}
use Rattle.prepared.proofs.putting.put_constraints.Given as goal

-- a set with these constraints
abbrev pub With : List Constraint → Set → Type 0
With constraints s = s.constraints ≡ constraints

abbrev pub invariant-loop-i : goal.invariant-loop-i
invariant-loop-i l = (301 ≤ l.i) × (l.i ≤ 1837) × Putting (With l.constraints) 301 l.initial.out l.out l.i
