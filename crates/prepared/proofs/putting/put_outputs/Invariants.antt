-- `prepared::putting::put_outputs` meets its contract. The invariant: the bytes passed are put, whatever the other parts of the set are. Assumes nothing.
use mathlib.Core.Path.{◌≡◌}
use mathlib.Core.List.{List}
use Prim.Native.Nat.{◌≤◌}
use Rattle.scan.specs.declared.set.OutputPoint.{OutputPoint}
use Rattle.scan.specs.declared.set.Set.{Set}
use Rattle.prepared.proofs.PutLaws.{Putting}
use Rattle.prepared.proofs.putting.put_outputs.Given as goal

-- a set with these outputs
abbrev pub With : List OutputPoint → Set → Type 0
With outputs s = s.outputs ≡ outputs

abbrev pub invariant-loop-i : goal.invariant-loop-i
invariant-loop-i l = (205 ≤ l.i) × (l.i ≤ 301) × Putting (With l.outputs) 205 l.initial.out l.out l.i
