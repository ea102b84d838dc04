-- `prepared::putting::put_reads` meets its contract. The invariant: the bytes passed are put, whatever the other parts of the set are. Assumes nothing.
use mathlib.Core.Path.{◌≡◌}
use mathlib.Core.List.{List}
use Prim.Native.Nat.{◌≤◌}
use Rattle.scan.specs.declared.set.ReadPoint.{ReadPoint}
use Rattle.scan.specs.declared.set.Set.{Set}
use Rattle.prepared.proofs.PutLaws.{Putting}
use Rattle.prepared.proofs.putting.put_reads.Given as goal

-- a set with these read points
abbrev pub With : List ReadPoint → Set → Type 0
With reads s = s.reads ≡ reads

abbrev pub invariant-loop-i : goal.invariant-loop-i
invariant-loop-i l = (5 ≤ l.i) × (l.i ≤ 205) × Putting (With l.reads) 5 l.initial.out l.out l.i
