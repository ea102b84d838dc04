-- `shape::shape::sensors_of` meets its contract. The invariant: `w` has the sensors among the read points passed. Assumes nothing.
use mathlib.Core.Path.{◌≡◌}
use Prim.Native.Nat.{ℕ, ◌≤◌}
use Rattle.words.specs.Loop.{word}
use Rattle.scan.specs.Set.{most_reads, read_point}
use Rattle.scan.specs.Shape.{is_sensor}
use Rattle.shape.proofs.shape.sensors_of.Given as goal

abbrev pub invariant-loop-k : goal.invariant-loop-k
invariant-loop-k l = (l.k ≤ most_reads) × (l.w ≡ word l.k (λ (j : ℕ). is_sensor (read_point l.reads j).kind))
