-- `writer::writer::constraints_length` meets its contract. The loop's invariant: `len` is the length of the fields of the first i constraints.
-- Assumes nothing.
use Prim.Native.Nat.{◌+◌, ◌*◌, ◌≤◌}
use Rattle.scan.specs.Set.{most_reads, most_outputs}
use Rattle.writer.specs.way.Write.{constraint_fields}
use Rattle.writer.proofs.WriteLaws.{Counted}
use Rattle.writer.proofs.writer.constraints_length.Given as goal

abbrev pub invariant-loop-i : goal.invariant-loop-i
invariant-loop-i l = Counted (constraint_fields l.constraints) l.m l.len l.i × (l.len ≤ (3 + 3 * (most_reads + most_outputs)) * l.i)
