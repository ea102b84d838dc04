-- `writer::writer::outputs_length` meets its contract. The loop's invariant: `len` is the length of the fields of the first j outputs.
-- Assumes nothing.
use Prim.Native.Nat.{◌+◌, ◌*◌, ◌≤◌}
use Rattle.scan.specs.Set.{name_places}
use Rattle.writer.specs.way.Write.{output_fields}
use Rattle.writer.proofs.WriteLaws.{Counted}
use Rattle.writer.proofs.writer.outputs_length.Given as goal

abbrev pub invariant-loop-j : goal.invariant-loop-j
invariant-loop-j l = Counted (output_fields l.outputs) l.n l.len l.j × (l.len ≤ (3 + name_places) * l.j)
