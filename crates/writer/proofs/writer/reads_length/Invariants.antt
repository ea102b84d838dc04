-- `writer::writer::reads_length` meets its contract. The loop's invariant: `len` is the length of the fields of the first k read points.
-- Assumes nothing.
use Prim.Native.Nat.{◌+◌, ◌*◌, ◌≤◌}
use Rattle.scan.specs.Set.{name_places}
use Rattle.writer.specs.way.Write.{read_fields}
use Rattle.writer.proofs.WriteLaws.{Counted}
use Rattle.writer.proofs.writer.reads_length.Given as goal

abbrev pub invariant-loop-k : goal.invariant-loop-k
invariant-loop-k l = Counted (read_fields l.reads) l.r l.len l.k × (l.len ≤ (5 + name_places) * l.k)
