-- `writer::writer::put_reads` meets its contract. The loop's invariant: the fields of the first k read points are in place. Assumes nothing.
use Rattle.writer.specs.way.Write.{read_fields}
use Rattle.writer.proofs.WriteLaws.{Puts}
use Rattle.writer.proofs.writer.put_reads.Given as goal

abbrev pub invariant-loop-k : goal.invariant-loop-k
invariant-loop-k l = Puts (read_fields l.reads) l.r l.initial.buf l.at l.buf l.next l.k
