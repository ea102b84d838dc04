-- `writer::writer::put_outputs` meets its contract. The loop's invariant: the fields of the first j outputs are in place. Assumes nothing.
use Rattle.writer.specs.way.Write.{output_fields}
use Rattle.writer.proofs.WriteLaws.{Puts}
use Rattle.writer.proofs.writer.put_outputs.Given as goal

abbrev pub invariant-loop-j : goal.invariant-loop-j
invariant-loop-j l = Puts (output_fields l.outputs) l.n l.initial.buf l.at l.buf l.next l.j
