-- `writer::writer::put_constraints` meets its contract. The loop's invariant: the fields of the first i constraints are in place. Assumes nothing.
use Rattle.writer.specs.way.Write.{constraint_fields}
use Rattle.writer.proofs.WriteLaws.{Puts}
use Rattle.writer.proofs.writer.put_constraints.Given as goal

abbrev pub invariant-loop-i : goal.invariant-loop-i
invariant-loop-i l = Puts (constraint_fields l.constraints) l.m l.initial.buf l.at l.buf l.next l.i
