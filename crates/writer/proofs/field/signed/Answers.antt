-- `writer::field::signed` meets its contract. Assumes nothing.
use native.Mathlib.Omega.{arith}
use Rattle.words.proofs.BoolLaws.{cond_true, cond_false}
use Rattle.writer.proofs.field.signed.Goals as goal

pub returns-then-plain : goal.returns-then-plain
returns-then-plain c = (cond_true _ _ _ c.if-plain.true, omega (arith, c.requires))

pub returns-else-plain : goal.returns-else-plain
returns-else-plain c = (cond_false _ _ _ c.if-plain.false, omega (arith, c.requires))
