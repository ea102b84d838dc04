-- `scan::entries::flip_if` meets its contract. Assumes nothing.
use borrow.Author.Tests.{eq-eqb, ne_eqb}
use Rattle.words.proofs.BoolLaws.{cond_true, cond_false}
use Rattle.scan.proofs.entries.flip_if.Goals as goal

pub returns-then-v-named : goal.returns-then-v-named
returns-then-v-named c = cond_true _ _ _ (eq-eqb _ _ c.if-v-named.true)

pub returns-else-v-named : goal.returns-else-v-named
returns-else-v-named c = cond_false _ _ _ (ne_eqb _ _ c.if-v-named.false)
