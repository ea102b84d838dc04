-- `shape::shape::is_constraint_place_ok` meets its contract. Assumes nothing.
use mathlib.Core.Path.{◌∙◌}
use Rattle.words.specs.Loop.{every}
use Rattle.words.proofs.BoolLaws.{cond_true, cond_false}
use Rattle.scan.specs.Shape.{constraint_tests, constraint_zero}
use Rattle.shape.proofs.shape.is_constraint_place_ok.Goals as goal

pub returns-then-used : goal.returns-then-used
returns-then-used c =
    let a = c.args in
    c.is_constraint_ok.ensures ∙ cond_true a.used (every (constraint_tests a.r a.n a.c)) (constraint_zero a.c) c.if-used.true

pub returns-else-used : goal.returns-else-used
returns-else-used c =
    let a = c.args in
    c.is_constraint_zero.ensures ∙ cond_false a.used (every (constraint_tests a.r a.n a.c)) (constraint_zero a.c) c.if-used.false
