-- `shape::shape::is_read_place_ok` meets its contract. Assumes nothing.
use mathlib.Core.Path.{◌∙◌}
use lib.Dec.{ltb}
use borrow.Author.Tests.{lt-ltb, le-ltb}
use Rattle.words.proofs.BoolLaws.{cond_true, cond_false}
use Rattle.shape.specs.way.Shape.{read_by}
use Rattle.scan.specs.Shape.{read_zero}
use Rattle.shape.proofs.shape.is_read_place_ok.Goals as goal

pub returns-then-k-r : goal.returns-then-k-r
returns-then-k-r c =
    let t = c in
    let a = t.args in
    c.is_read_ok.ensures ∙ cond_true (ltb a.k a.r) _ (read_zero a.p) (lt-ltb a.k a.r t.if-k-r.true)

pub returns-else-k-r : goal.returns-else-k-r
returns-else-k-r c =
    let t = c in
    let a = t.args in
    c.is_read_zero.ensures ∙ cond_false (ltb a.k a.r) (read_by a.names.now a.sensors a.n a.k a.p) _ (le-ltb a.k a.r t.if-k-r.false)
