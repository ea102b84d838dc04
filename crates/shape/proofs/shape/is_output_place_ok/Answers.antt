-- `shape::shape::is_output_place_ok` meets its contract. Assumes nothing.
use mathlib.Core.Path.{◌∙◌}
use mathlib.Core.List.{[]}
use lib.ListN.{get_or}
use lib.Dec.{ltb}
use borrow.Author.Tests.{lt-ltb, le-ltb}
use Rattle.words.proofs.BoolLaws.{cond_true, cond_false}
use Rattle.scan.specs.Names.{name_zero}
use Rattle.shape.specs.way.Shape.{output_by}
use Rattle.shape.proofs.shape.is_output_place_ok.Goals as goal

pub returns-then-j-n : goal.returns-then-j-n
returns-then-j-n c =
    let t = c in
    let a = t.args in
    c.is_output_ok.ensures ∙ cond_true (ltb a.j a.n) _ (name_zero (get_or a.outputs.now a.j [])) (lt-ltb a.j a.n t.if-j-n.true)

pub returns-else-j-n : goal.returns-else-j-n
returns-else-j-n c =
    let t = c in
    let a = t.args in
    c.is_zero_name.ensures ∙ cond_false (ltb a.j a.n) (output_by a.reads.now a.r a.outputs.now a.j) _ (le-ltb a.j a.n t.if-j-n.false)
