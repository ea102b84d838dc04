-- `loader::point::kind_of` meets its contract: the arm says which case of `kind_of` holds, and its test the kind. Assumes nothing.
use mathlib.Core.Path.{◌≡◌, refl, sym, ap, ◌∙◌}
use mathlib.Core.Bool.{Bool, true, false, ◌&&◌}
use lib.Dec.{eqb, ltb}
use borrow.Author.Tests.{lt-ltb, le-ltb}
use borrow.Author.Rules.{rules}
use Rattle.std.specs.Bool.{then_some}
use Rattle.scan.specs.declared.set.Kind.{Kind}
use Rattle.scan.specs.declared.set.Kind.TheVariants.{Sensor, PastOutput, PastSensor}
use Rattle.loader.specs.Load.{kind_of, kind_if}
use Rattle.loader.specs.way.Load.{not_past}
use Rattle.loader.proofs.LoadLaws.{kind_0, kind_1, kind_2, kind_other}
use Rattle.loader.proofs.point.kind_of.Goals as goal
use Rattle.loader.proofs.point.kind_of.Goals.{then-k-i, else-k-i}

some_if : (b : Bool) (k : Kind) → then_some b k ≡ kind_if b k
some_if true k = refl
some_if false k = refl

pub returns-in-0 : goal.returns-in-0
returns-in-0 c =
    let a = c.args in
    c.then_some.ensures ∙ some_if (eqb a.index 0) Sensor ∙ sym (ap (λ x. kind_of a.n (not_past a.pasts.now) a.i x a.index) c.in-0.is ∙ kind_0 a.n (not_past a.pasts.now) a.i a.index)

pub returns-in-1 : goal.returns-in-1
returns-in-1 c =
    let a = c.args in
    c.then_some-in-1.ensures ∙ some_if (ltb a.index a.n) (PastOutput a.index) ∙ sym (ap (λ x. kind_of a.n (not_past a.pasts.now) a.i x a.index) c.in-1.is ∙ kind_1 a.n (not_past a.pasts.now) a.i a.index)

pub returns-after-k-i : goal.returns-after-k-i
returns-after-k-i c =
    let a = c.args in
    let test : Bool → Bool = λ b. b && not_past a.pasts.now a.index in
    let both : c.if-k-i.then_some ≡ test (ltb a.index a.i) =
    elim c.if-k-i.branch [
      | then-k-i w ↦ w.then_some-is ∙ ap test (sym (lt-ltb _ _ w.if-k-i.true))
      | else-k-i w ↦ let none = le-ltb a.index a.i w.if-k-i.false in w.then_some-is ∙ none ∙ ap test (sym none)
    ] in
    c.then_some-in-2.ensures ∙ some_if c.if-k-i.then_some (PastSensor a.index) ∙ ap (λ b. kind_if b (PastSensor a.index)) both
    ∙ sym (ap (λ x. kind_of a.n (not_past a.pasts.now) a.i x a.index) c.in-2.is ∙ kind_2 a.n (not_past a.pasts.now) a.i a.index)

pub returns-in_default : goal.returns-in_default
returns-in_default c =
    let a = c.args in
    sym (kind_other a.n (not_past a.pasts.now) a.i a.index a.kind (search rules) (search rules) (search rules))
