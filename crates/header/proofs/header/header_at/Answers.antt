-- `header::header::header_at` meets its contract: at each `return` the tests that led there say which case of `header_of` holds. Assumes nothing.
use mathlib.Core.Path.{◌≡◌, sym, ap, ◌∙◌}
use mathlib.Core.Bool.{Bool, true, false, ◌&&◌}
use mathlib.Core.Logic.{◌⊎◌, inl, inr}
use Prim.Native.Nat.{ℕ, ◌<◌}
use native.Mathlib.Omega.{arith}
use lib.Dec.{leb}
use lib.ListN.{drop}
use borrow.Author.Tests.{lt-leb, le-leb}
use Rattle.std.specs.Prelude.{None, Some, Err}
use Rattle.header.specs.declared.numbers.Fault.TheVariants.{PastEnd}
use Rattle.header.specs.way.Header.{header_told}
use Rattle.scan.specs.Set.{most_constraints}
use Rattle.header.specs.Tag.{is_constraint}
use Rattle.header.specs.Header.{is_due, raw_of}
use Rattle.header.proofs.HeaderLaws.{past_end, not_due, too_many, not_in_table, a_field}
use Rattle.header.proofs.header.header_at.Goals as goal
use Rattle.header.proofs.header.header_at.Goals.{Else-not-is_due, In_ok-field}

-- The field is there.
there : (c : In_ok-field) → let a = c.args in raw_of (drop a.at a.s.now) ≡ Some c.in_ok-field.field
there c =
    let found : c.field_at.result ≡ Some c.in_ok-field.field = grind arith in
    sym c.field_at.ensures ∙ found

-- The tag is due.
due_here : (c : Else-not-is_due) → is_due c.args.due c.in_ok-field.field.tag ≡ true
due_here c = sym c.is_due.ensures ∙ c.if-not-is_due.false

-- It is no constraint too many.
few : (tag m : ℕ) (is : Bool) → is ≡ is_constraint tag → ((is ≡ true) × (m < most_constraints)) ⊎ (is ≡ false) → (is_constraint tag && leb most_constraints m) ≡ false
few tag m is e (inl x) = simp (sym e ∙ x.0, lt-leb _ _ x.1)
few tag m is e (inr x) = simp (sym e ∙ x)

pub returns-in_err-field : goal.returns-in_err-field
returns-in_err-field c =
    let a = c.args in
    let none : c.field_at.result ≡ None = grind arith in
    let refused : c.from_residual.result ≡ Err PastEnd = grind arith in
    ap header_told refused ∙ sym (past_end (drop a.at a.s.now) a.due a.m (sym c.field_at.ensures ∙ none))

pub returns-then-not-is_due : goal.returns-then-not-is_due
returns-then-not-is_due c =
    let a = c.args in
    let f = (goal.at.returns-then-not-is_due c).In_ok-field in
    sym (not_due (drop a.at a.s.now) a.due a.m _ _ (there f) (sym c.is_due.ensures ∙ c.if-not-is_due.true))

pub returns-then-m-ge-MOST_CONSTRAINTS : goal.returns-then-m-ge-MOST_CONSTRAINTS
returns-then-m-ge-MOST_CONSTRAINTS c =
    let e = (goal.at.returns-then-m-ge-MOST_CONSTRAINTS c).Else-not-is_due in
    let f = (goal.at.returns-then-m-ge-MOST_CONSTRAINTS c).In_ok-field in
    let a = c.args in
    sym (too_many (drop a.at a.s.now) a.due a.m _ _ (there f) (due_here e) (simp (sym c.is_constraint.ensures ∙ c.if-is_constraint.true, le-leb _ _ c.if-m-ge-MOST_CONSTRAINTS.true)))

pub returns-then-not-fits_table : goal.returns-then-not-fits_table
returns-then-not-fits_table c =
    let e = (goal.at.returns-then-not-fits_table c).Else-not-is_due in
    let f = (goal.at.returns-then-not-fits_table c).In_ok-field in
    let a = c.args in
    sym (not_in_table (drop a.at a.s.now) a.due a.m _ _ (there f) (due_here e) (few c.in_ok-field.field.tag a.m c.is_constraint.result c.is_constraint.ensures c.else-is_constraint.either) (sym c.fits_table.ensures ∙ c.if-not-fits_table.true))

pub returns : goal.returns
returns c =
    let e = (goal.at.returns c).Else-not-is_due in
    let f = (goal.at.returns c).In_ok-field in
    let a = c.args in
    sym (a_field (drop a.at a.s.now) a.due a.m _ _ (there f) (due_here e) (few c.in_ok-field.field.tag a.m c.is_constraint.result c.is_constraint.ensures c.else-is_constraint.either) (sym c.fits_table.ensures ∙ c.if-not-fits_table.false))
