-- `scan::columns::Columns::enter` meets its contract. The invariant: the entries are those of the constraints passed. Assumes nothing.
use mathlib.Core.Path.{◌≡◌, sym, ap, ◌∙◌}
use mathlib.Core.List.{List}
use Prim.Native.Nat.{ℕ, min}
use native.Mathlib.Omega.{arith}
use lib.ListN.{get_or}
use Rattle.scan.specs.declared.entries.Entries.{Entries}
use Rattle.scan.specs.Set.{most_constraints}
use Rattle.scan.specs.way.Table.{filled_up}
use Rattle.scan.specs.way.Entries.{with_one, entries_upto, entries_by}
use Rattle.scan.proofs.EntriesLaws.{entries_none, entries_on, entries_off}
use Rattle.scan.proofs.columns.Columns.enter.Goals as goal
use Rattle.scan.proofs.columns.Columns.enter.Goals.{then-on, else-on}
use Rattle.scan.proofs.columns.Columns.enter.Invariants.{reached}

-- all constraints are passed
done : (plain negated : List ℕ) (m entered i count : ℕ) (asked named : List ℕ) → reached count asked named ≡ entries_upto plain negated entered i
    → i ≡ min m most_constraints → (filled : ℕ) → filled ≡ filled_up count → reached filled asked named ≡ entries_by plain negated m entered
unfolding entries_by
done plain negated m entered i count asked named inv e filled ef =
    ap (λ (k : ℕ). reached k asked named) ef
    ∙ ap (λ (x : Entries). reached (filled_up x.count) x.plain x.named) (inv ∙ ap (entries_upto plain negated entered) e)

pub loop-i-init : goal.loop-i-init
loop-i-init c =
    let a = c.args in
    (omega arith, sym (entries_none a.self.now.out_plain a.self.now.out_negated a.entered))

pub loop-i-preserved : goal.loop-i-preserved
loop-i-preserved c =
    let l = c.loop-i in
    let a = c.args in
    elim c.if-on.branch [
      | then-on w ↦ (
        omega (arith, w.count-is),
        (λ k. reached (w.count-is k) (w.plain-is k) (w.named-is k))
            ∙ ap (with_one (get_or a.self.now.out_plain l.i 0) (get_or a.self.now.out_negated l.i 0)) l.invariant.1
            ∙ sym (entries_on a.self.now.out_plain a.self.now.out_negated a.entered l.i (sym c.bit64-on.ensures ∙ w.if-on.true)),
      )
      | else-on w ↦ (
        omega (arith, w.count-is),
        (λ k. reached (w.count-is k) (w.plain-is k) (w.named-is k)) ∙ l.invariant.1
            ∙ sym (entries_off a.self.now.out_plain a.self.now.out_negated a.entered l.i (sym c.bit64-on.ensures ∙ w.if-on.false)),
      )
    ]

pub returns : goal.returns
returns c =
    let l = c.loop-i in
    let a = c.args in
    done a.self.now.out_plain a.self.now.out_negated a.self.now.m a.entered l.i l.count l.plain l.named l.invariant.1 (omega arith) c.fill_up.result c.fill_up.ensures
