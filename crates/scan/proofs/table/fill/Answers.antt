-- `scan::table::fill` meets its contract. The invariant: the entries are those of the constraints passed. Assumes nothing.
use mathlib.Core.Path.{◌≡◌, sym, ap, ap₂, ◌∙◌}
use mathlib.Core.Bool.{true}
use mathlib.Core.List.{List}
use Prim.Native.Nat.{ℕ, ◌+◌, ◌<◌, ◌^◌}
use native.Mathlib.Nat.{lt_of_le_of_lt}
use native.Mathlib.Omega.{arith}
use lib.ListN.{set}
use lib.Bits.{bit_and, bit_or, and_le_r}
use lib.Pow.{pow_pos, ones_lt}
use Rattle.words.specs.Word.{bit, low}
use Rattle.scan.specs.declared.set.Set.{Set}
use Rattle.scan.specs.declared.holds.Holds.{Holds}
use Rattle.scan.specs.declared.holds.Holds.TheVariants.{Forced, Clash}
use Rattle.scan.specs.Holds.{unheld_by}
use Rattle.scan.specs.declared.table.Table.{Table}
use Rattle.scan.specs.Set.{constraint, outs}
use Rattle.scan.specs.Pass.{yielding}
use Rattle.scan.specs.way.Holds.{unheld_from, limit_by}
use Rattle.scan.specs.way.Columns.{counted}
use Rattle.scan.specs.way.Table.{outputs_in, unheld_in, yields_in, with_entry, with_count, table_upto, filled_up, table_by}
use Rattle.scan.proofs.HoldsLaws.{without_lt}
use Rattle.scan.proofs.TableLaws.{upto_none, upto_on, upto_off}
use Rattle.scan.proofs.table.fill.Goals as goal
use Rattle.scan.proofs.table.fill.Goals.{then-on, else-on}
use Rattle.scan.proofs.table.fill.Invariants.{table, reached}

module _ (s : Set) (h : Holds) (entered i count : ℕ) (plain named flip : List ℕ) (inv : reached s h count plain named flip ≡ table_upto s h entered i) where
  -- a constraint that the mask has is entered
  on : bit i entered ≡ true → (n unheld y : ℕ) → n ≡ outputs_in s → unheld ≡ unheld_from n h
      → y ≡ yielding n (constraint s i) (bit_and (outs (constraint s i)) unheld)
      → reached s h (count + 1) (set plain count (constraint s i).out_plain) (set named count (outs (constraint s i))) (set flip count y)
      ≡ table_upto s h entered (i + 1)
  unfolding yields_in unheld_in
  on e n unheld y en eu ey =
      let c = constraint s i in
      ap (λ (x : ℕ). reached s h (count + 1) (set plain count c.out_plain) (set named count (outs c)) (set flip count x))
      (ey ∙ (λ k. yielding (en k) c (bit_and (outs c) ((eu ∙ ap (λ (x : ℕ). unheld_from x h) en) k))))
      ∙ ap (with_entry c (yields_in s h i)) inv
      ∙ sym (upto_on s h entered i e)

  -- all constraints are passed
  done : (n unheld limit filled : ℕ) → n ≡ outputs_in s → unheld ≡ unheld_from n h → limit ≡ limit_by unheld → filled ≡ filled_up count
      → i ≡ counted s → table h limit filled plain named flip ≡ table_by s h entered
  unfolding table_by unheld_in
  done n unheld limit filled en eu el ef e =
      ap₂ (λ (x k : ℕ). table h x k plain named flip) (el ∙ ap limit_by (eu ∙ ap (λ (x : ℕ). unheld_from x h) en)) ef
      ∙ ap (λ (t : Table). with_count (filled_up t.entries.count) t) (inv ∙ ap (table_upto s h entered) e)

-- outputs that are not held are among the first n
unheld_small : (n : ℕ) (h : Holds) → unheld_from n h < 2 ^ n
unfolding unheld_by
unheld_small n (Forced f0 f1) = without_lt n (low n) (bit_or f0 f1) (ones_lt n)
unheld_small n (Clash k) = pow_pos n

pub loop-i-init : goal.loop-i-init
loop-i-init c =
    let a = c.args in
    (omega arith, sym (upto_none a.s.now a.h a.entered))

pub yielding_within-requires : goal.yielding_within-requires
unfolding constraint
yielding_within-requires c =
    let t = c in
    let u = t in
    let a = u.args in
    let k = u.min-n.result in
    let own = outs (constraint a.s.now t.loop-i.i) in (
      omega (arith, u.min-n.ensures),
      lt_of_le_of_lt (and_le_r own u.unheld_of-unheld.result) (rw u.unheld_of-unheld.ensures (unheld_small k a.h)),
    )

pub loop-i-preserved : goal.loop-i-preserved
unfolding constraint
loop-i-preserved c =
    let l = c.loop-i in
    let a = c.args in
    elim c.if-on.branch [
      | then-on w ↦ (
        omega (arith, w.count-is),
        (λ k. reached a.s.now a.h (w.count-is k) (w.plain-is k) (w.named-is k) (w.flip-is k))
            ∙ on a.s.now a.h a.entered l.i l.count l.plain l.named l.flip l.invariant.1 (sym c.bit64-on.ensures ∙ w.if-on.true)
            c.min-n.result c.unheld_of-unheld.result w.yielding_within.result c.min-n.ensures c.unheld_of-unheld.ensures
            w.yielding_within.ensures,
      )
      | else-on w ↦ (
        omega (arith, w.count-is),
        (λ k. reached a.s.now a.h (w.count-is k) (w.plain-is k) (w.named-is k) (w.flip-is k)) ∙ l.invariant.1
            ∙ sym (upto_off a.s.now a.h a.entered l.i (sym c.bit64-on.ensures ∙ w.if-on.false)),
      )
    ]

pub returns : goal.returns
returns c =
    let p = c in
    let l = p.loop-i in
    let u = p in
    let a = u.args in
    done a.s.now a.h a.entered l.i l.count l.plain l.named l.flip l.invariant.1
    u.min-n.result u.unheld_of-unheld.result p.pass_limit.result c.fill_up.result u.min-n.ensures u.unheld_of-unheld.ensures
    p.pass_limit.ensures c.fill_up.ensures (omega arith)
