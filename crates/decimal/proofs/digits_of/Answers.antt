-- `decimal::digits_of` meets its contract. The loop's invariant: what is left of the number, written before the bytes from `at` on, gives the digits.
use Prim.Native.Nat.{ℕ, ◌+◌, ◌-◌}
use borrow.Author.Rules.{rules}
use mathlib.Core.Path.{◌≡◌, refl, sym, ap, ◌∙◌}
use native.Mathlib.Omega.{arith}
use lib.ListN.{drop, length-set}
use Rattle.decimal.specs.Decimal.{last_digit}
use Rattle.decimal.proofs.DecimalLaws.{digits_start, digits_more, digits_end, digits_full, zeros_before}
use Rattle.decimal.proofs.digits_of.Goals as goal

pub loop-at-init : goal.loop-at-init
loop-at-init c = (search rules, search rules, digits_start c.args.n, refl)

pub returns-then-rest-eq0 : goal.returns-then-rest-eq0
returns-then-rest-eq0 c =
    let l = c.loop-at in
    let same : l.at - 1 + 1 ≡ l.at = omega arith in (
      omega arith,
      ap (λ (k : ℕ). drop k l.bytes) same ∙ digits_end _ _ _ _ c.if-rest-eq0.true l.invariant.2,
      rw same l.invariant.3,
    )

pub loop-at-preserved : goal.loop-at-preserved
loop-at-preserved c =
    let l = c.loop-at in (
      omega arith,
      length-set l.bytes (l.at - 1) (last_digit l.rest) ∙ l.invariant.1,
      digits_more _ l.bytes l.at l.rest c.loop-at-test.true (omega arith) c.if-rest-eq0.false l.invariant.2,
      zeros_before l.bytes l.at (last_digit l.rest) c.loop-at-test.true l.invariant.3,
    )

pub returns : goal.returns
returns c =
    let l = c.loop-at in
    let end : l.at ≡ 0 = omega arith in
    (omega arith, ap (λ (k : ℕ). drop k l.bytes) (sym end) ∙ digits_full _ _ _ _ end l.invariant.2, refl)
