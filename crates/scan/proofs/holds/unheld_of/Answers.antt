-- `scan::holds::unheld_of` meets its contract. Assumes nothing.
use mathlib.Core.Path.{sym, ap, ◌∙◌}
use Prim.Native.Nat.{ℕ, ◌-◌, ◌^◌}
use native.Mathlib.Nat.{min-eq_left}
use native.Mathlib.Omega.{arith}
use lib.Bits.{bit_or}
use Rattle.words.specs.Word.{without}
use Rattle.scan.specs.Holds.{unheld_by}
use Rattle.scan.specs.way.Holds.{unheld_from}
use Rattle.scan.proofs.holds.unheld_of.Goals as goal

pub returns-in-Forced : goal.returns-in-Forced
unfolding unheld_by
returns-in-Forced c =
    let l = c in
    let f = l in
    let a = f.args in
    c.without16.ensures
    ∙ ap (λ (x : ℕ). without x (bit_or f.in-Forced.f0 f.in-Forced.f1))
    (l.low16.ensures ∙ ap (λ (k : ℕ). 2 ^ k - 1) (min-eq_left {m = 16} (omega arith)))
    ∙ ap (unheld_from a.n) (sym f.in-Forced.is)

pub returns-in-Clash : goal.returns-in-Clash
returns-in-Clash c = let a = c.args in ap (unheld_from a.n) (sym c.in-Clash.is)
