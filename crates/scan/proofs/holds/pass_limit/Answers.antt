-- `scan::holds::pass_limit` meets its contract. Assumes nothing.
use mathlib.Core.Path.{sym, subst, ap, ◌∙◌}
use Prim.Native.Nat.{ℕ, ◌-◌, ◌^◌, ◌≤◌, min}
use native.Mathlib.Nat.{min-eq_left}
use Rattle.words.specs.Word.{popcount}
use Rattle.words.proofs.PopcountLaws.{ones_count, count_le}
use Rattle.scan.proofs.holds.pass_limit.Goals as goal

-- a count of ones is at most 16
few : (w : ℕ) → popcount w ≤ 16
unfolding popcount
few w = subst (λ (k : ℕ). k ≤ 16) (sym (ones_count 16 w)) (count_le 16 _)

pub returns : goal.returns
returns c =
    c.low16.ensures
    ∙ ap (λ (k : ℕ). 2 ^ k - 1)
    (ap (λ (k : ℕ). min k 16) c.ones16.ensures ∙ min-eq_left {m = 16} (few c.args.unheld))
