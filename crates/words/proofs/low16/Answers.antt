-- `words::low16` meets its contract. Assumes nothing.
use mathlib.Core.Path.{sym, ap, ◌∙◌}
use Prim.Native.Nat.{ℕ, ◌-◌, ◌^◌}
use native.Mathlib.Nat.{min-eq_left, min-eq_right}
use native.Mathlib.Omega.{arith}
use Rattle.words.proofs.ShiftLaws.{one_shl_pos, one_shl_sub}
use Rattle.words.proofs.low16.Goals as goal

pub overflow_sub-result : goal.overflow_sub-result
overflow_sub-result c = one_shl_pos 16 c.args.n (omega arith)

pub returns-then-n-lt16 : goal.returns-then-n-lt16
returns-then-n-lt16 c =
    one_shl_sub 16 c.args.n (omega arith)
    ∙ ap (λ (k : ℕ). 2 ^ k - 1) (sym (min-eq_left {m = 16} (omega arith)))

pub returns-else-n-lt16 : goal.returns-else-n-lt16
returns-else-n-lt16 c = ap (λ (k : ℕ). 2 ^ k - 1) (sym (min-eq_right {n = 16} (omega arith)))
