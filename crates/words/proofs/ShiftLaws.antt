-- `1 << n` and `(1 << n) - 1`, where the shift is below the width.
-- Assumes nothing.
use mathlib.Core.Path.{◌≡◌, sym, ap, ◌∙◌, subst}
use Prim.Native.Nat.{ℕ, ◌-◌, ◌*◌, ◌%◌, ◌^◌, ◌≤◌, ◌<◌}
use native.Mathlib.Nat.{one-mul}
use native.Mathlib.Omega.{arith}
use lib.Dec.{lit<}
use lib.Pow.{pow_pos, shl_exact}

pub one_shl : (w n : ℕ) → n < w → (1 * 2 ^ n) % 2 ^ w ≡ 2 ^ n
one_shl w n h = shl_exact 1 n w (lit< tt) (omega arith) ∙ one-mul (2 ^ n)

pub one_shl_pos : (w n : ℕ) → n < w → 1 ≤ (1 * 2 ^ n) % 2 ^ w
one_shl_pos w n h = subst (λ (x : ℕ). 1 ≤ x) (sym (one_shl w n h)) (pow_pos n)

pub one_shl_sub : (w n : ℕ) → n < w → (1 * 2 ^ n) % 2 ^ w - 1 ≡ 2 ^ n - 1
one_shl_sub w n h = ap (λ (x : ℕ). x - 1) (one_shl w n h)
