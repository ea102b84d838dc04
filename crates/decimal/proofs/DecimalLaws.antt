-- What the proof of `digits_of` uses: the digits of a number from the last to the first.
-- Assumes nothing.
use mathlib.Core.Path.{◌≡◌, refl, sym, ap, ◌∙◌}
use mathlib.Core.Bool.{cond}
use mathlib.Core.List.{List, [], ◌∷◌, ◌++◌, append_assoc}
use Prim.Native.Nat.{ℕ, zero, suc, ◌+◌, ◌-◌, ◌/◌, ◌≤◌, ◌<◌}
use native.Mathlib.Numerals.{add-one}
use native.Mathlib.Omega.{arith}
use borrow.Author.Tests.{eq-eqb, ne_eqb}
use lib.ListN.{length, take, drop, set, replicate, length-set}
use lib.Seq.{take-set-le, take-take, drop-cons, drop-set-lt, get_or-set_same}
use Rattle.decimal.specs.Decimal.{last_digit, leading, decimal}

-- a byte stored before those from a place on
stored : (bytes : List ℕ) (k b : ℕ) → k < length bytes → drop k (set bytes k b) ≡ b ∷ drop (k + 1) bytes
stored bytes k b h =
    drop-cons (set bytes k b) k 0 (omega (arith, length-set bytes k b))
    ∙ (λ i. get_or-set_same bytes k b 0 h i ∷ (ap (λ (j : ℕ). drop j (set bytes k b)) (sym (add-one k)) ∙ drop-set-lt (k + 1) bytes k b (omega arith)) i)

-- the last digit
pub digits_start : (n : ℕ) → leading 19 (n / 10) ++ (last_digit n ∷ []) ≡ decimal n
unfolding decimal
digits_start n = refl

-- one digit more
pub digits_more : (whole bytes : List ℕ) (at n : ℕ) → 0 < at → at ≤ length bytes → (n ≡ 0 → ⊥) → leading at n ++ drop at bytes ≡ whole
    → leading (at - 1) (n / 10) ++ drop (at - 1) (set bytes (at - 1) (last_digit n)) ≡ whole
unfolding leading
digits_more whole bytes zero n p h ne e = absurd (omega arith)
digits_more whole bytes (suc at) n p h ne e =
    let back : suc at - 1 ≡ at = omega arith in
    rw back
    (ap (λ (l : List ℕ). leading at (n / 10) ++ l) (stored bytes at (last_digit n) (omega arith) ∙ ap (λ (j : ℕ). last_digit n ∷ drop j bytes) (add-one at))
    ∙ sym (append_assoc (leading at (n / 10)) (last_digit n ∷ []) (drop (suc at) bytes))
    ∙ ap (λ b. cond b [] (leading at (n / 10) ++ (last_digit n ∷ [])) ++ drop (suc at) bytes) (sym (ne_eqb n 0 ne))
    ∙ e)

-- no digit is left
pub digits_end : (whole bytes : List ℕ) (at n : ℕ) → n ≡ 0 → leading at n ++ drop at bytes ≡ whole → drop at bytes ≡ whole
unfolding leading
digits_end whole bytes zero n z e = e
digits_end whole bytes (suc at) n z e =
    ap (λ b. cond b [] (leading at (n / 10) ++ (last_digit n ∷ [])) ++ drop (suc at) bytes) (sym (eq-eqb n 0 z)) ∙ e

-- all 20 digits are taken
pub digits_full : (whole bytes : List ℕ) (at n : ℕ) → at ≡ 0 → leading at n ++ drop at bytes ≡ whole → drop at bytes ≡ whole
unfolding leading
digits_full whole bytes zero n z e = e
digits_full whole bytes (suc at) n z e = absurd (omega arith)

-- one zero less
fewer_zeros : (k : ℕ) → ◌≡◌ {A = List ℕ} (take k (replicate (suc k) 0)) (replicate k 0)
fewer_zeros zero = refl
fewer_zeros (suc k) = ap (λ (l : List ℕ). 0 ∷ l) (fewer_zeros k)

-- zeros stand before the digits
pub zeros_before : (bytes : List ℕ) (at b : ℕ) → 0 < at → take at bytes ≡ replicate at 0 → take (at - 1) (set bytes (at - 1) b) ≡ replicate (at - 1) 0
zeros_before bytes zero b p e = absurd (omega arith)
zeros_before bytes (suc at) b p e =
    let back : suc at - 1 ≡ at = omega arith in
    rw back (take-set-le at bytes at b (omega arith) ∙ sym (take-take at (suc at) bytes (omega arith)) ∙ ap (take at) e ∙ fewer_zeros at)
