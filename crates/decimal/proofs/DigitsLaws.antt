-- The decimal digits of a number say that number; each is a digit, and the first of several is not 0.
-- Assumes nothing.
use mathlib.Core.Path.{◌≡◌, refl, sym, ap, ◌∙◌}
use mathlib.Core.Bool.{Bool, true, false, cond}
use mathlib.Core.List.{List, [], ◌∷◌, ◌++◌, append_assoc}
use mathlib.Core.Logic.{◌≢◌}
use Prim.Native.Nat.{ℕ, zero, suc, ◌+◌, ◌-◌, ◌*◌, ◌/◌, ◌%◌, ◌^◌, ◌≤◌, ◌<◌}
use native.Mathlib.Decide.{dec_le}
use native.Mathlib.Omega.{arith}
use native.Mathlib.Nat.{pow-suc}
use lib.Dec.{eqb}
use lib.ListN.{length, get_or, length-append}
use borrow.Author.Tests.{ne_eqb, eqb-true, eqb-false}
use Rattle.words.proofs.BoolLaws.{by_test}
use Rattle.decimal.specs.Decimal.{last_digit, leading, decimal}
use Rattle.decimal.specs.Digits.{said_after, said}

-- one digit more
said_more : (digits : List ℕ) (before n : ℕ) → said_after before (digits ++ (last_digit n ∷ [])) ≡ said_after before digits * 10 + n % 10
unfolding said_after
said_more [] before n = omega arith
said_more (d ∷ digits) before n = said_more digits (before * 10 + (d - 0x30)) n

-- the leading digits of a number that has no more than so many say it
leading_says : (most n : ℕ) → n < 10 ^ most → said (leading most n) ≡ n
unfolding leading said_after
leading_says zero n h = omega (arith, h)
leading_says (suc most) n h =
    by_test (eqb n 0)
    (λ e. ap (λ (b : Bool). said (cond b [] (leading most (n / 10) ++ (last_digit n ∷ [])))) e ∙ (let z = eqb-true n 0 e in omega arith))
    (λ e. ap (λ (b : Bool). said (cond b [] (leading most (n / 10) ++ (last_digit n ∷ [])))) e
    ∙ said_more (leading most (n / 10)) 0 n
    ∙ ap (λ (k : ℕ). k * 10 + n % 10) (leading_says most (n / 10) (omega (arith, pow-suc 10 most)))
    ∙ omega arith)

-- The digits of a number of at most 20 digits, as every number of 64 bits is, say the number.
pub decimal_says : (n : ℕ) → n < 10 ^ 20 → said (decimal n) ≡ n
unfolding decimal
decimal_says n h = said_more (leading 19 (n / 10)) 0 n ∙ ap (λ (k : ℕ). k * 10 + n % 10) (leading_says 19 (n / 10) (omega arith)) ∙ omega arith

leading_none : (most : ℕ) → leading most 0 ≡ []
unfolding leading
leading_none zero = refl
leading_none (suc most) = refl

leading_on : (most n : ℕ) → (n ≡ 0 → ⊥) → leading (suc most) n ≡ leading most (n / 10) ++ (last_digit n ∷ [])
unfolding leading
leading_on most n p = ap (λ (b : Bool). cond b [] (leading most (n / 10) ++ (last_digit n ∷ []))) (ne_eqb n 0 p)

-- the first of a number's leading digits is not 0
leading_first : (most n : ℕ) (rest : List ℕ) → 0 < n → n < 10 ^ most → get_or (leading most n ++ rest) 0 0 ≢ 0x30
leading_first zero n rest p h = λ e. omega (arith, h)
leading_first (suc most) n rest p h = go (eqb (n / 10) 0) refl (λ q. leading_first most (n / 10) (last_digit n ∷ rest) q (omega (arith, pow-suc 10 most)))
  where
    first : get_or (leading (suc most) n ++ rest) 0 0 ≡ get_or (leading most (n / 10) ++ (last_digit n ∷ rest)) 0 0
    first = ap (λ (l : List ℕ). get_or (l ++ rest) 0 0) (leading_on most n (λ z. omega arith)) ∙ ap (λ (l : List ℕ). get_or l 0 0) (append_assoc (leading most (n / 10)) (last_digit n ∷ []) rest)

    go : (b : Bool) → eqb (n / 10) 0 ≡ b → (0 < n / 10 → get_or (leading most (n / 10) ++ (last_digit n ∷ rest)) 0 0 ≢ 0x30) → get_or (leading (suc most) n ++ rest) 0 0 ≢ 0x30
    go true t more = λ e.
        let z : n / 10 ≡ 0 = eqb-true (n / 10) 0 t in
        let d : last_digit n ≡ 0x30 = sym (first ∙ ap (λ (k : ℕ). get_or (leading most k ++ (last_digit n ∷ rest)) 0 0) z ∙ ap (λ (l : List ℕ). get_or (l ++ (last_digit n ∷ rest)) 0 0) (leading_none most)) ∙ e in
        omega arith
    go false t more = λ e.
        let z : n / 10 ≡ 0 → ⊥ = eqb-false (n / 10) 0 t in
        more (omega arith) (sym first ∙ e)

-- Where a number has several digits, the first is not 0.
pub decimal_first : (n : ℕ) → 10 ≤ n → n < 10 ^ 20 → get_or (decimal n) 0 0 ≢ 0x30
unfolding decimal
decimal_first n p h = leading_first 19 (n / 10) (last_digit n ∷ []) (omega arith) (omega arith)

-- every byte is an ASCII digit, 0x30 to 0x39
abbrev pub AreDigits : List ℕ → Type 0
AreDigits bytes = (k : ℕ) → k < length bytes → (0x30 ≤ get_or bytes k 0) × (get_or bytes k 0 ≤ 0x39)

-- one digit more
digits_behind : (digits : List ℕ) (n : ℕ) → AreDigits digits → AreDigits (digits ++ (last_digit n ∷ []))
digits_behind [] n d zero h = (omega arith, omega arith)
digits_behind [] n d (suc k) h = absurd (omega arith)
digits_behind (x ∷ digits) n d zero h = d 0 (omega arith)
digits_behind (x ∷ digits) n d (suc k) h = digits_behind digits n (λ j l. d (suc j) (omega arith)) k (omega arith)

leading_digits : (most n : ℕ) → AreDigits (leading most n)
unfolding leading
leading_digits zero n = λ k h. absurd (omega arith)
leading_digits (suc most) n = go (eqb n 0) (digits_behind (leading most (n / 10)) n (leading_digits most (n / 10)))
  where
    go : (b : Bool) → AreDigits (leading most (n / 10) ++ (last_digit n ∷ [])) → AreDigits (cond b [] (leading most (n / 10) ++ (last_digit n ∷ [])))
    go true more = λ k h. absurd (omega arith)
    go false more = more

-- Every byte of a number's digits is one of 0x30 to 0x39.
pub decimal_digits : (n : ℕ) → AreDigits (decimal n)
unfolding decimal
decimal_digits n = digits_behind (leading 19 (n / 10)) n (leading_digits 19 (n / 10))

leading_short : (most n : ℕ) → length (leading most n) ≤ most
unfolding leading
leading_short zero n = omega arith
leading_short (suc most) n = go (eqb n 0) (leading_short most (n / 10))
  where
    go : (b : Bool) → length (leading most (n / 10)) ≤ most → length (cond b [] (leading most (n / 10) ++ (last_digit n ∷ []))) ≤ suc most
    go true h = omega arith
    go false h = omega (arith, length-append (leading most (n / 10)) (last_digit n ∷ []))

-- A number has at most 20 digits.
pub decimal_short : (n : ℕ) → length (decimal n) ≤ 20
unfolding decimal
decimal_short n = omega (arith, length-append (leading 19 (n / 10)) (last_digit n ∷ []), leading_short 19 (n / 10))

-- A number has a digit.
pub decimal_some : (n : ℕ) → 1 ≤ length (decimal n)
unfolding decimal
decimal_some n = omega (arith, length-append (leading 19 (n / 10)) (last_digit n ∷ []))

-- a number below 10 has one digit
one_digit : (n : ℕ) → n < 10 → length (decimal n) ≡ 1
unfolding decimal
one_digit n h =
    let z : n / 10 ≡ 0 = omega arith in
    ap (λ (k : ℕ). length (leading 19 k ++ (last_digit n ∷ []))) z ∙ ap (λ (l : List ℕ). length (l ++ (last_digit n ∷ []))) (leading_none 19)

-- Of several digits the first is not 0.
pub decimal_shortest : (n : ℕ) → n < 10 ^ 20 → 2 ≤ length (decimal n) → get_or (decimal n) 0 0 ≢ 0x30
decimal_shortest n h several = go (dec_le 10 n)
  where
    go : Dec (10 ≤ n) → get_or (decimal n) 0 0 ≢ 0x30
    go (yes p) = decimal_first n p h
    go (no p) = λ e. omega (arith, one_digit n (omega arith))
