-- The decimal digits of a number, in ASCII.
-- Assumes nothing.
use Rattle.std.specs.Prelude.{ℕ, zero, suc, ◌+◌, ◌/◌, ◌%◌, cond, List, [], ◌∷◌, ◌++◌, eqb}

-- the last digit of a number, in ASCII
abbrev pub last_digit : ℕ → ℕ
last_digit n = 0x30 + n % 10

-- the digits of a number, none for 0, and at most so many of them
unfoldable pub leading : ℕ → ℕ → List ℕ
leading zero n = []
leading (suc most) n =
    let more = leading most (n / 10) ++ (last_digit n ∷ []) in
    cond (eqb n 0) [] more

-- the decimal digits of a number of at most 20 digits, without leading zeros
unfoldable pub decimal : ℕ → List ℕ
decimal n = leading 19 (n / 10) ++ (last_digit n ∷ [])
