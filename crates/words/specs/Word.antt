-- Words: a number is a row of bits, bit 0 the lowest.
-- Assumes nothing.
use Rattle.std.specs.Prelude.{ℕ, ◌-◌, ◌/◌, ◌%◌, ◌^◌, Bool, ◌&&◌, eqb}
use Rattle.std.specs.Int.Bits.{bit_and, bit_xor}
use Rattle.std.specs.Int.Count.{ones_in}

-- the lowest bit of x is set
unfoldable pub odd : ℕ → Bool
odd x = eqb (x % 2) 1

-- bit k of w is set
unfoldable pub bit : ℕ → ℕ → Bool
bit k w = odd (w / 2 ^ k)

-- the word whose n low bits are set
abbrev pub low : ℕ → ℕ
low n = 2 ^ n - 1

-- the bits of a that b has not
unfoldable pub without : ℕ → ℕ → ℕ
without a b = bit_xor a (bit_and a b)

-- every bit of plain is set in w, and none of negated
unfoldable pub meets : ℕ → ℕ → ℕ → Bool
meets plain negated w = eqb (bit_and w plain) plain && eqb (bit_and w negated) 0

-- how many bits of a word of 16 bits are set: its count of ones
unfoldable pub popcount : ℕ → ℕ
popcount w = ones_in 16 w
