-- The code's way to a word's verdict: a bit of scratch for each vector, bit v % 8 of byte v / 8, which is set where the vector is marked. A mark says that passes from
-- the vector lead to a safe one.
-- Assumes nothing.
use Rattle.std.specs.Prelude.{ℕ, ◌+◌, ◌*◌, ◌/◌, ◌%◌, ◌^◌, Bool, cond, not, ◌&&◌, List, eqb, ltb, get_or, set}
use Rattle.std.specs.Int.Bits.{bit_or}
use Rattle.words.specs.Word.{bit, low}
use Rattle.words.specs.Loop.{word, listed}
use Rattle.verdict.specs.Judge.{scratch_bytes}

-- vector v is marked
unfoldable pub marked : List ℕ → ℕ → Bool
marked marks v = bit (v % 8) (get_or marks (v / 8) 0)

-- the marks with vector v marked too
unfoldable pub with_mark : List ℕ → ℕ → List ℕ
with_mark marks v = set marks (v / 8) (bit_or (get_or marks (v / 8) 0) (2 ^ (v % 8)))

-- vector v is one of n outputs, and passes the test
unfoldable pub within : ℕ → (ℕ → Bool) → ℕ → Bool
within n ok v = ltb v (2 ^ n) && ok v

-- byte b of the marks of the vectors of n outputs, each marked where the test passes
unfoldable pub mark_byte : ℕ → (ℕ → Bool) → ℕ → ℕ
mark_byte n ok b = word 8 (λ j. within n ok (8 * b + j))

-- all bytes of these marks
abbrev pub marked_where : ℕ → (ℕ → Bool) → List ℕ
marked_where n ok = listed (scratch_bytes n) (mark_byte n ok)

-- byte b has a mark
abbrev pub has_mark : (ℕ → ℕ) → ℕ → Bool
has_mark byte b = not (eqb (byte b) 0)

-- of eight vectors those that n outputs have: the first 2 ^ n where n is below 3
unfoldable pub first_vectors : ℕ → ℕ
first_vectors n = cond (ltb n 3) (low (2 ^ n)) 255
