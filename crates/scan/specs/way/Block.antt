-- The code's way to the active constraints of eight read words in a row, 8 b to 8 b + 7, which differ in read points 0 to 2 alone: a constraint is active where its
-- literals of these three are true, and its others are; the first has eight masks for all words, the second one mask for the eight.
-- Assumes nothing.
use Rattle.std.specs.Prelude.{ℕ, ◌/◌, ◌%◌, min, Bool, cond, List, eqb, get_or}
use Rattle.std.specs.Int.Bits.{bit_and}
use Rattle.words.specs.Loop.{listed, word}
use Rattle.scan.specs.Set.{most_constraints}

-- place i asks for what the word has at read points 0 to 2
unfoldable pub low_asked : List ℕ → List ℕ → ℕ → ℕ → Bool
low_asked plain named w i = eqb (bit_and (w % 8) (get_or named i 0 % 8)) (get_or plain i 0 % 8)

-- and at the others
unfoldable pub high_asked : List ℕ → List ℕ → ℕ → ℕ → Bool
high_asked plain named w i = eqb (bit_and (w / 8) (get_or named i 0 / 8)) (get_or plain i 0 / 8)

-- of the first m constraints those whose literals of read points 0 to 2 are true at the word, by the lists of the read points named plain and of all named
unfoldable pub active_low : List ℕ → List ℕ → ℕ → ℕ → ℕ
active_low plain named m w = word (min m most_constraints) (low_asked plain named w)

-- and those whose other read literals are
unfoldable pub active_high : List ℕ → List ℕ → ℕ → ℕ → ℕ
active_high plain named m w = word (min m most_constraints) (high_asked plain named w)

-- the first for each of the eight values of read points 0 to 2
unfoldable pub lows_of : List ℕ → List ℕ → ℕ → List ℕ
lows_of plain named m = listed 8 (active_low plain named m)

-- the second, made anew at the first of eight words, and kept for the others
unfoldable pub high_at : List ℕ → List ℕ → ℕ → ℕ → ℕ → ℕ
high_at plain named m w kept = let made = active_high plain named m w in cond (eqb (w % 8) 0) made kept

-- the active constraints, by both
unfoldable pub active_in : List ℕ → ℕ → ℕ → ℕ
active_in lows high w = bit_and high (get_or lows (w % 8) 0)
