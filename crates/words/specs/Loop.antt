-- Loops over the numbers below a count. Each goes by a count of what it has done, so that "one more" is the clause at `suc`.
-- Assumes nothing.
use Rattle.std.specs.Prelude.{ℕ, zero, suc, ◌+◌, ◌^◌, List, [], ◌∷◌, ◌++◌, Bool, true, false, cond, ◌&&◌, ◌||◌}
use Rattle.std.specs.Int.Bits.{bit_or}

-- every test of a list passes
abbrev pub every : List Bool → Bool
every [] = true
every (b ∷ bs) = b && every bs

-- p k for some k below n
unfoldable pub some : ℕ → (ℕ → Bool) → Bool
some zero p = false
some (suc n) p = some n p || p n

-- p k for all k below n
unfoldable pub all : ℕ → (ℕ → Bool) → Bool
all zero p = true
all (suc n) p = all n p && p n

-- how many k below n have p k
unfoldable pub count : ℕ → (ℕ → Bool) → ℕ
count zero p = 0
count (suc n) p = count n p + cond (p n) 1 0

-- the first k with p k among the c numbers from k on, or the number behind them
unfoldable pub first_from : ℕ → ℕ → (ℕ → Bool) → ℕ
first_from zero k p = k
first_from (suc c) k p = let r = first_from c (suc k) p in cond (p k) k r

-- the first k below n with p k, or n
unfoldable pub first : ℕ → (ℕ → Bool) → ℕ
first n p = first_from n 0 p

-- the masks f 0, f 1 .. f (n - 1), joined
unfoldable pub gather : ℕ → (ℕ → ℕ) → ℕ
gather zero f = 0
gather (suc n) f = bit_or (gather n f) (f n)

-- bit k alone if p k, else no bit
unfoldable pub bit_if : (ℕ → Bool) → ℕ → ℕ
bit_if p k = cond (p k) (2 ^ k) 0

-- the word of n bits whose bit k is p k
unfoldable pub word : ℕ → (ℕ → Bool) → ℕ
word n p = gather n (bit_if p)

-- the list f 0, f 1 .. f (n - 1)
unfoldable pub listed : {A : Type 0} → ℕ → (ℕ → A) → List A
listed zero f = []
listed (suc n) f = listed n f ++ (f n ∷ [])

-- the lists f 0, f 1 .. f (n - 1), one after the other
unfoldable pub joined : {A : Type 0} → ℕ → (ℕ → List A) → List A
joined zero f = []
joined (suc n) f = joined n f ++ f n

-- f applied k times
unfoldable pub iterate : (ℕ → ℕ) → ℕ → ℕ → ℕ
iterate f zero x = x
iterate f (suc k) x = f (iterate f k x)
