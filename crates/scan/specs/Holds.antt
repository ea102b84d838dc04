-- Holds at a read word w: F0, F1, the reckoning of holds, the outputs not held, f, and the start vector.
-- Assumes nothing.
use Rattle.std.specs.Prelude.{◌≡◌, ℕ, ◌-◌, ◌^◌, ◌<◌, Bool, true, false, cond, ◌&&◌, ltb}
use Rattle.std.specs.Int.Bits.{bit_or}
use Rattle.words.specs.Word.{bit, low, without, popcount}
use Rattle.words.specs.Loop.{gather, first}
use Rattle.scan.specs.declared.set.Set.{Set}
use Rattle.scan.specs.declared.holds.Holds.{Holds}
use Rattle.scan.specs.declared.holds.Holds.TheVariants.{Forced, Clash}
use Rattle.scan.specs.Set.{constraint}
use Rattle.scan.specs.Constraint.{reads_true, simple}

-- constraint i is simple and its read literals are all true: it holds its output, to 0 if plain, to 1 if negated
unfoldable pub holding : Set → ℕ → ℕ → Bool
holding s w i = simple (constraint s i) && reads_true (constraint s i) w

-- the output that constraint i holds to 0
unfoldable pub to_zero : Set → ℕ → ℕ → ℕ
to_zero s w i = cond (holding s w i) (constraint s i).out_plain 0

-- the output that constraint i holds to 1
unfoldable pub to_one : Set → ℕ → ℕ → ℕ
to_one s w i = cond (holding s w i) (constraint s i).out_negated 0

-- F0, of all outputs at once
unfoldable pub F0 : Set → ℕ → ℕ
F0 s w = gather s.m (to_zero s w)

-- F1, of all outputs at once
unfoldable pub F1 : Set → ℕ → ℕ
F1 s w = gather s.m (to_one s w)

-- output k is forced both ways: F0 and F1 of it are true
unfoldable pub both_ways : ℕ → ℕ → ℕ → Bool
both_ways f0 f1 k = bit k f0 && bit k f1

-- the reckoning of holds, by the two words of forced outputs: the lowest output forced both ways or, where there is none, the two words, of 16 bits each
unfoldable pub reckoned : ℕ → ℕ → Holds
reckoned f0 f1 = let k = first 16 (both_ways f0 f1) in cond (ltb k 16) (Clash k) (Forced f0 f1)

-- k is the lowest output forced both ways
pub record LowestBoth (f0 f1 k : ℕ) : Type 0 where
  pub fits : k < 16
  pub off : bit k f0 ≡ true
  pub on : bit k f1 ≡ true
  pub before : (j : ℕ) → j < k → both_ways f0 f1 j ≡ false

-- no output is forced both ways
abbrev pub NoneBoth : ℕ → ℕ → Type 0
NoneBoth f0 f1 = (k : ℕ) → k < 16 → both_ways f0 f1 k ≡ false

-- the reckoning of holds at a read word (change request K10)
abbrev pub holds_of : Set → ℕ → Holds
holds_of s w = reckoned (F0 s w) (F1 s w)

-- of n outputs those that neither mask has
unfoldable pub unheld_by : ℕ → ℕ → ℕ → ℕ
unheld_by n f0 f1 = without (low n) (bit_or f0 f1)

-- the outputs not held
unfoldable pub unheld : Set → ℕ → ℕ
unheld s w = unheld_by s.n (F0 s w) (F1 s w)

-- f, the number of outputs not held: the count of ones of the unheld mask
unfoldable pub unheld_count : Set → ℕ → ℕ
unheld_count s w = popcount (unheld s w)

-- the most passes of a walk: 2 ^ f - 1
abbrev pub pass_limit : Set → ℕ → ℕ
pass_limit s w = 2 ^ unheld_count s w - 1

-- (not F0 and request) or F1, by masks
unfoldable pub start_from : ℕ → ℕ → ℕ → ℕ
start_from f0 f1 request = bit_or (without request f0) f1

-- the start vector of a request
unfoldable pub start_vector : Set → ℕ → ℕ → ℕ
start_vector s w request = start_from (F0 s w) (F1 s w) request
