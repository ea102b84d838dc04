-- The code's way past words that are known to pass a test: masks of active constraints, each kept at one place of a list.
-- Assumes nothing.
use Rattle.std.specs.Prelude.{◌≡◌, ℕ, ◌%◌, Bool, false, List, eqb, length, get_or, set}
use Rattle.scan.specs.declared.set.Set.{Set}
use Rattle.scan.specs.Active.{active_of}

-- the places that there are: a prime
abbrev pub places : ℕ
places = 251

-- the place of a mask
abbrev pub place_of : ℕ → ℕ
place_of active = active % places

-- the mask is the one at its place
abbrev pub is_seen : List ℕ → ℕ → Bool
is_seen seen active = eqb (get_or seen (place_of active) 0) active

-- the mask is kept at its place
abbrev pub with_seen : List ℕ → ℕ → List ℕ
with_seen seen active = set seen (place_of active) active

-- every mask that is kept is one of words that pass the test: `bad` is false at every word with it
pub record Known (s : Set) (bad : ℕ → Bool) (seen : List ℕ) : Type 0 where
  pub long : length seen ≡ places
  pub passed : (k u : ℕ) → active_of s u ≡ get_or seen k 0 → bad u ≡ false
