-- What a verdict says of a well-formed set, document 01's "Verdict" in the order of change request K5: no bound on the passes of a walk stands here.
-- Assumes nothing.
use Rattle.std.specs.Prelude.{◌⊎◌, ℕ, ◌^◌, ◌<◌}
use Rattle.scan.specs.declared.set.Set.{Set}
use Rattle.scan.specs.Walk.{after}
use Rattle.promise.specs.Terms.{Safe}

-- at the read word w some output vector leaves every constraint false
abbrev pub HasVector : Set → ℕ → Type 0
HasVector s w = (v : ℕ) × (v < 2 ^ s.n) × Safe s w v

-- the walk of passes from a request reaches such a vector
abbrev pub EndsSafe : Set → ℕ → ℕ → Type 0
EndsSafe s w request = (k : ℕ) × Safe s w (after s w request k)

-- a read word that does not fail: it has a safe vector, and the walk from every request reaches one
pub record GoodWord (s : Set) (w : ℕ) : Type 0 where
  pub vector : HasVector s w
  pub ends : (request : ℕ) → request < 2 ^ s.n → EndsSafe s w request

-- a read word that fails
abbrev pub BadWord : Set → ℕ → Type 0
BadWord s w = (¬ HasVector s w) ⊎ ((g : ℕ) × (g < 2 ^ s.n) × (¬ EndsSafe s w g))

-- w is the first word without a safe vector
pub record FirstNoVector (s : Set) (w : ℕ) : Type 0 where
  pub within : w < 2 ^ s.r
  pub before : (u : ℕ) → u < w → HasVector s u
  pub none : ¬ HasVector s w

-- every word has a safe vector; w is the first with a request whose walk never reaches one, and g is the first such request
pub record FirstNoEnd (s : Set) (w g : ℕ) : Type 0 where
  pub within : w < 2 ^ s.r
  pub vectors : (u : ℕ) → u < 2 ^ s.r → HasVector s u
  pub before : (u : ℕ) → u < w → (request : ℕ) → request < 2 ^ s.n → EndsSafe s u request
  pub fits : g < 2 ^ s.n
  pub ends : (request : ℕ) → request < g → EndsSafe s w request
  pub never : ¬ EndsSafe s w g
