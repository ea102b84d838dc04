-- What each verdict on a well-formed set, given scratch enough, means: no bound on the passes of a walk stands here.
-- Assumes nothing.
use Rattle.std.specs.Prelude.{◌⊎◌, ℕ, ◌^◌, ◌<◌}
use Rattle.scan.specs.declared.set.Set.{Set}
use Rattle.scan.specs.Constraint.{HasSafe}
use Rattle.scan.specs.Holds.{F0, F1, LowestBoth, NoneBoth}
use Rattle.scan.specs.Walk.{Reaches}
use Rattle.verdict.specs.declared.verdict.Verdict.{Verdict}
use Rattle.verdict.specs.declared.verdict.Verdict.TheVariants.{Accepted, BadSet, ShortScratch, NoVector, Clash, NoEnd}

-- at the read word w some vector is safe, and the walk from every request reaches a safe one
pub record Good (s : Set) (w : ℕ) : Type 0 where
  pub vector : HasSafe s w
  pub ends : (request : ℕ) → request < 2 ^ s.n → Reaches s w request

-- w is the first word without a safe vector
pub record FirstWithout (s : Set) (w : ℕ) : Type 0 where
  pub within : w < 2 ^ s.r
  pub before : (u : ℕ) → u < w → HasSafe s u
  pub none : ¬ HasSafe s w

-- every word has a safe vector; w is the first with a request whose walk never reaches one, and g is the first such request
pub record FirstEndless (s : Set) (w g : ℕ) : Type 0 where
  pub within : w < 2 ^ s.r
  pub vectors : (u : ℕ) → u < 2 ^ s.r → HasSafe s u
  pub before : (u : ℕ) → u < w → (request : ℕ) → request < 2 ^ s.n → Reaches s u request
  pub fits : g < 2 ^ s.n
  pub ends : (request : ℕ) → request < g → Reaches s w request
  pub never : ¬ Reaches s w g

-- what a verdict says of the set; with a well-formed set and scratch enough, 20 and 21 are never right
abbrev pub Means : Set → Verdict → Type 0
Means s Accepted = (w : ℕ) → w < 2 ^ s.r → Good s w
Means s (NoVector w) = FirstWithout s w × NoneBoth (F0 s w) (F1 s w)
Means s (Clash w k) = FirstWithout s w × LowestBoth (F0 s w) (F1 s w) k
Means s (NoEnd w g) = FirstEndless s w g
Means s BadSet = ⊥
Means s ShortScratch = ⊥

-- for some read word no vector leaves every constraint false, or the walk from some request never reaches one
abbrev pub Bad : Set → Type 0
Bad s = (w : ℕ) × (w < 2 ^ s.r) × ((¬ HasSafe s w) ⊎ ((g : ℕ) × (g < 2 ^ s.n) × (¬ Reaches s w g)))

-- ---- in document 01's order

-- w is the first word that is not good, and has no safe vector
pub record FailsWithout (s : Set) (w : ℕ) : Type 0 where
  pub within : w < 2 ^ s.r
  pub before : (u : ℕ) → u < w → Good s u
  pub none : ¬ HasSafe s w

-- w is the first word that is not good; it has a safe vector, and g is the first request whose walk never reaches one
pub record FailsEndless (s : Set) (w g : ℕ) : Type 0 where
  pub within : w < 2 ^ s.r
  pub before : (u : ℕ) → u < w → Good s u
  pub vector : HasSafe s w
  pub fits : g < 2 ^ s.n
  pub ends : (request : ℕ) → request < g → Reaches s w request
  pub never : ¬ Reaches s w g

-- what the verdict in that order says of the set
abbrev pub MeansFailing : Set → Verdict → Type 0
MeansFailing s Accepted = (w : ℕ) → w < 2 ^ s.r → Good s w
MeansFailing s (NoVector w) = FailsWithout s w × NoneBoth (F0 s w) (F1 s w)
MeansFailing s (Clash w k) = FailsWithout s w × LowestBoth (F0 s w) (F1 s w) k
MeansFailing s (NoEnd w g) = FailsEndless s w g
MeansFailing s BadSet = ⊥
MeansFailing s ShortScratch = ⊥
