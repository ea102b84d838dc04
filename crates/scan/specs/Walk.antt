-- The walk: the start vector, then one pass after another while the vector is unsafe.
-- Assumes nothing.
use Rattle.std.specs.Prelude.{◌≡◌, ℕ, zero, suc, ◌<◌, ◌^◌, Bool, true, false, cond}
use Rattle.words.specs.Loop.{iterate, first}
use Rattle.scan.specs.declared.set.Set.{Set}
use Rattle.scan.specs.declared.holds.Holds.{Holds}
use Rattle.scan.specs.declared.holds.Holds.TheVariants.{Forced, Clash}
use Rattle.scan.specs.declared.walk.Walk.{Walk}
use Rattle.scan.specs.declared.walk.Walk.TheVariants.{Safe, Never}
use Rattle.scan.specs.Constraint.{safe}
use Rattle.scan.specs.Holds.{holds_of, unheld_count, pass_limit, start_from, start_vector}
use Rattle.scan.specs.Pass.{pass}

-- from the vector v, after `made` passes and with at most `left` more: the first safe vector and its passes
unfoldable pub walk_by : (ℕ → Bool) → (ℕ → ℕ) → ℕ → ℕ → ℕ → Walk
walk_by ok next zero v made = cond (ok v) (Safe v made) Never
walk_by ok next (suc left) v made =
    let more = walk_by ok next left (next v) (suc made) in
    cond (ok v) (Safe v made) more

-- from a request, by the reckoning of holds: from the start vector; where an output is forced both ways no pass is made
abbrev pub walk_held : (ℕ → Bool) → (ℕ → ℕ) → ℕ → ℕ → Holds → Walk
walk_held ok next limit request (Forced f0 f1) = walk_by ok next limit (start_from f0 f1 request) 0
walk_held ok next limit request (Clash k) = Never

-- the walk from a request
unfoldable pub walk : Set → ℕ → ℕ → Walk
walk s w request = walk_held (safe s w) (pass s w) (pass_limit s w) request (holds_of s w)

-- ---- what the walk does, with no bound on its passes

-- the vector after k passes
unfoldable pub after : Set → ℕ → ℕ → ℕ → ℕ
after s w request k = iterate (pass s w) k (start_vector s w request)

-- the walk reaches a safe vector
abbrev pub Reaches : Set → ℕ → ℕ → Type 0
Reaches s w request = (k : ℕ) × (safe s w (after s w request k) ≡ true)

-- its first safe vector is the one after k passes
pub record FirstSafe (s : Set) (w request k : ℕ) : Type 0 where
  pub here : safe s w (after s w request k) ≡ true
  pub before : (j : ℕ) → j < k → safe s w (after s w request j) ≡ false

-- the vector after k passes is safe
unfoldable pub safe_after : Set → ℕ → ℕ → ℕ → Bool
safe_after s w request k = safe s w (after s w request k)

-- the passes before the walk's first safe vector
unfoldable pub passes_due : Set → ℕ → ℕ → ℕ
passes_due s w request = first (2 ^ unheld_count s w) (safe_after s w request)

-- the vector due: the walk's first safe one
unfoldable pub vector_due : Set → ℕ → ℕ → ℕ
vector_due s w request = after s w request (passes_due s w request)
