-- Constraints: a product of literals, true when all are, at a read word w and an output vector v.
-- Assumes nothing.
use Rattle.std.specs.Prelude.{◌≡◌, ℕ, ◌^◌, ◌<◌, Bool, true, not, ◌&&◌, eqb, ltb}
use Rattle.words.specs.Word.{meets, popcount}
use Rattle.words.specs.Loop.{some}
use Rattle.scan.specs.declared.set.Constraint.{Constraint}
use Rattle.scan.specs.declared.set.Set.{Set}
use Rattle.scan.specs.Set.{constraint, outs}

-- the read literals are all true
unfoldable pub reads_true : Constraint → ℕ → Bool
reads_true c w = meets c.read_plain c.read_negated w

-- the output literals are all true
unfoldable pub outs_true : Constraint → ℕ → Bool
outs_true c v = meets c.out_plain c.out_negated v

-- the constraint is true
unfoldable pub is_true : Constraint → ℕ → ℕ → Bool
is_true c w v = reads_true c w && outs_true c v

-- just one output literal
unfoldable pub simple : Constraint → Bool
simple c = eqb (popcount (outs c)) 1

-- more than one output literal
unfoldable pub combined : Constraint → Bool
combined c = ltb 1 (popcount (outs c))

-- constraint i of the set is true
unfoldable pub true_at : Set → ℕ → ℕ → ℕ → Bool
true_at s w v i = is_true (constraint s i) w v

-- a vector is safe: no constraint of the set, simple or combined, is true
unfoldable pub safe : Set → ℕ → ℕ → Bool
safe s w v = not (some s.m (true_at s w v))

-- one of the 2 ^ n vectors is safe at the read word w
unfoldable pub has_vector : Set → ℕ → Bool
has_vector s w = some (2 ^ s.n) (safe s w)

-- some output vector leaves every constraint false
abbrev pub HasSafe : Set → ℕ → Type 0
HasSafe s w = (v : ℕ) × (v < 2 ^ s.n) × (safe s w v ≡ true)
