-- The constraints that are active at a read word: those whose read literals are all true there. What judges a vector or walks a request is handed them as a
-- mask, and no read word.
-- Assumes nothing.
use Rattle.std.specs.Prelude.{ℕ, Bool}
use Rattle.words.specs.Loop.{word}
use Rattle.scan.specs.declared.set.Set.{Set}
use Rattle.scan.specs.Set.{constraint}
use Rattle.scan.specs.Constraint.{reads_true}

-- the read literals of constraint i are all true
unfoldable pub is_active : Set → ℕ → ℕ → Bool
is_active s w i = reads_true (constraint s i) w

-- the mask of the active constraints: bit i tells of constraint i
unfoldable pub active_of : Set → ℕ → ℕ
active_of s w = word s.m (is_active s w)
