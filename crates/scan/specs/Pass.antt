-- A pass at a read word w: which outputs yield, and what is flipped.
-- Assumes nothing.
use Rattle.std.specs.Prelude.{ℕ, zero, suc, min, Bool, cond, ◌&&◌, eqb}
use Rattle.std.specs.Int.Bits.{bit_and, bit_xor}
use Rattle.words.specs.Word.{bit}
use Rattle.words.specs.Loop.{gather, word}
use Rattle.scan.specs.declared.set.Constraint.{Constraint}
use Rattle.scan.specs.declared.set.Set.{Set}
use Rattle.scan.specs.Set.{rank_end, constraint, rank, outs}
use Rattle.scan.specs.Constraint.{is_true, combined}
use Rattle.scan.specs.Holds.{unheld}

-- the lowest rank at the outputs of `own` below k; 256, above every rank, where there are none
unfoldable pub lowest : Constraint → ℕ → ℕ → ℕ
lowest c own zero = rank_end
lowest c own (suc k) = let r = lowest c own k in cond (bit k own) (min r (rank c k)) r

-- output k is one of `own` and has the rank
unfoldable pub has_rank : Constraint → ℕ → ℕ → ℕ → Bool
has_rank c own r k = bit k own && eqb (rank c k) r

-- of n outputs those of `own` of the lowest rank among them
unfoldable pub yielding : ℕ → Constraint → ℕ → ℕ
yielding n c own = let r = lowest c own n in word n (has_rank c own r)

-- the outputs of constraint i that yield: of those not held, those of the lowest rank; none where all are held
unfoldable pub yields : Set → ℕ → ℕ → ℕ
yields s w i = yielding s.n (constraint s i) (bit_and (outs (constraint s i)) (unheld s w))

-- constraint i is combined, and true at the vector v
unfoldable pub fires : Set → ℕ → ℕ → ℕ → Bool
fires s w v i = combined (constraint s i) && is_true (constraint s i) w v

-- what constraint i flips at v
unfoldable pub flips : Set → ℕ → ℕ → ℕ → ℕ
flips s w v i = let y = yields s w i in cond (fires s w v i) y 0

-- one pass: all flips are decided on v and done together, and an output named by two constraints is flipped once
unfoldable pub pass : Set → ℕ → ℕ → ℕ
pass s w v = bit_xor v (gather s.m (flips s w v))
