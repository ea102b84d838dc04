-- Document 01's order of the verdict, which the loops over words and requests go by: for a word first whether any vector is safe, then requests in rising
-- order; the first word that fails rejects the set. Change request K5 put another order in its place (Judge); that a word without a safe vector names an output
-- forced both ways is K10's in both.
-- Assumes nothing.
use Rattle.std.specs.Prelude.{ℕ, ◌^◌, Bool, cond, not, ◌||◌, ltb}
use Rattle.words.specs.Loop.{some, first}
use Rattle.scan.specs.declared.set.Set.{Set}
use Rattle.scan.specs.Constraint.{has_vector}
use Rattle.verdict.specs.declared.verdict.Verdict.{Verdict}
use Rattle.verdict.specs.declared.verdict.Verdict.TheVariants.{Accepted, NoEnd}
use Rattle.verdict.specs.Judge.{endless, none_at}

-- the read word fails: it has no safe vector, or a request whose walk never is safe
unfoldable pub fails : Set → ℕ → Bool
fails s w = not (has_vector s w) || some (2 ^ s.n) (endless s w)

-- 58 or 22 for a word with no safe vector, else 23 with the request g
unfoldable pub rejection_by : Set → ℕ → ℕ → Verdict
rejection_by s w g = let none = none_at s w in cond (has_vector s w) (NoEnd w g) none

-- the rejection of a word that fails: with the first request that fails
unfoldable pub rejection : Set → ℕ → Verdict
rejection s w = rejection_by s w (first (2 ^ s.n) (endless s w))

-- the word w rejects the set, if it is one of its words
unfoldable pub verdict_at : Set → ℕ → Verdict
verdict_at s w = let bad = rejection s w in cond (ltb w (2 ^ s.r)) bad Accepted

-- the first word that fails rejects the set; with none it is accepted
unfoldable pub first_failing : Set → Verdict
first_failing s = verdict_at s (first (2 ^ s.r) (fails s))
