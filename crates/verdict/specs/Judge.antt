-- The verdict on a set, every r-bit read word counting as possible: first all words are tried for one at which no vector is safe, then all for one with a
-- request whose walk never is safe, words and requests in rising order (change request K5). Of a word without a safe vector it names an output that is forced both
-- ways there, if there is one (change request K10).
-- Assumes nothing.
use Rattle.std.specs.Prelude.{ℕ, ◌/◌, ◌^◌, Bool, true, false, cond, not, ltb}
use Rattle.words.specs.Loop.{some, first}
use Rattle.scan.specs.declared.set.Set.{Set}
use Rattle.scan.specs.declared.holds.Holds.{Holds}
use Rattle.scan.specs.declared.holds.Holds.TheVariants.{Forced, Clash as HoldsClash}
use Rattle.scan.specs.declared.walk.Walk.{Walk}
use Rattle.scan.specs.declared.walk.Walk.TheVariants.{Safe, Never}
use Rattle.scan.specs.Shape.{well_formed}
use Rattle.scan.specs.Constraint.{has_vector}
use Rattle.scan.specs.Holds.{holds_of}
use Rattle.scan.specs.Walk.{walk}
use Rattle.verdict.specs.declared.verdict.Verdict.{Verdict}
use Rattle.verdict.specs.declared.verdict.Verdict.TheVariants.{Accepted, BadSet, ShortScratch, NoVector, Clash, NoEnd}

-- a walk has no safe vector
abbrev pub is_never : Walk → Bool
is_never (Safe v made) = false
is_never Never = true

-- the walk from the request never is safe
unfoldable pub endless : Set → ℕ → ℕ → Bool
endless s w request = is_never (walk s w request)

-- no vector is safe at the read word
unfoldable pub lacks : Set → ℕ → Bool
lacks s w = not (has_vector s w)

-- at the read word the walk from some request never is safe
unfoldable pub has_endless : Set → ℕ → Bool
has_endless s w = some (2 ^ s.n) (endless s w)

-- the rejection by a word w without a safe vector: 58 with the lowest output forced both ways, if the reckoning of holds there tells one; else 22
abbrev pub none_by : ℕ → Holds → Verdict
none_by w (Forced f0 f1) = NoVector w
none_by w (HoldsClash k) = Clash w k

-- by the holds of the set there
unfoldable pub none_at : Set → ℕ → Verdict
none_at s w = none_by w (holds_of s w)

-- 58 or 22 with the word w, if it is one of the set's words; else the verdict `otherwise`
unfoldable pub vector_at : Set → ℕ → Verdict → Verdict
vector_at s w otherwise = let bad = none_at s w in cond (ltb w (2 ^ s.r)) bad otherwise

-- 23 with the word w and its first request whose walk never is safe, if w is one of the set's words; else the set is accepted
unfoldable pub endless_at : Set → ℕ → Verdict
endless_at s w = let bad = NoEnd w (first (2 ^ s.n) (endless s w)) in cond (ltb w (2 ^ s.r)) bad Accepted

-- the first word without a safe vector rejects the set; if there is none, the first with an endless walk
unfoldable pub judge_words : Set → Verdict
judge_words s = vector_at s (first (2 ^ s.r) (lacks s)) (endless_at s (first (2 ^ s.r) (has_endless s)))

-- the bytes of scratch that a verdict needs: one bit for each of 2 ^ n vectors, and one byte where n is below 3 (change request K8)
unfoldable pub scratch_bytes : ℕ → ℕ
scratch_bytes n = cond (ltb n 3) 1 (2 ^ n / 8)

-- 20, then 21 where the scratch is too short, or the verdict on the words
unfoldable pub judge_of : Set → ℕ → Verdict
judge_of s room =
    let verdict = judge_words s in
    cond (not (well_formed s)) BadSet
    (cond (ltb room (scratch_bytes s.n)) ShortScratch verdict)

-- how many bytes of the scratch are free afterwards: none with 20 and 21, else those that the verdict needs
unfoldable pub loose_bytes : Set → ℕ → ℕ
loose_bytes s room =
    let needed = scratch_bytes s.n in
    cond (not (well_formed s)) 0
    (cond (ltb room needed) 0 needed)
