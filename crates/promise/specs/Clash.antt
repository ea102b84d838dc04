-- Change request K10, simple constraints that contradict: what the reckoning of holds answers; what a verdict names of a word without a safe vector; what the verdict
-- said before; and that only 22 gave way.
-- Assumes nothing.
use Rattle.std.specs.Prelude.{◌≡◌, true, cond, not, List, [], ◌∷◌, ◌↔◌, ◌≢◌, ◌⊎◌, ℕ, ◌^◌, ◌≤◌, ◌<◌, ltb}
use Rattle.words.specs.Loop.{first}
use Rattle.scan.specs.declared.set.Set.{Set}
use Rattle.scan.specs.declared.holds.Holds.{Holds}
use Rattle.scan.specs.Shape.{well_formed}
use Rattle.scan.specs.Active.{active_of}
use Rattle.scan.specs.Holds.{holds_of}
use Rattle.scan.specs.Told.{holds_told}
use Rattle.scan.specs.way.Holds.{holds_at}
use Rattle.scan.specs.way.Table.{table_of}
use Rattle.verdict.specs.declared.verdict.Verdict.{Verdict}
use Rattle.verdict.specs.declared.verdict.Verdict.TheVariants.{BadSet, ShortScratch, NoVector}
use Rattle.verdict.specs.Judge.{lacks, has_endless, endless_at, scratch_bytes, judge_of}
use Rattle.verdict.specs.Told.{verdict_told}
use Rattle.promise.specs.Terms.{Bit, HeldOff, HeldOn, BothWays}
use Rattle.promise.specs.Verdicts.{HasVector, FirstNoVector}

-- ---- an output forced both ways

-- k is the lowest output forced both ways at the read word w
pub record LowestClash (s : Set) (w k : ℕ) : Type 0 where
  pub here : BothWays s w k
  pub before : (j : ℕ) → j < k → ¬ BothWays s w j

-- no output is forced both ways there
abbrev pub NoClash : Set → ℕ → Type 0
NoClash s w = (k : ℕ) → ¬ BothWays s w k

-- ---- the reckoning of holds

-- these are the two words of forced outputs: F0 and F1, bit by bit, and no bit from n on
pub record ForcedWords (s : Set) (w f0 f1 : ℕ) : Type 0 where
  pub off : (k : ℕ) → Bit k f0 ↔ HeldOff s w k
  pub on : (k : ℕ) → Bit k f1 ↔ HeldOn s w k
  pub off_fits : f0 < 2 ^ s.n
  pub on_fits : f1 < 2 ^ s.n

-- this answer is right: either the two words of forced outputs, or the lowest output forced both ways, each exactly where it is due
pub record HoldsAnswer (s : Set) (w : ℕ) (answer : Holds) : Type 0 where
  pub clash : (k : ℕ) → (holds_told answer ≡ 58 ∷ k ∷ []) ↔ LowestClash s w k
  pub forced : (f0 f1 : ℕ) → (holds_told answer ≡ 0 ∷ f0 ∷ f1 ∷ []) ↔ (NoClash s w × ForcedWords s w f0 f1)

-- Of a well-formed set at the read word w.
pub record Reckoning (s : Set) (w : ℕ) : Type 0 where
  -- what `holds_of` answers, and what the code makes of the set's literals
  pub answers : HoldsAnswer s w (holds_of s w)
  pub made : HoldsAnswer s w (holds_at s w)
  -- a clash leaves no safe vector
  pub unsafe : (k : ℕ) → BothWays s w k → ¬ HasVector s w
  -- and the table of the word allows no pass there
  pub no_pass : (k : ℕ) → BothWays s w k → (table_of s (active_of s w)).limit ≡ 0

-- ---- the verdict

-- a rejection, told by number and values, names w, a word without a safe vector: by 58 with the lowest output forced both ways there or, where there is none, by 22
abbrev pub NamesNone : Set → ℕ → List ℕ → Type 0
NamesNone s w told = ((told ≡ 22 ∷ w ∷ []) × NoClash s w) ⊎ ((k : ℕ) × (told ≡ 58 ∷ w ∷ k ∷ []) × LowestClash s w k)

-- the verdict before the request: the first word without a safe vector gave 22, whether an output is forced both ways there or not
unfoldable pub judge_unnamed : Set → ℕ → Verdict
judge_unnamed s room =
    let w = first (2 ^ s.r) (lacks s) in
    let ends = endless_at s (first (2 ^ s.r) (has_endless s)) in
    let verdict = cond (ltb w (2 ^ s.r)) (NoVector w) ends in
    cond (not (well_formed s)) BadSet
    (cond (ltb room (scratch_bytes s.n)) ShortScratch verdict)

-- The verdict on any set, with scratch of any size, beside the verdict before.
pub record ClashNamed (s : Set) (room : ℕ) : Type 0 where
  -- before, 22 named w exactly when w was the first word without a safe vector
  pub was_word : well_formed s ≡ true → scratch_bytes s.n ≤ room → (w : ℕ) → (verdict_told (judge_unnamed s room) ≡ 22 ∷ w ∷ []) ↔ FirstNoVector s w
  -- where the verdict named 22 at a word, it names the clash, if there is one there
  pub named : (w : ℕ) → verdict_told (judge_unnamed s room) ≡ 22 ∷ w ∷ [] → NamesNone s w (verdict_told (judge_of s room))
  -- and every other answer is as it was
  pub kept : ((w : ℕ) → verdict_told (judge_unnamed s room) ≢ 22 ∷ w ∷ []) → judge_of s room ≡ judge_unnamed s room
