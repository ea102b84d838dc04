-- Change request K5: missing vectors come before endless walks. What the verdict says in document 01's order, and that just one group of its answers changed.
-- `first_failing` is the verdict in that order, on a well-formed set and with scratch enough; in either order a word without a safe vector is named as change request
-- K10 has it.
-- Assumes nothing.
use Rattle.std.specs.Prelude.{◌≡◌, [], ◌∷◌, ◌↔◌, ℕ, ◌^◌, ◌<◌}
use Rattle.scan.specs.declared.set.Set.{Set}
use Rattle.verdict.specs.Judge.{judge_of}
use Rattle.verdict.specs.FirstFailing.{first_failing}
use Rattle.verdict.specs.Told.{verdict_told}
use Rattle.promise.specs.Verdicts.{HasVector, EndsSafe, GoodWord, FirstNoVector}
use Rattle.promise.specs.Clash.{LowestClash, NoClash, NamesNone}

-- ---- document 01's order: the first word that fails rejects the set

-- w is the first word that fails, and has no safe vector
pub record FailsNoVector (s : Set) (w : ℕ) : Type 0 where
  pub within : w < 2 ^ s.r
  pub before : (u : ℕ) → u < w → GoodWord s u
  pub none : ¬ HasVector s w

-- w is the first word that fails; it has a safe vector, and g is the first request whose walk never reaches one
pub record FailsNoEnd (s : Set) (w g : ℕ) : Type 0 where
  pub within : w < 2 ^ s.r
  pub before : (u : ℕ) → u < w → GoodWord s u
  pub vector : HasVector s w
  pub fits : g < 2 ^ s.n
  pub ends : (request : ℕ) → request < g → EndsSafe s w request
  pub never : ¬ EndsSafe s w g

-- what the verdict says in that order: accepted, 22, 58 and 23, each exactly where it is right
pub record OldOrder (s : Set) : Type 0 where
  pub accepts : (verdict_told (first_failing s) ≡ 0 ∷ []) ↔ ((w : ℕ) → w < 2 ^ s.r → GoodWord s w)
  pub names_word : (w : ℕ) → (verdict_told (first_failing s) ≡ 22 ∷ w ∷ []) ↔ (FailsNoVector s w × NoClash s w)
  pub names_clash : (w k : ℕ) → (verdict_told (first_failing s) ≡ 58 ∷ w ∷ k ∷ []) ↔ (FailsNoVector s w × LowestClash s w k)
  pub names_request : (w g : ℕ) → (verdict_told (first_failing s) ≡ 23 ∷ w ∷ g ∷ []) ↔ FailsNoEnd s w g

-- ---- what changed

-- a set of the group: its first failing word is w, which has a safe vector, g is the first request whose walk never reaches one there, and some higher word has
-- none
abbrev pub InGroup : Set → ℕ → ℕ → Type 0
InGroup s w g = FailsNoEnd s w g × ((u : ℕ) × (w < u) × (u < 2 ^ s.r) × (¬ HasVector s u))

-- the verdict is 22 or 58 at a word higher than w, the lowest without a safe vector
abbrev pub HigherNoVector : Set → ℕ → ℕ → Type 0
HigherNoVector s room w = (u : ℕ) × (w < u) × FirstNoVector s u × NamesNone s u (verdict_told (judge_of s room))

-- The verdict on a well-formed set, given scratch of `room` bytes, enough for it, beside the verdict in document 01's order.
pub record OneGroup (s : Set) (room : ℕ) : Type 0 where
  pub old : OldOrder s
  -- every set of the group turns from 23 to 22 or 58
  pub turned : (w g : ℕ) → InGroup s w g → (verdict_told (first_failing s) ≡ 23 ∷ w ∷ g ∷ []) × HigherNoVector s room w
  -- and every other set has the answer that it has in that order
  pub kept : ((w g : ℕ) → ¬ InGroup s w g) → judge_of s room ≡ first_failing s
