-- Change request K8, the verdict inside the box: the scratch has one bit for each vector. How many bytes that is; what the verdict said with a byte for each vector,
-- as document 01 had it; and that only 21 moved.
-- Assumes nothing.
use Rattle.std.specs.Prelude.{◌≡◌, true, false, cond, not, [], ◌∷◌, ◌↔◌, ℕ, ◌+◌, ◌*◌, ◌^◌, ◌≤◌, ◌<◌, ltb}
use Rattle.scan.specs.declared.set.Set.{Set}
use Rattle.scan.specs.Shape.{well_formed}
use Rattle.scan.specs.Active.{active_of}
use Rattle.scan.specs.way.Columns.{columns_of}
use Rattle.scan.specs.way.Block.{lows_of, active_high, active_in}
use Rattle.scan.specs.way.Table.{table_of}
use Rattle.scan.specs.way.Eight.{safe_byte_in}
use Rattle.verdict.specs.declared.verdict.Verdict.{Verdict}
use Rattle.verdict.specs.declared.verdict.Verdict.TheVariants.{BadSet, ShortScratch}
use Rattle.verdict.specs.Judge.{judge_words, scratch_bytes, judge_of}
use Rattle.verdict.specs.Told.{verdict_told}
use Rattle.promise.specs.Terms.{Bit, Safe}

-- The bytes of scratch that a verdict on a set of n outputs needs.
pub record ScratchSize (n : ℕ) : Type 0 where
  -- one bit for each of the 2 ^ n vectors
  pub enough : 2 ^ n ≤ 8 * scratch_bytes n
  -- and no more bytes than that needs
  pub least : (bytes : ℕ) → 2 ^ n ≤ 8 * bytes → scratch_bytes n ≤ bytes
  -- 2 ^ n / 8 bytes, and one byte where n is below 3
  pub eighth : 3 ≤ n → 8 * scratch_bytes n ≡ 2 ^ n
  pub one : n < 3 → scratch_bytes n ≡ 1
  -- 512 are enough for every set
  pub most : n ≤ 12 → scratch_bytes n ≤ 512

-- the verdict under the rule before: 21 where there is not a byte for each of the 2 ^ n vectors
unfoldable pub judge_by_bytes : Set → ℕ → Verdict
judge_by_bytes s room =
    let verdict = judge_words s in
    cond (not (well_formed s)) BadSet
    (cond (ltb room (2 ^ s.n)) ShortScratch verdict)

-- The verdict on any set, with scratch of any size, beside the verdict under that rule.
pub record OneBit (s : Set) (room : ℕ) : Type 0 where
  -- under it 20 and 21 came exactly so
  pub was_bad : (verdict_told (judge_by_bytes s room) ≡ 20 ∷ []) ↔ (well_formed s ≡ false)
  pub was_short : (verdict_told (judge_by_bytes s room) ≡ 21 ∷ []) ↔ ((well_formed s ≡ true) × (room < 2 ^ s.n))
  -- for every set that has scratch enough under both rules the verdict is the same one
  pub same : 2 ^ s.n ≤ room → scratch_bytes s.n ≤ room → judge_of s room ≡ judge_by_bytes s room
  -- so it is where a set is not well formed, and where there is too little scratch under both
  pub bad : well_formed s ≡ false → judge_of s room ≡ judge_by_bytes s room
  pub short : room < scratch_bytes s.n → judge_of s room ≡ judge_by_bytes s room
  -- where there is enough under the new rule alone, it was 21, and is what it was with scratch enough
  pub moved : well_formed s ≡ true → scratch_bytes s.n ≤ room → room < 2 ^ s.n
      → (verdict_told (judge_by_bytes s room) ≡ 21 ∷ []) × (judge_of s room ≡ judge_by_bytes s (2 ^ s.n))

-- Eight vectors, and eight read words, judged at once: of a well-formed set at the read word w.
pub record ByEights (s : Set) (w : ℕ) : Type 0 where
  -- bit j of byte b says that the vector 8 b + j is safe
  pub judges : (b j : ℕ) → j < 8 → Bit j (safe_byte_in (table_of s (active_of s w)) b) ↔ Safe s w (8 * b + j)
  -- the mask of the active constraints, by what their literals of read points 0 to 2 ask for and by what the others do, which is the same at the words 8 b to 8 b + 7
  pub made : active_in (lows_of (columns_of s).read_plain (columns_of s).read_named s.m)
      (active_high (columns_of s).read_plain (columns_of s).read_named s.m w) w ≡ active_of s w
  pub alike : (b j : ℕ) → j < 8
      → active_high (columns_of s).read_plain (columns_of s).read_named s.m (8 * b + j)
      ≡ active_high (columns_of s).read_plain (columns_of s).read_named s.m (8 * b)
