-- The verdict by the way that its first tests went: its answer, and the bytes of the scratch that are free.
-- Assumes nothing.
use mathlib.Core.Path.{◌≡◌, sym, ap, ◌∙◌}
use mathlib.Core.Bool.{true, false}
use mathlib.Core.List.{List, ◌++◌}
use Prim.Native.Nat.{ℕ, ◌+◌, ◌-◌, ◌*◌, ◌^◌, ◌≤◌, ◌<◌}
use native.Mathlib.Decide.{dec_lt}
use native.Mathlib.Omega.{arith}
use lib.ListN.{length, drop}
use lib.Pow.{pow_pos, pow_mono, pow-add}
use lib.Seq.{drop_at}
use borrow.Author.Tests.{lt-ltb, le-ltb}
use Rattle.scan.specs.declared.set.Set.{Set}
use Rattle.scan.specs.Shape.{well_formed}
use Rattle.verdict.specs.declared.verdict.Verdict.TheVariants.{BadSet, ShortScratch}
use Rattle.verdict.specs.Judge.{scratch_bytes, judge_words, judge_of, loose_bytes}

-- ---- the scratch: one bit for each vector

module _ (n : ℕ) where
  -- one byte where n is below 3
  pub scratch_one : n < 3 → scratch_bytes n ≡ 1
  unfolding scratch_bytes
  scratch_one h = rw (lt-ltb n 3 h)

  -- an eighth of the vectors else
  pub scratch_eighth : 3 ≤ n → 8 * scratch_bytes n ≡ 2 ^ n
  unfolding scratch_bytes
  scratch_eighth h =
      let parts : n - 3 + 3 ≡ n = omega arith in
      let eights : 2 ^ n ≡ 2 ^ (n - 3) * 8 = ap (λ (k : ℕ). 2 ^ k) (sym parts) ∙ pow-add 2 (n - 3) 3 in
      rw (le-ltb n 3 h) (omega (arith, eights))

  -- a bit for each vector
  pub scratch_enough : 2 ^ n ≤ 8 * scratch_bytes n
  scratch_enough = go (dec_lt n 3)
    where
      go : Dec (n < 3) → 2 ^ n ≤ 8 * scratch_bytes n
      go (yes h) = omega (arith, scratch_one h, pow_mono {i = n} {j = 3} (omega arith))
      go (no nh) = omega (arith, scratch_eighth (omega arith))

  -- and no more bytes than that needs
  pub scratch_least : (bytes : ℕ) → 2 ^ n ≤ 8 * bytes → scratch_bytes n ≤ bytes
  scratch_least bytes l = go (dec_lt n 3)
    where
      go : Dec (n < 3) → scratch_bytes n ≤ bytes
      go (yes h) = omega (arith, scratch_one h, pow_pos n)
      go (no nh) = omega (arith, scratch_eighth (omega arith))

-- for fewer outputs no more of it is needed
pub scratch_mono : (n most : ℕ) → n ≤ most → scratch_bytes n ≤ scratch_bytes most
scratch_mono n most h = scratch_least n (scratch_bytes most) (omega (arith, scratch_enough most, pow_mono {i = n} {j = most} h))

module _ (s : Set) (room : ℕ) where
  pub bad_set : well_formed s ≡ false → BadSet ≡ judge_of s room
  unfolding judge_of
  bad_set e = sym (rw e)

  -- with 20 no byte of the scratch is free
  pub loose_bad : well_formed s ≡ false → loose_bytes s room ≡ 0
  unfolding loose_bytes
  loose_bad e = rw e

  module _ (ok : well_formed s ≡ true) where
    pub short_scratch : room < scratch_bytes s.n → ShortScratch ≡ judge_of s room
    unfolding judge_of
    short_scratch h = sym (rw (ok, lt-ltb room (scratch_bytes s.n) h))

    pub judged : scratch_bytes s.n ≤ room → judge_words s ≡ judge_of s room
    unfolding judge_of
    judged h = sym (rw (ok, le-ltb room (scratch_bytes s.n) h))

    -- with 21 none is free
    pub loose_short : room < scratch_bytes s.n → loose_bytes s room ≡ 0
    unfolding loose_bytes
    loose_short h = rw (ok, lt-ltb room (scratch_bytes s.n) h)

    -- else those that the verdict needs are
    pub loose : scratch_bytes s.n ≤ room → loose_bytes s room ≡ scratch_bytes s.n
    unfolding loose_bytes
    loose h = rw (ok, le-ltb room (scratch_bytes s.n) h)

    -- later bytes are untouched
    pub later_kept : scratch_bytes s.n ≤ room → (bytes : ℕ) → bytes ≡ scratch_bytes s.n → (marks scratch : List ℕ) → length marks ≡ bytes
        → drop (loose_bytes s room) (marks ++ drop bytes scratch) ≡ drop (loose_bytes s room) scratch
    later_kept h bytes eb marks scratch long =
        ap (λ (k : ℕ). drop k (marks ++ drop bytes scratch)) (loose h ∙ sym eb)
        ∙ drop_at marks (drop bytes scratch) bytes long
        ∙ ap (λ (k : ℕ). drop k scratch) (eb ∙ sym (loose h))
