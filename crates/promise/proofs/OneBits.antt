-- Change request K8: how many bytes one bit for each vector needs, the verdict beside the one with a byte for each, and eight vectors and words at once.
-- Assumes nothing.
use mathlib.Core.Path.{◌≡◌, refl, sym, ap, ◌∙◌}
use mathlib.Core.Bool.{Bool, true, false, cond, not}
use mathlib.Core.List.{[], ◌∷◌}
use mathlib.Core.Logic.{◌≢◌}
use Prim.Native.Nat.{ℕ, ◌+◌, ◌*◌, ◌^◌, ◌≤◌, ◌<◌}
use native.Mathlib.Omega.{arith}
use lib.Dec.{ltb}
use borrow.Author.Tests.{lt-ltb, le-ltb, ltb-true, ltb-false}
use Rattle.words.proofs.BoolLaws.{by_test}
use Rattle.scan.specs.declared.set.Set.{Set}
use Rattle.scan.specs.Shape.{well_formed}
use Rattle.scan.specs.Active.{active_of}
use Rattle.scan.specs.way.Columns.{columns_of}
use Rattle.scan.specs.way.Table.{table_of}
use Rattle.scan.specs.way.Eight.{safe_byte_in}
use Rattle.scan.proofs.ActiveLaws.{active_is}
use Rattle.scan.proofs.BlockLaws.{in_block, high_same}
use Rattle.scan.proofs.TableLaws.{table_safe}
use Rattle.scan.proofs.EightLaws.{safe_byte_in_law}
use Rattle.verdict.specs.declared.verdict.Verdict.TheVariants.{BadSet, ShortScratch}
use Rattle.verdict.specs.Judge.{judge_words, scratch_bytes, judge_of}
use Rattle.verdict.specs.Told.{verdict_told}
use Rattle.verdict.proofs.JudgeLaws.{bad_set, short_scratch, judged, scratch_one, scratch_eighth, scratch_enough, scratch_least, scratch_mono}
use Rattle.promise.specs.OneBit.{ScratchSize, judge_by_bytes, OneBit, ByEights}
use Rattle.promise.proofs.Numbers.{apart}
use Rattle.promise.proofs.SetRefusals.{judge_neither}
use Rattle.promise.proofs.Bits.{bit_set, set_bit}
use Rattle.promise.proofs.ConstraintMeanings.{safe_iff}

-- ---- the bytes

pub scratch_size : (n : ℕ) → ScratchSize n
scratch_size n = record {
  enough = scratch_enough n;
  least = scratch_least n;
  eighth = scratch_eighth n;
  one = scratch_one n;
  most = λ h. omega (arith, scratch_mono n 12 h, scratch_eighth 12 (omega arith));
}

-- ---- the rule before

module _ (s : Set) (room : ℕ) where
  was_bad : well_formed s ≡ false → judge_by_bytes s room ≡ BadSet
  unfolding judge_by_bytes
  was_bad e = rw e

  module _ (ok : well_formed s ≡ true) where
    was_tested : judge_by_bytes s room ≡ cond (ltb room (2 ^ s.n)) ShortScratch (judge_words s)
    unfolding judge_by_bytes
    was_tested = ap (λ (b : Bool). cond (not b) BadSet (cond (ltb room (2 ^ s.n)) ShortScratch (judge_words s))) ok

    was_short : room < 2 ^ s.n → judge_by_bytes s room ≡ ShortScratch
    was_short h = was_tested ∙ ap (λ (b : Bool). cond b ShortScratch (judge_words s)) (lt-ltb room (2 ^ s.n) h)

    was_judged : 2 ^ s.n ≤ room → judge_by_bytes s room ≡ judge_words s
    was_judged h = was_tested ∙ ap (λ (b : Bool). cond b ShortScratch (judge_words s)) (le-ltb room (2 ^ s.n) h)

-- scratch enough under the rule before is enough under the new one
fewer : (n : ℕ) → scratch_bytes n ≤ 2 ^ n
fewer n = scratch_least n (2 ^ n) (omega arith)

module _ (s : Set) (room : ℕ) where
  by_rule : {C : Type 0} → (well_formed s ≡ false → C) → (well_formed s ≡ true → room < 2 ^ s.n → C) → (well_formed s ≡ true → 2 ^ s.n ≤ room → C) → C
  by_rule bad short fits =
      by_test (well_formed s) (λ ok. by_test (ltb room (2 ^ s.n)) (λ t. short ok (ltb-true _ _ t)) (λ t. fits ok (ltb-false _ _ t))) bad

  -- the verdict with scratch enough tells neither 20 nor 21
  neither : well_formed s ≡ true → 2 ^ s.n ≤ room → (verdict_told (judge_by_bytes s room) ≢ 20 ∷ []) × (verdict_told (judge_by_bytes s room) ≢ 21 ∷ [])
  neither ok h =
      let l : scratch_bytes s.n ≤ room = omega (arith, fewer s.n) in
      let e : verdict_told (judge_of s room) ≡ verdict_told (judge_by_bytes s room) = ap verdict_told (sym (judged s room ok l) ∙ sym (was_judged s room ok h)) in
      (λ t. (judge_neither s room ok l).0 (e ∙ t), λ t. (judge_neither s room ok l).1 (e ∙ t))

  bad : well_formed s ≡ false → judge_of s room ≡ judge_by_bytes s room
  bad e = sym (bad_set s room e) ∙ sym (was_bad s room e)

  -- ---- beside the new one

  pub one_bit : OneBit s room
  one_bit = record {
    was_bad = (
      λ e. by_rule (λ b. b) (λ ok h. apart 21 20 [] [] refl (sym (ap verdict_told (was_short s room ok h)) ∙ e))
          (λ ok h. absurd ((neither ok h).0 e)),
      λ b. ap verdict_told (was_bad s room b),
    );
    was_short = (
      λ e. by_rule (λ b. apart 20 21 [] [] refl (sym (ap verdict_told (was_bad s room b)) ∙ e)) (λ ok h. (ok, h))
          (λ ok h. absurd ((neither ok h).1 e)),
      λ x. ap verdict_told (was_short s room x.0 x.1),
    );
    same = λ h l. by_test (well_formed s) (λ ok. sym (judged s room ok l) ∙ sym (was_judged s room ok (omega (arith, h)))) bad;
    bad = bad;
    short = λ h. by_test (well_formed s) (λ ok. sym (short_scratch s room ok h) ∙ sym (was_short s room ok (omega (arith, fewer s.n)))) bad;
    moved = λ ok l h. (
      ap verdict_told (was_short s room ok h),
      sym (judged s room ok l) ∙ sym (was_judged s (2 ^ s.n) ok (omega arith)),
    );
  }

-- ---- eight at once

module _ (s : Set) (ok : well_formed s ≡ true) (w : ℕ) where
  pub by_eights : ByEights s w
  by_eights = record {
    judges = λ b j h.
        let e = safe_byte_in_law (table_of s (active_of s w)) b j h ∙ table_safe s w ok (8 * b + j) in (
          λ t. (safe_iff s ok w (8 * b + j)).0 (sym e ∙ set_bit j (safe_byte_in (table_of s (active_of s w)) b) t),
          λ safe. bit_set j (safe_byte_in (table_of s (active_of s w)) b) (e ∙ (safe_iff s ok w (8 * b + j)).1 safe),
        );
    made = in_block (columns_of s).read_plain (columns_of s).read_named s.m w ∙ active_is s ok w;
    alike = λ b j h. high_same (columns_of s).read_plain (columns_of s).read_named s.m (8 * b + j) (8 * b) (omega (arith, h));
  }
