-- Demand 1 for sets: what the verdict turns down before it tries a word, and which bytes of its scratch are free.
-- Assumes nothing.
use mathlib.Core.Path.{◌≡◌, refl, sym, ap, ◌∙◌}
use mathlib.Core.Bool.{true, false}
use mathlib.Core.List.{[], ◌∷◌}
use mathlib.Core.Logic.{◌⊎◌, inl, inr, ◌≢◌}
use Prim.Native.Nat.{ℕ, ◌≤◌, ◌<◌}
use native.Mathlib.Omega.{arith}
use lib.Dec.{ltb}
use borrow.Author.Tests.{ltb-true, ltb-false}
use Rattle.words.proofs.BoolLaws.{by_test, clash}
use Rattle.scan.specs.declared.set.Set.{Set}
use Rattle.scan.specs.Shape.{well_formed}
use Rattle.verdict.specs.declared.verdict.Verdict.{Verdict}
use Rattle.verdict.specs.declared.verdict.Verdict.TheVariants.{Accepted, BadSet as SetRejected, ShortScratch, NoVector, Clash, NoEnd}
use Rattle.verdict.specs.Judge.{scratch_bytes, judge_of}
use Rattle.verdict.specs.Told.{verdict_told}
use Rattle.verdict.specs.Meaning.{Means}
use Rattle.verdict.proofs.MeaningLaws.{verdict_means}
use Rattle.verdict.proofs.JudgeLaws.{bad_set, short_scratch, loose_bad, loose_short, loose}
use Rattle.promise.specs.Promise.{VerdictRefusals}
use Rattle.promise.proofs.Numbers.{apart}

module _ (s : Set) (room : ℕ) where
  judge_bad : well_formed s ≡ false → verdict_told (judge_of s room) ≡ 20 ∷ []
  judge_bad e = ap verdict_told (sym (bad_set s room e))

  judge_short : well_formed s ≡ true → room < scratch_bytes s.n → verdict_told (judge_of s room) ≡ 21 ∷ []
  judge_short ok h = ap verdict_told (sym (short_scratch s room ok h))

  -- with a well-formed set and scratch enough the verdict is neither
  pub judge_neither : well_formed s ≡ true → scratch_bytes s.n ≤ room → (verdict_told (judge_of s room) ≢ 20 ∷ []) × (verdict_told (judge_of s room) ≢ 21 ∷ [])
  judge_neither ok h = go (judge_of s room) (verdict_means s ok room h)
    where
      go : (v : Verdict) → Means s v → (verdict_told v ≢ 20 ∷ []) × (verdict_told v ≢ 21 ∷ [])
      go Accepted m = (apart 0 20 [] [] refl, apart 0 21 [] [] refl)
      go (NoVector w) m = (apart 22 20 (w ∷ []) [] refl, apart 22 21 (w ∷ []) [] refl)
      go (Clash w k) m = (apart 58 20 (w ∷ k ∷ []) [] refl, apart 58 21 (w ∷ k ∷ []) [] refl)
      go (NoEnd w g) m = (apart 23 20 (w ∷ g ∷ []) [] refl, apart 23 21 (w ∷ g ∷ []) [] refl)
      go SetRejected m = absurd m
      go ShortScratch m = absurd m

  by_judge : {C : Type 0} → (well_formed s ≡ false → C) → (well_formed s ≡ true → room < scratch_bytes s.n → C) → (well_formed s ≡ true → scratch_bytes s.n ≤ room → C) → C
  by_judge bad short fits =
      by_test (well_formed s) (λ ok. by_test (ltb room (scratch_bytes s.n)) (λ t. short ok (ltb-true _ _ t)) (λ t. fits ok (ltb-false _ _ t))) bad

  pub verdict_refusals : VerdictRefusals s room
  verdict_refusals = record {
    not_formed = (
      λ e. by_judge (λ b. b) (λ ok h. apart 21 20 [] [] refl (sym (judge_short ok h) ∙ e)) (λ ok h. absurd ((judge_neither ok h).0 e)),
      judge_bad,
    );
    short = (
      λ e. by_judge (λ b. apart 20 21 [] [] refl (sym (judge_bad b) ∙ e)) (λ ok h. (ok, h)) (λ ok h. absurd ((judge_neither ok h).1 e)),
      λ x. judge_short x.0 x.1,
    );
    untouched = λ x. by_judge (loose_bad s room) (loose_short s room) (λ ok h. absurd (fine ok h x));
    loose = loose s room;
  }
    where
      fine : well_formed s ≡ true → scratch_bytes s.n ≤ room → (well_formed s ≡ false) ⊎ (room < scratch_bytes s.n) → ⊥
      fine ok h (inl b) = clash ok b
      fine ok h (inr l) = omega arith
