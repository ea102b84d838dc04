-- Change request K5: the verdict in document 01's order, and the one group of its answers that changed.
-- Assumes nothing.
use mathlib.Core.Path.{◌≡◌, refl, sym, ap, ◌∙◌, subst}
use mathlib.Core.Bool.{true}
use mathlib.Core.List.{[], ◌∷◌}
use mathlib.Core.Logic.{◌↔◌, inl, inr}
use Prim.Native.Nat.{ℕ, ◌^◌, ◌≤◌, ◌<◌}
use native.Mathlib.Decide.{dec_lt}
use native.Mathlib.Omega.{arith}
use Rattle.scan.specs.declared.set.Set.{Set}
use Rattle.scan.specs.Shape.{well_formed}
use Rattle.scan.specs.Constraint.{HasSafe}
use Rattle.verdict.specs.declared.verdict.Verdict.{Verdict}
use Rattle.verdict.specs.declared.verdict.Verdict.TheVariants.{Accepted, BadSet, ShortScratch, NoVector, Clash, NoEnd}
use Rattle.verdict.specs.Judge.{scratch_bytes, judge_words, judge_of}
use Rattle.verdict.specs.FirstFailing.{first_failing}
use Rattle.verdict.specs.Told.{verdict_told}
use Rattle.verdict.specs.Meaning.{FailsWithout, FailsEndless, Means, MeansFailing}
use Rattle.verdict.proofs.WordTests.{vector_or_none}
use Rattle.verdict.proofs.JudgeLaws.{judged}
use Rattle.verdict.proofs.FirstFailingLaws.{failing_of, failing_means}
use Rattle.verdict.proofs.MeaningLaws.{means_words}
use Rattle.verdict.proofs.FailingStays.{still_without, still_endless}
use Rattle.promise.specs.OneGroup.{FailsNoVector, FailsNoEnd, OldOrder, InGroup, HigherNoVector, OneGroup}
use Rattle.promise.proofs.PassMeanings.{ends_iff}
use Rattle.promise.proofs.Clashes.{lowest_iff, none_iff}
use Rattle.promise.proofs.ExactVerdicts.{told_accepted, told_word, told_clash, told_request, vector_iff, good_iff, without_iff, means}

module _ (s : Set) (ok : well_formed s ≡ true) where
  -- ---- document 01's order

  fails_without_iff : (w : ℕ) → FailsWithout s w ↔ FailsNoVector s w
  fails_without_iff w = (
    λ f. record { within = f.within; before = λ u h. (good_iff s ok u).0 (f.before u h); none = λ a. f.none ((vector_iff s ok w).1 a) },
    λ f. record { within = f.within; before = λ u h. (good_iff s ok u).1 (f.before u h); none = λ a. f.none ((vector_iff s ok w).0 a) },
  )

  fails_endless_iff : (w g : ℕ) → FailsEndless s w g ↔ FailsNoEnd s w g
  fails_endless_iff w g = (
    λ f. record {
      within = f.within;
      before = λ u h. (good_iff s ok u).0 (f.before u h);
      vector = (vector_iff s ok w).0 f.vector;
      fits = f.fits;
      ends = λ request h. (ends_iff s ok w request).0 (f.ends request h);
      never = λ a. f.never ((ends_iff s ok w g).1 a);
    },
    λ f. record {
      within = f.within;
      before = λ u h. (good_iff s ok u).1 (f.before u h);
      vector = (vector_iff s ok w).1 f.vector;
      fits = f.fits;
      ends = λ request h. (ends_iff s ok w request).1 (f.ends request h);
      never = λ a. f.never ((ends_iff s ok w g).0 a);
    },
  )

  failing_is : (v : Verdict) → first_failing s ≡ v → MeansFailing s v
  failing_is v e = subst (MeansFailing s) e (failing_means s ok)

  old_order : OldOrder s
  old_order = record {
    accepts = (
      λ e w h. (good_iff s ok w).0 (failing_is Accepted (told_accepted (first_failing s) e) w h),
      λ m. ap verdict_told (failing_of s ok Accepted (λ w h. (good_iff s ok w).1 (m w h))),
    );
    names_word = λ w. (
      λ e. let m = failing_is (NoVector w) (told_word (first_failing s) w e) in ((fails_without_iff w).0 m.0, (none_iff s ok w).0 m.1),
      λ m. ap verdict_told (failing_of s ok (NoVector w) ((fails_without_iff w).1 m.0, (none_iff s ok w).1 m.1)),
    );
    names_clash = λ w k. (
      λ e. let m = failing_is (Clash w k) (told_clash (first_failing s) w k e) in ((fails_without_iff w).0 m.0, (lowest_iff s ok w k).0 m.1),
      λ m. ap verdict_told (failing_of s ok (Clash w k) ((fails_without_iff w).1 m.0, (lowest_iff s ok w k).1 m.1)),
    );
    names_request = λ w g. (
      λ e. (fails_endless_iff w g).0 (failing_is (NoEnd w g) (told_request (first_failing s) w g e)),
      λ m. ap verdict_told (failing_of s ok (NoEnd w g) ((fails_endless_iff w g).1 m)),
    );
  }

  -- ---- what changed

  -- a word without a safe vector is behind the first word that fails, where that has an endless walk
  behind : (w g u : ℕ) → FailsEndless s w g → (¬ HasSafe s u) → w < u
  behind w g u f n = go (dec_lt w u) (dec_lt u w)
    where
      go : Dec (w < u) → Dec (u < w) → w < u
      go (yes h) _ = h
      go (no nh) (yes l) = absurd (n (f.before u l).vector)
      go (no nh) (no nl) = let e : w ≡ u = omega arith in absurd (n (subst (HasSafe s) e f.vector))

  module _ (room : ℕ) (enough : scratch_bytes s.n ≤ room) where
    turned : (w g : ℕ) → InGroup s w g → (verdict_told (first_failing s) ≡ 23 ∷ w ∷ g ∷ []) × HigherNoVector s room w
    turned w g i = ((old_order.names_request w g).1 i.0, go (judge_of s room) (means s room ok enough (judge_of s room) refl) refl)
      where
        none : ¬ HasSafe s i.1.0
        none h = i.1.3 ((vector_iff s ok i.1.0).0 h)

        go : (v : Verdict) → Means s v → judge_of s room ≡ v → HigherNoVector s room w
        go Accepted m e = absurd (none (m i.1.0 i.1.2).vector)
        go (NoVector u) m e =
            (u, behind w g u ((fails_endless_iff w g).1 i.0) m.0.none, (without_iff s ok u).0 m.0, inl (ap verdict_told e, (none_iff s ok u).0 m.1))
        go (Clash u k) m e =
            (u, behind w g u ((fails_endless_iff w g).1 i.0) m.0.none, (without_iff s ok u).0 m.0, inr (k, ap verdict_told e, (lowest_iff s ok u k).0 m.1))
        go (NoEnd u k) m e = absurd (none (m.vectors i.1.0 i.1.2))
        go BadSet m e = absurd m
        go ShortScratch m e = absurd m

    kept : ((w g : ℕ) → ¬ InGroup s w g) → judge_of s room ≡ first_failing s
    kept n = sym (judged s room ok enough) ∙ go (first_failing s) (failing_means s ok)
      where
        go : (v : Verdict) → MeansFailing s v → judge_words s ≡ v
        go Accepted m = means_words s ok Accepted m
        go (NoVector w) m = means_words s ok (NoVector w) (still_without s ok w m.0, m.1)
        go (Clash w k) m = means_words s ok (Clash w k) (still_without s ok w m.0, m.1)
        go (NoEnd w g) m = still_endless s ok w g m (λ u h. all u h (vector_or_none s u))
          where
            all : (u : ℕ) → u < 2 ^ s.r → Dec (HasSafe s u) → HasSafe s u
            all u h (yes v) = v
            all u h (no none) = absurd (n w g ((fails_endless_iff w g).0 m, (u, behind w g u m none, h, λ v. none ((vector_iff s ok u).1 v))))
        go BadSet m = absurd m
        go ShortScratch m = absurd m

    pub one_group : OneGroup s room
    one_group = record { old = old_order; turned = turned; kept = kept }
