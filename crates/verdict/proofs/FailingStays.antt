-- From document 01's order to the verdict: only an endless walk gives way, to a later word without a safe vector.
-- Assumes nothing.
use mathlib.Core.Path.{◌≡◌, refl, sym, subst}
use mathlib.Core.Bool.{true, false}
use mathlib.Core.Logic.{◌≢◌}
use Prim.Native.Nat.{ℕ, ◌+◌, ◌^◌, ◌≤◌, ◌<◌}
use native.Mathlib.Omega.{arith}
use Rattle.words.specs.Loop.{some, first}
use Rattle.words.proofs.LoopLaws.{some_false, First, first_spec}
use Rattle.words.proofs.LoopTurns.{some_miss}
use Rattle.scan.specs.declared.set.Set.{Set}
use Rattle.scan.specs.Shape.{well_formed}
use Rattle.scan.specs.Constraint.{HasSafe}
use Rattle.verdict.specs.declared.verdict.Verdict.{Verdict}
use Rattle.verdict.specs.declared.verdict.Verdict.TheVariants.{Accepted, BadSet, ShortScratch, NoVector, Clash, NoEnd}
use Rattle.verdict.specs.Judge.{lacks, judge_words}
use Rattle.verdict.specs.FirstFailing.{first_failing}
use Rattle.verdict.specs.Meaning.{FirstWithout, FailsWithout, FailsEndless, MeansFailing}
use Rattle.verdict.proofs.WordTests.{has_lacks, lacks_has}
use Rattle.verdict.proofs.FirstFailingLaws.{failing_means}
use Rattle.verdict.proofs.MeaningLaws.{means_words}

module _ (s : Set) (ok : well_formed s ≡ true) where
  -- ---- by what the first word that fails tells

  -- 22 and 58 there stay
  pub still_without : (w : ℕ) → FailsWithout s w → FirstWithout s w
  still_without w f = record { within = f.within; before = λ u h. (f.before u h).vector; none = f.none }

  -- 23 stays where every word has a safe vector
  pub still_endless : (w g : ℕ) → FailsEndless s w g → ((u : ℕ) → u < 2 ^ s.r → HasSafe s u) → judge_words s ≡ NoEnd w g
  still_endless w g f vectors = means_words s ok (NoEnd w g) (record {
    within = f.within;
    vectors = vectors;
    before = λ u h. (f.before u h).ends;
    fits = f.fits;
    ends = f.ends;
    never = f.never;
  })

  -- ---- by the answer that the loops found

  found_means : (v : Verdict) → v ≡ first_failing s → MeansFailing s v
  found_means v e = subst (MeansFailing s) (sym e) (failing_means s ok)

  -- any answer but 23 stays
  pub found_stays : (v : Verdict) → v ≡ first_failing s → ((w g : ℕ) → v ≢ NoEnd w g) → v ≡ judge_words s
  found_stays v e = go v (found_means v e)
    where
      go : (v : Verdict) → MeansFailing s v → ((w g : ℕ) → v ≢ NoEnd w g) → v ≡ judge_words s
      go Accepted m n = sym (means_words s ok Accepted m)
      go (NoVector w) m n = sym (means_words s ok (NoVector w) (still_without w m.0, m.1))
      go (Clash w k) m n = sym (means_words s ok (Clash w k) (still_without w m.0, m.1))
      go (NoEnd w g) m n = absurd (n w g refl)
      go BadSet m n = absurd m
      go ShortScratch m n = absurd m

  module _ (w g : ℕ) (e : NoEnd w g ≡ first_failing s) where
    found : FailsEndless s w g
    found = found_means (NoEnd w g) e

    pub found_within : w < 2 ^ s.r
    found_within = found.within

    -- no word up to the one with the endless walk is without a safe vector
    pub none_up_to : some (w + 1) (lacks s) ≡ false
    none_up_to = some_miss (lacks s) w (some_false w (lacks s) (λ u h. has_lacks s u (found.before u h).vector)) (has_lacks s w found.vector)

    -- 23 stays where the search came to no word without one
    pub stays_endless : (u : ℕ) → u ≡ first (2 ^ s.r) (lacks s) → 2 ^ s.r ≤ u → NoEnd w g ≡ judge_words s
    stays_endless u eu h =
        let f = subst (First (2 ^ s.r) (lacks s)) (sym eu) (first_spec (2 ^ s.r) (lacks s)) in
        sym (still_endless w g found (λ k l. lacks_has s k (f.before k (omega arith))))
