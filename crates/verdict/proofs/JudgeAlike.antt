-- A lone output's rank changes no verdict: what a verdict means is the same of two sets that differ in such ranks alone.
-- Assumes nothing.
use mathlib.Core.Path.{◌≡◌, sym, ap, ◌∙◌, subst}
use mathlib.Core.Path.{fun_ext}
use Prim.Native.Nat.{ℕ, ◌^◌, ◌≤◌, ◌<◌}
use lib.Dec.{ltb}
use borrow.Author.Tests.{ltb-true, ltb-false}
use Rattle.words.specs.Loop.{iterate}
use Rattle.words.proofs.BoolLaws.{by_test}
use Rattle.scan.specs.declared.set.Set.{Set}
use Rattle.scan.specs.Shape.{well_formed}
use Rattle.scan.specs.Constraint.{safe, HasSafe}
use Rattle.scan.specs.Holds.{F0, F1, LowestBoth, NoneBoth, start_from, start_vector}
use Rattle.scan.specs.Walk.{after, Reaches}
use Rattle.scan.proofs.LoneRanks.{AlikeButLone, f0_alike, f1_alike, safe_alike, pass_alike}
use Rattle.verdict.specs.declared.verdict.Verdict.{Verdict}
use Rattle.verdict.specs.declared.verdict.Verdict.TheVariants.{Accepted, BadSet, ShortScratch, NoVector, Clash, NoEnd}
use Rattle.verdict.specs.Judge.{scratch_bytes, judge_of}
use Rattle.verdict.specs.Meaning.{Good, FirstWithout, Means}
use Rattle.verdict.proofs.MeaningLaws.{verdict_means, verdict_of}
use Rattle.verdict.proofs.JudgeLaws.{bad_set, short_scratch}

module _ (s t : Set) (a : AlikeButLone s t) where
  -- the vectors of a walk, and which of them are safe
  after_alike : (w request k : ℕ) → after s w request k ≡ after t w request k
  unfolding after start_vector
  after_alike w request k = λ i. iterate (fun_ext (pass_alike s t a w) i) k (start_from (f0_alike s t a w i) (f1_alike s t a w i) request)

  safe_after : (w request k : ℕ) → safe s w (after s w request k) ≡ safe t w (after t w request k)
  safe_after w request k = safe_alike s t a w (after s w request k) ∙ ap (safe t w) (after_alike w request k)

  -- what a verdict means
  safe_there : (w : ℕ) → HasSafe s w → HasSafe t w
  safe_there w h = (h.0, subst (λ (n : ℕ). h.0 < 2 ^ n) a.n_same h.1, sym (safe_alike s t a w h.0) ∙ h.2)

  safe_back : (w : ℕ) → HasSafe t w → HasSafe s w
  safe_back w h = (h.0, subst (λ (n : ℕ). h.0 < 2 ^ n) (sym a.n_same) h.1, safe_alike s t a w h.0 ∙ h.2)

  reaches_there : (w request : ℕ) → Reaches s w request → Reaches t w request
  reaches_there w request r = (r.0, sym (safe_after w request r.0) ∙ r.1)

  reaches_back : (w request : ℕ) → Reaches t w request → Reaches s w request
  reaches_back w request r = (r.0, safe_after w request r.0 ∙ r.1)

  good_there : (w : ℕ) → Good s w → Good t w
  good_there w g = record {
    vector = safe_there w g.vector;
    ends = λ request h. reaches_there w request (g.ends request (subst (λ (n : ℕ). request < 2 ^ n) (sym a.n_same) h));
  }

  without_there : (w : ℕ) → FirstWithout s w → FirstWithout t w
  without_there w m = record {
    within = subst (λ (r : ℕ). w < 2 ^ r) a.r_same m.within;
    before = λ u h. safe_there u (m.before u h);
    none = λ h. m.none (safe_back w h);
  }

  means_there : (v : Verdict) → Means s v → Means t v
  means_there Accepted m = λ w h. good_there w (m w (subst (λ (r : ℕ). w < 2 ^ r) (sym a.r_same) h))
  means_there (NoVector w) m = (without_there w m.0, subst (λ (f : ℕ). NoneBoth f (F1 t w)) (f0_alike s t a w) (subst (NoneBoth (F0 s w)) (f1_alike s t a w) m.1))
  means_there (Clash w k) m =
      (without_there w m.0, subst (λ (f : ℕ). LowestBoth f (F1 t w) k) (f0_alike s t a w) (subst (λ (f : ℕ). LowestBoth (F0 s w) f k) (f1_alike s t a w) m.1))
  means_there (NoEnd w g) m = record {
    within = subst (λ (r : ℕ). w < 2 ^ r) a.r_same m.within;
    vectors = λ u h. safe_there u (m.vectors u (subst (λ (r : ℕ). u < 2 ^ r) (sym a.r_same) h));
    before = λ u h request l. reaches_there u request (m.before u h request (subst (λ (n : ℕ). request < 2 ^ n) (sym a.n_same) l));
    fits = subst (λ (n : ℕ). g < 2 ^ n) a.n_same m.fits;
    ends = λ request h. reaches_there w request (m.ends request h);
    never = λ r. m.never (reaches_back w g r);
  }
  means_there BadSet m = m
  means_there ShortScratch m = m

  -- a lone output's rank changes no verdict
  pub judge_alike : well_formed s ≡ well_formed t → (room : ℕ) → judge_of s room ≡ judge_of t room
  judge_alike formed room =
      by_test (well_formed s)
      (λ ok. by_test (ltb room (scratch_bytes s.n))
      (λ l.
      let h = ltb-true room (scratch_bytes s.n) l in
      sym (short_scratch s room ok h) ∙ short_scratch t room (sym formed ∙ ok) (subst (λ (n : ℕ). room < scratch_bytes n) a.n_same h))
      (λ l.
      let h = ltb-false room (scratch_bytes s.n) l in
      sym (verdict_of t (sym formed ∙ ok) room (subst (λ (n : ℕ). scratch_bytes n ≤ room) a.n_same h) (judge_of s room) (means_there (judge_of s room) (verdict_means s ok room h)))))
      (λ b. sym (bad_set s room b) ∙ bad_set t room (sym formed ∙ b))
