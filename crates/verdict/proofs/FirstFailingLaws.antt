-- Document 01's order, by its tests and by what it means: the first word that fails rejects the set.
-- Assumes nothing.
use mathlib.Core.Path.{◌≡◌, sym, ap, ap₂, ◌∙◌, subst}
use mathlib.Core.Bool.{Bool, true, false, not, ◌||◌}
use Prim.Native.Nat.{ℕ, ◌^◌, ◌<◌}
use native.Mathlib.Decide.{dec_lt}
use native.Mathlib.Omega.{arith}
use borrow.Author.Tests.{lt-ltb, le-ltb}
use Rattle.words.specs.Loop.{some, first}
use Rattle.words.proofs.BoolLaws.{by_test, clash, or_false}
use Rattle.words.proofs.LoopLaws.{some_true, some_false, some_false_at, some_first, First, first_spec, first_is, first_none}
use Rattle.scan.specs.declared.set.Set.{Set}
use Rattle.scan.specs.Shape.{well_formed}
use Rattle.scan.specs.Constraint.{has_vector}
use Rattle.scan.specs.Holds.{F0, F1}
use Rattle.scan.proofs.HoldsLaws.{by_reckoned}
use Rattle.verdict.specs.declared.verdict.Verdict.{Verdict}
use Rattle.verdict.specs.declared.verdict.Verdict.TheVariants.{Accepted, BadSet, ShortScratch, NoVector, Clash, NoEnd}
use Rattle.verdict.specs.Judge.{endless, none_at}
use Rattle.verdict.specs.FirstFailing.{fails, rejection_by, rejection, verdict_at, first_failing}
use Rattle.verdict.specs.Meaning.{Good, FailsWithout, FailsEndless, MeansFailing}
use Rattle.verdict.proofs.WordTests.{has_vector_law, vector_of, no_vector, none_clash, none_free, ends_of, endless_of, reaches_of, never_of}

module _ (s : Set) where
  -- ---- by its tests: what the nested loops over words and requests need

  pub failing_accepted : ((w : ℕ) → w < 2 ^ s.r → fails s w ≡ false) → first_failing s ≡ Accepted
  unfolding first_failing verdict_at
  failing_accepted f = ap (verdict_at s) (first_none (2 ^ s.r) (fails s) f) ∙ rw (le-ltb (2 ^ s.r) (2 ^ s.r) (omega arith))

  failing_rejected : (w : ℕ) → w < 2 ^ s.r → ((u : ℕ) → u < w → fails s u ≡ false) → fails s w ≡ true → first_failing s ≡ rejection s w
  unfolding first_failing verdict_at
  failing_rejected w h b e = ap (verdict_at s) (first_is (2 ^ s.r) w (fails s) h e b) ∙ rw (lt-ltb w (2 ^ s.r) h)

  pub failing_no_vector : (w : ℕ) → w < 2 ^ s.r → ((u : ℕ) → u < w → fails s u ≡ false) → has_vector s w ≡ false → first_failing s ≡ none_at s w
  unfolding rejection rejection_by fails
  failing_no_vector w h b e = failing_rejected w h b (ap (λ (x : Bool). not x || some (2 ^ s.n) (endless s w)) e) ∙ rw e

  pub failing_no_end : (w g : ℕ) → w < 2 ^ s.r → ((u : ℕ) → u < w → fails s u ≡ false) → has_vector s w ≡ true
      → g < 2 ^ s.n → ((k : ℕ) → k < g → endless s w k ≡ false) → endless s w g ≡ true → first_failing s ≡ NoEnd w g
  unfolding rejection rejection_by fails
  failing_no_end w g h b v fits before e =
      failing_rejected w h b (ap₂ (λ (x y : Bool). not x || y) v (some_true (2 ^ s.n) (endless s w) g fits e))
      ∙ ap (rejection_by s w) (first_is (2 ^ s.n) g (endless s w) fits e before)
      ∙ rw v

  -- a word is passed when it has a safe vector and every walk ends
  pub passes : (w : ℕ) → has_vector s w ≡ true → ((g : ℕ) → g < 2 ^ s.n → endless s w g ≡ false) → fails s w ≡ false
  unfolding fails
  passes w v f = ap₂ (λ (x y : Bool). not x || y) v (some_false (2 ^ s.n) (endless s w) f)

  module _ (ok : well_formed s ≡ true) where
    -- ---- a word fails, or is good

    good_of : (w : ℕ) → fails s w ≡ false → Good s w
    unfolding fails
    good_of w e =
        let b = or_false (not (has_vector s w)) (some (2 ^ s.n) (endless s w)) e in
        record {
          vector = by_test (has_vector s w) (vector_of s w) (λ q. clash (ap not q) b.0);
          ends = λ g h. reaches_of s ok w g h (some_false_at (2 ^ s.n) (endless s w) b.1 g h);
        }

    good_passes : (w : ℕ) → Good s w → fails s w ≡ false
    good_passes w g = passes w (has_vector_law s w g.vector) (λ k h. ends_of s ok w k h (g.ends k h))

    -- ---- by what it means

    no_vectors : (w : ℕ) → FailsWithout s w → first_failing s ≡ none_at s w
    no_vectors w f = failing_no_vector w f.within (λ u l. good_passes u (f.before u l)) (no_vector s w f.none)

    no_ends : (w g : ℕ) → FailsEndless s w g → first_failing s ≡ NoEnd w g
    no_ends w g f =
        failing_no_end w g f.within (λ u l. good_passes u (f.before u l)) (has_vector_law s w f.vector) f.fits
        (λ k h. ends_of s ok w k (omega (arith, f.fits)) (f.ends k h)) (endless_of s ok w g f.fits f.never)

    pub failing_of : (v : Verdict) → MeansFailing s v → first_failing s ≡ v
    failing_of Accepted m = failing_accepted (λ w h. good_passes w (m w h))
    failing_of (NoVector w) m = no_vectors w m.0 ∙ none_free s w m.1
    failing_of (Clash w k) m = no_vectors w m.0 ∙ none_clash s w k m.1
    failing_of (NoEnd w g) m = no_ends w g m
    failing_of BadSet m = absurd m
    failing_of ShortScratch m = absurd m

    -- one of the meanings holds
    at_word : (w : ℕ) → w < 2 ^ s.r → ((u : ℕ) → u < w → Good s u) → fails s w ≡ true → (v : Verdict) × MeansFailing s v
    unfolding fails
    at_word w h b e = by_test (has_vector s w) ends none_safe
      where
        ends : has_vector s w ≡ true → (v : Verdict) × MeansFailing s v
        ends q =
            let t : some (2 ^ s.n) (endless s w) ≡ true = ap (λ (b : Bool). not b || some (2 ^ s.n) (endless s w)) (sym q) ∙ e in
            let l = some_first (2 ^ s.n) (endless s w) t in (
              NoEnd w l.0,
              record {
                within = h;
                before = b;
                vector = vector_of s w q;
                fits = l.1;
                ends = λ g k. reaches_of s ok w g (omega (arith, l.1)) (l.3 g k);
                never = never_of s ok w l.0 l.1 l.2;
              },
            )

        none_safe : has_vector s w ≡ false → (v : Verdict) × MeansFailing s v
        none_safe q =
            let f : FailsWithout s w = record { within = h; before = b; none = λ v. clash (has_vector_law s w v) q } in
            by_reckoned (F0 s w) (F1 s w) (λ k l. (Clash w k, (f, l))) (λ n. (NoVector w, (f, n)))

    some_meaning : (v : Verdict) × MeansFailing s v
    some_meaning = go (first (2 ^ s.r) (fails s)) (first_spec (2 ^ s.r) (fails s))
      where
        go : (w : ℕ) → First (2 ^ s.r) (fails s) w → (v : Verdict) × MeansFailing s v
        go w f = told (dec_lt w (2 ^ s.r))
          where
            told : Dec (w < 2 ^ s.r) → (v : Verdict) × MeansFailing s v
            told (yes h) = at_word w h (λ u l. good_of u (f.before u l)) (f.here h)
            told (no nh) = (Accepted, λ u l. good_of u (f.before u (omega arith)))

    -- and its meaning holds
    pub failing_means : MeansFailing s (first_failing s)
    failing_means = let m = some_meaning in subst (MeansFailing s) (sym (failing_of m.0 m.1)) m.1
