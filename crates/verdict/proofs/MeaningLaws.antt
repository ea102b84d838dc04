-- The verdict by what it means: it is the one that the walks' own meaning asks for.
-- Assumes nothing.
use mathlib.Core.Path.{◌≡◌, sym, ap, ◌∙◌, subst}
use mathlib.Core.Logic.{◌⊎◌, inl, inr, ◌↔◌, ◌≢◌}
use Prim.Native.Nat.{ℕ, ◌^◌, ◌≤◌, ◌<◌}
use mathlib.Core.Bool.{true}
use native.Mathlib.Decide.{dec_lt}
use native.Mathlib.Omega.{arith}
use borrow.Author.Tests.{lt-ltb, le-ltb}
use Rattle.words.specs.Loop.{first}
use Rattle.words.proofs.LoopLaws.{some_first, First, first_spec, first_is, first_none}
use Rattle.scan.specs.declared.set.Set.{Set}
use Rattle.scan.specs.Shape.{well_formed}
use Rattle.scan.specs.Constraint.{HasSafe}
use Rattle.scan.specs.Holds.{F0, F1}
use Rattle.scan.specs.Walk.{Reaches}
use Rattle.scan.proofs.HoldsLaws.{by_reckoned}
use Rattle.verdict.specs.declared.verdict.Verdict.{Verdict}
use Rattle.verdict.specs.declared.verdict.Verdict.TheVariants.{Accepted, BadSet, ShortScratch, NoVector, Clash, NoEnd}
use Rattle.verdict.specs.Judge.{endless, lacks, has_endless, none_at, vector_at, endless_at, judge_words, scratch_bytes, judge_of}
use Rattle.verdict.specs.Meaning.{Good, FirstWithout, FirstEndless, Means, Bad}
use Rattle.verdict.proofs.JudgeLaws.{judged}
use Rattle.verdict.proofs.WordTests.{has_lacks, lacks_has, none_lacks, lacks_none, none_clash, none_free, ends_of, endless_of, reaches_of, never_of, all_end, end_all, one_never}

module _ (s : Set) where
  -- ---- the verdict on the words, by its first tests

  -- a first word without a safe vector rejects the set
  pub judge_without : (w : ℕ) → w ≡ first (2 ^ s.r) (lacks s) → w < 2 ^ s.r → judge_words s ≡ none_at s w
  unfolding judge_words vector_at
  judge_without w e h = rw (sym e, lt-ltb w (2 ^ s.r) h)

  -- where there is none, a first word with an endless walk does
  judge_endless : ((u : ℕ) → u < 2 ^ s.r → HasSafe s u) → judge_words s ≡ endless_at s (first (2 ^ s.r) (has_endless s))
  unfolding judge_words vector_at
  judge_endless f = rw (first_none (2 ^ s.r) (lacks s) (λ u l. has_lacks s u (f u l)), le-ltb (2 ^ s.r) (2 ^ s.r) (omega arith))

  module _ (ok : well_formed s ≡ true) where
    -- ---- and by what it means

    no_vectors : (w : ℕ) → FirstWithout s w → judge_words s ≡ none_at s w
    no_vectors w f =
        judge_without w (sym (first_is (2 ^ s.r) w (lacks s) f.within (none_lacks s w f.none) (λ u l. has_lacks s u (f.before u l)))) f.within

    no_ends : (w g : ℕ) → FirstEndless s w g → judge_words s ≡ NoEnd w g
    unfolding endless_at
    no_ends w g f =
        judge_endless f.vectors
        ∙ ap (endless_at s)
        (first_is (2 ^ s.r) w (has_endless s) f.within (one_never s ok w g f.fits f.never) (λ u l. all_end s ok u (f.before u l)))
        ∙ rw (lt-ltb w (2 ^ s.r) f.within)
        (ap (NoEnd w)
        (first_is (2 ^ s.n) g (endless s w) f.fits (endless_of s ok w g f.fits f.never) (λ k h. ends_of s ok w k (omega (arith, f.fits)) (f.ends k h))))

    all_good : ((w : ℕ) → w < 2 ^ s.r → Good s w) → judge_words s ≡ Accepted
    unfolding endless_at
    all_good m =
        judge_endless (λ u l. (m u l).vector)
        ∙ ap (endless_at s) (first_none (2 ^ s.r) (has_endless s) (λ u l. all_end s ok u (m u l).ends))
        ∙ rw (le-ltb (2 ^ s.r) (2 ^ s.r) (omega arith))

    -- whatever verdict's meaning holds is the verdict on the words
    pub means_words : (v : Verdict) → Means s v → judge_words s ≡ v
    means_words Accepted m = all_good m
    means_words (NoVector w) m = no_vectors w m.0 ∙ none_free s w m.1
    means_words (Clash w k) m = no_vectors w m.0 ∙ none_clash s w k m.1
    means_words (NoEnd w g) m = no_ends w g m
    means_words BadSet m = absurd m
    means_words ShortScratch m = absurd m

    -- one of the meanings holds
    some_meaning : (v : Verdict) × Means s v
    unfolding has_endless
    some_meaning = missing (first (2 ^ s.r) (lacks s)) (first_spec (2 ^ s.r) (lacks s))
      where
        ending : ((u : ℕ) → u < 2 ^ s.r → HasSafe s u) → (w : ℕ) → First (2 ^ s.r) (has_endless s) w → Dec (w < 2 ^ s.r) → (v : Verdict) × Means s v
        ending vectors w f (no nh) = (Accepted, λ u l. record { vector = vectors u l; ends = end_all s ok u (f.before u (omega arith)) })
        ending vectors w f (yes h) =
            let l = some_first (2 ^ s.n) (endless s w) (f.here h) in (
              NoEnd w l.0,
              record {
                within = h;
                vectors = vectors;
                before = λ u k. end_all s ok u (f.before u k);
                fits = l.1;
                ends = λ g k. reaches_of s ok w g (omega (arith, l.1)) (l.3 g k);
                never = never_of s ok w l.0 l.1 l.2;
              },
            )

        missing : (w : ℕ) → First (2 ^ s.r) (lacks s) w → (v : Verdict) × Means s v
        missing w f = told (dec_lt w (2 ^ s.r))
          where
            told : Dec (w < 2 ^ s.r) → (v : Verdict) × Means s v
            told (yes h) =
                let first : FirstWithout s w = record { within = h; before = λ u l. lacks_has s u (f.before u l); none = lacks_none s w (f.here h) } in
                by_reckoned (F0 s w) (F1 s w) (λ k l. (Clash w k, (first, l))) (λ n. (NoVector w, (first, n)))
            told (no nh) =
                let e = first (2 ^ s.r) (has_endless s) in
                ending (λ u l. lacks_has s u (f.before u (omega arith))) e (first_spec (2 ^ s.r) (has_endless s)) (dec_lt e (2 ^ s.r))

    -- ---- the verdict, given scratch enough

    module _ (room : ℕ) (enough : scratch_bytes s.n ≤ room) where
      -- whatever verdict's meaning holds is the verdict
      pub verdict_of : (v : Verdict) → Means s v → judge_of s room ≡ v
      verdict_of v m = sym (judged s room ok enough) ∙ means_words v m

      -- and the verdict's meaning holds
      pub verdict_means : Means s (judge_of s room)
      verdict_means = let m = some_meaning in subst (Means s) (sym (verdict_of m.0 m.1)) m.1

      -- a set is rejected exactly when some word has no safe vector, or a request whose walk never reaches one
      pub rejects_exactly : (judge_of s room ≢ Accepted) ↔ Bad s
      rejects_exactly = (λ n. bad some_meaning.0 some_meaning.1 n, λ b e. good b (subst (Means s) e verdict_means))
        where
          bad : (v : Verdict) → Means s v → judge_of s room ≢ Accepted → Bad s
          bad Accepted m n = absurd (n (verdict_of Accepted m))
          bad (NoVector w) m n = (w, m.0.within, inl m.0.none)
          bad (Clash w k) m n = (w, m.0.within, inl m.0.none)
          bad (NoEnd w g) m n = (w, m.within, inr (g, m.fits, m.never))
          bad BadSet m n = absurd m
          bad ShortScratch m n = absurd m

          good : Bad s → ((w : ℕ) → w < 2 ^ s.r → Good s w) → ⊥
          good b f = split b.2 (f b.0 b.1)
            where
              split : (¬ HasSafe s b.0) ⊎ ((g : ℕ) × (g < 2 ^ s.n) × (¬ Reaches s b.0 g)) → Good s b.0 → ⊥
              split (inl n) g = n g.vector
              split (inr n) g = n.2 (g.ends n.0 n.1)
