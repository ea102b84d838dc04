-- Demand 3: the verdict and the start.
-- Assumes nothing.
use mathlib.Core.Path.{◌≡◌, refl, ap, subst}
use mathlib.Core.Bool.{true}
use mathlib.Core.List.{[], ◌∷◌}
use mathlib.Core.Logic.{◌≢◌, ◌↔◌, inl, inr, ⊎_elim}
use Prim.Native.Nat.{ℕ, ◌^◌, ◌≤◌, ◌<◌}
use Rattle.scan.specs.declared.set.Set.{Set}
use Rattle.scan.specs.Set.{zero_set}
use Rattle.scan.specs.Shape.{well_formed}
use Rattle.scan.specs.Constraint.{HasSafe}
use Rattle.verdict.specs.declared.verdict.Verdict.{Verdict}
use Rattle.verdict.specs.declared.verdict.Verdict.TheVariants.{Accepted, BadSet, ShortScratch, NoVector, Clash, NoEnd}
use Rattle.verdict.specs.Judge.{scratch_bytes, judge_of}
use Rattle.start.specs.Start.{start_state, start_of}
use Rattle.verdict.specs.Told.{verdict_told}
use Rattle.verdict.specs.Meaning.{Good, FirstWithout, FirstEndless, Bad, Means}
use Rattle.verdict.proofs.MeaningLaws.{verdict_of, verdict_means, rejects_exactly}
use Rattle.promise.specs.Promise.{ExactVerdict, ExactStart}
use Rattle.promise.specs.Zero.{all_zero_state}
use Rattle.promise.specs.Verdicts.{HasVector, GoodWord, BadWord, FirstNoVector, FirstNoEnd}
use Rattle.promise.proofs.Numbers.{apart}
use Rattle.promise.proofs.ConstraintMeanings.{safe_iff}
use Rattle.promise.proofs.PassMeanings.{ends_iff}
use Rattle.promise.proofs.Clashes.{lowest_iff, none_iff}

-- ---- a verdict is told by its number and values

pub told_accepted : (v : Verdict) → verdict_told v ≡ 0 ∷ [] → v ≡ Accepted
told_accepted Accepted e = refl
told_accepted BadSet e = apart 20 0 [] [] refl e
told_accepted ShortScratch e = apart 21 0 [] [] refl e
told_accepted (NoVector w) e = apart 22 0 (w ∷ []) [] refl e
told_accepted (Clash w k) e = apart 58 0 (w ∷ k ∷ []) [] refl e
told_accepted (NoEnd w g) e = apart 23 0 (w ∷ g ∷ []) [] refl e

pub told_word : (v : Verdict) (w : ℕ) → verdict_told v ≡ 22 ∷ w ∷ [] → v ≡ NoVector w
told_word Accepted w e = apart 0 22 [] (w ∷ []) refl e
told_word BadSet w e = apart 20 22 [] (w ∷ []) refl e
told_word ShortScratch w e = apart 21 22 [] (w ∷ []) refl e
told_word (NoVector u) w e = let f : u ≡ w = cc in ap NoVector f
told_word (Clash u k) w e = apart 58 22 (u ∷ k ∷ []) (w ∷ []) refl e
told_word (NoEnd u g) w e = apart 23 22 (u ∷ g ∷ []) (w ∷ []) refl e

pub told_clash : (v : Verdict) (w k : ℕ) → verdict_told v ≡ 58 ∷ w ∷ k ∷ [] → v ≡ Clash w k
told_clash Accepted w k e = apart 0 58 [] (w ∷ k ∷ []) refl e
told_clash BadSet w k e = apart 20 58 [] (w ∷ k ∷ []) refl e
told_clash ShortScratch w k e = apart 21 58 [] (w ∷ k ∷ []) refl e
told_clash (NoVector u) w k e = apart 22 58 (u ∷ []) (w ∷ k ∷ []) refl e
told_clash (Clash u j) w k e = cc
told_clash (NoEnd u g) w k e = apart 23 58 (u ∷ g ∷ []) (w ∷ k ∷ []) refl e

pub told_request : (v : Verdict) (w g : ℕ) → verdict_told v ≡ 23 ∷ w ∷ g ∷ [] → v ≡ NoEnd w g
told_request Accepted w g e = apart 0 23 [] (w ∷ g ∷ []) refl e
told_request BadSet w g e = apart 20 23 [] (w ∷ g ∷ []) refl e
told_request ShortScratch w g e = apart 21 23 [] (w ∷ g ∷ []) refl e
told_request (NoVector u) w g e = apart 22 23 (u ∷ []) (w ∷ g ∷ []) refl e
told_request (Clash u k) w g e = apart 58 23 (u ∷ k ∷ []) (w ∷ g ∷ []) refl e
told_request (NoEnd u h) w g e = cc

-- ---- the verdict

module _ (s : Set) (ok : well_formed s ≡ true) where
  pub vector_iff : (w : ℕ) → HasSafe s w ↔ HasVector s w
  vector_iff w = (λ a. (a.0, a.1, (safe_iff s ok w a.0).0 a.2), λ a. (a.0, a.1, (safe_iff s ok w a.0).1 a.2))

  pub good_iff : (w : ℕ) → Good s w ↔ GoodWord s w
  good_iff w = (
    λ g. record { vector = (vector_iff w).0 g.vector; ends = λ request h. (ends_iff s ok w request).0 (g.ends request h) },
    λ g. record { vector = (vector_iff w).1 g.vector; ends = λ request h. (ends_iff s ok w request).1 (g.ends request h) },
  )

  pub without_iff : (w : ℕ) → FirstWithout s w ↔ FirstNoVector s w
  without_iff w = (
    λ f. record { within = f.within; before = λ u h. (vector_iff u).0 (f.before u h); none = λ a. f.none ((vector_iff w).1 a) },
    λ f. record { within = f.within; before = λ u h. (vector_iff u).1 (f.before u h); none = λ a. f.none ((vector_iff w).0 a) },
  )

  endless_iff : (w g : ℕ) → FirstEndless s w g ↔ FirstNoEnd s w g
  endless_iff w g = (
    λ f. record {
      within = f.within;
      vectors = λ u h. (vector_iff u).0 (f.vectors u h);
      before = λ u h request l. (ends_iff s ok u request).0 (f.before u h request l);
      fits = f.fits;
      ends = λ request h. (ends_iff s ok w request).0 (f.ends request h);
      never = λ a. f.never ((ends_iff s ok w g).1 a);
    },
    λ f. record {
      within = f.within;
      vectors = λ u h. (vector_iff u).1 (f.vectors u h);
      before = λ u h request l. (ends_iff s ok u request).1 (f.before u h request l);
      fits = f.fits;
      ends = λ request h. (ends_iff s ok w request).1 (f.ends request h);
      never = λ a. f.never ((ends_iff s ok w g).0 a);
    },
  )

  bad_iff : Bad s ↔ ((w : ℕ) × (w < 2 ^ s.r) × BadWord s w)
  bad_iff = (
    λ b. (b.0, b.1, ⊎_elim (λ n. inl (λ a. n ((vector_iff b.0).1 a))) (λ e. inr (e.0, e.1, λ a. e.2 ((ends_iff s ok b.0 e.0).1 a))) b.2),
    λ b. (b.0, b.1, ⊎_elim (λ n. inl (λ a. n ((vector_iff b.0).0 a))) (λ e. inr (e.0, e.1, λ a. e.2 ((ends_iff s ok b.0 e.0).0 a))) b.2),
  )

module _ (s : Set) (room : ℕ) (ok : well_formed s ≡ true) (enough : scratch_bytes s.n ≤ room) where
  pub means : (v : Verdict) → judge_of s room ≡ v → Means s v
  means v e = subst (Means s) e (verdict_means s ok room enough)

  is : (v : Verdict) → Means s v → judge_of s room ≡ v
  is = verdict_of s ok room enough

  pub exact_verdict : ExactVerdict s room
  exact_verdict = record {
    rejects = (
      λ n. (bad_iff s ok).0 ((rejects_exactly s ok room enough).0 (λ e. n (ap verdict_told e))),
      λ b e. (rejects_exactly s ok room enough).1 ((bad_iff s ok).1 b) (told_accepted (judge_of s room) e),
    );
    accepts = (
      λ e w h. (good_iff s ok w).0 (means Accepted (told_accepted (judge_of s room) e) w h),
      λ m. ap verdict_told (is Accepted (λ w h. (good_iff s ok w).1 (m w h))),
    );
    names_word = λ w. (
      λ e. let m = means (NoVector w) (told_word (judge_of s room) w e) in ((without_iff s ok w).0 m.0, (none_iff s ok w).0 m.1),
      λ m. ap verdict_told (is (NoVector w) ((without_iff s ok w).1 m.0, (none_iff s ok w).1 m.1)),
    );
    names_clash = λ w k. (
      λ e. let m = means (Clash w k) (told_clash (judge_of s room) w k e) in ((without_iff s ok w).0 m.0, (lowest_iff s ok w k).0 m.1),
      λ m. ap verdict_told (is (Clash w k) ((without_iff s ok w).1 m.0, (lowest_iff s ok w k).1 m.1)),
    );
    names_request = λ w g. (
      λ e. (endless_iff s ok w g).0 (means (NoEnd w g) (told_request (judge_of s room) w g e)),
      λ m. ap verdict_told (is (NoEnd w g) ((endless_iff s ok w g).1 m)),
    );
  }

-- ---- the start

start_zero : (s : Set) (v : Verdict) → verdict_told v ≢ 0 ∷ [] → start_state s v ≡ all_zero_state
unfolding zero_set
start_zero s Accepted n = absurd (n refl)
start_zero s BadSet n = refl
start_zero s ShortScratch n = refl
start_zero s (NoVector w) n = refl
start_zero s (Clash w k) n = refl
start_zero s (NoEnd w g) n = refl

pub exact_start : (s : Set) (room : ℕ) → ExactStart s room
unfolding start_of
exact_start s room = record {
  says = refl;
  gives = λ e. ap (start_state s) (told_accepted (judge_of s room) e);
  refuses = start_zero s (judge_of s room);
}
