-- Change request K10: the verdict beside the one before it, which gave 22 where an output is forced both ways too.
-- Assumes nothing.
use mathlib.Core.Path.{◌≡◌, refl, sym, ap, ◌∙◌, subst}
use mathlib.Core.Bool.{Bool, true, false, cond}
use mathlib.Core.List.{[], ◌∷◌}
use mathlib.Core.Logic.{◌↔◌, ◌≢◌, inl, inr}
use Prim.Native.Nat.{ℕ, ◌^◌, ◌≤◌, ◌<◌}
use lib.Dec.{ltb}
use borrow.Author.Tests.{lt-ltb, le-ltb, ltb-true, ltb-false}
use Rattle.words.specs.Loop.{first}
use Rattle.words.proofs.BoolLaws.{by_test}
use Rattle.words.proofs.LoopLaws.{first_spec, first_is}
use Rattle.scan.specs.declared.set.Set.{Set}
use Rattle.scan.specs.Shape.{well_formed}
use Rattle.scan.specs.Holds.{F0, F1}
use Rattle.scan.proofs.HoldsLaws.{by_reckoned}
use Rattle.verdict.specs.declared.verdict.Verdict.{Verdict}
use Rattle.verdict.specs.declared.verdict.Verdict.TheVariants.{Accepted, BadSet, ShortScratch, NoVector, NoEnd}
use Rattle.verdict.specs.Judge.{endless, lacks, has_endless, none_at, vector_at, endless_at, judge_words, scratch_bytes, judge_of}
use Rattle.verdict.specs.Told.{verdict_told}
use Rattle.verdict.proofs.WordTests.{has_lacks, lacks_has, none_lacks, lacks_none, none_clash, none_free}
use Rattle.verdict.proofs.JudgeLaws.{bad_set, short_scratch, judged}
use Rattle.promise.specs.Verdicts.{FirstNoVector}
use Rattle.promise.specs.Clash.{NamesNone, judge_unnamed, ClashNamed}
use Rattle.promise.proofs.Numbers.{apart}
use Rattle.promise.proofs.Clashes.{lowest_iff, none_iff}
use Rattle.promise.proofs.ExactVerdicts.{without_iff}

module _ (s : Set) where
  -- the first word without a safe vector, or 2 ^ r
  abbrev lacking : ℕ
  lacking = first (2 ^ s.r) (lacks s)

  -- the verdict where every word has one
  abbrev ends : Verdict
  ends = endless_at s (first (2 ^ s.r) (has_endless s))

  -- it is not 22
  ends_not : (w : ℕ) → verdict_told ends ≢ 22 ∷ w ∷ []
  unfolding endless_at
  ends_not w = go (ltb (first (2 ^ s.r) (has_endless s)) (2 ^ s.r))
    where
      go : (b : Bool) → verdict_told (cond b (NoEnd (first (2 ^ s.r) (has_endless s)) (first (2 ^ s.n) (endless s (first (2 ^ s.r) (has_endless s))))) Accepted) ≢ 22 ∷ w ∷ []
      go true = apart 23 22 (_ ∷ _ ∷ []) (w ∷ []) refl
      go false = apart 0 22 [] (w ∷ []) refl

  -- ---- by the first tests

  module _ (room : ℕ) where
    was_bad : well_formed s ≡ false → judge_unnamed s room ≡ BadSet
    unfolding judge_unnamed
    was_bad e = rw e

    module _ (ok : well_formed s ≡ true) where
      was_short : room < scratch_bytes s.n → judge_unnamed s room ≡ ShortScratch
      unfolding judge_unnamed
      was_short h = rw (ok, lt-ltb room (scratch_bytes s.n) h)

      module _ (enough : scratch_bytes s.n ≤ room) where
        was_tried : judge_unnamed s room ≡ cond (ltb lacking (2 ^ s.r)) (NoVector lacking) ends
        unfolding judge_unnamed
        was_tried = rw (ok, le-ltb room (scratch_bytes s.n) enough)

        is_tried : judge_of s room ≡ cond (ltb lacking (2 ^ s.r)) (none_at s lacking) ends
        unfolding judge_words vector_at
        is_tried = sym (judged s room ok enough)

        -- a word without a safe vector
        module _ (t : ltb lacking (2 ^ s.r) ≡ true) where
          was_none : judge_unnamed s room ≡ NoVector lacking
          was_none = was_tried ∙ ap (λ (b : Bool). cond b (NoVector lacking) ends) t

          is_none : judge_of s room ≡ none_at s lacking
          is_none = is_tried ∙ ap (λ (b : Bool). cond b (none_at s lacking) ends) t

          names : NamesNone s lacking (verdict_told (judge_of s room))
          names =
              by_reckoned (F0 s lacking) (F1 s lacking)
              (λ k l. inr (k, ap verdict_told (is_none ∙ none_clash s lacking k l), (lowest_iff s ok lacking k).0 l))
              (λ n. inl (ap verdict_told (is_none ∙ none_free s lacking n), (none_iff s ok lacking).0 n))

          first_without : FirstNoVector s lacking
          first_without =
              let f = first_spec (2 ^ s.r) (lacks s) in
              (without_iff s ok lacking).0
              (record { within = ltb-true _ _ t; before = λ u h. lacks_has s u (f.before u h); none = lacks_none s lacking (f.here (ltb-true _ _ t)) })

        -- or none
        same_ends : ltb lacking (2 ^ s.r) ≡ false → (judge_of s room ≡ ends) × (judge_unnamed s room ≡ ends)
        same_ends t = (
          is_tried ∙ ap (λ (b : Bool). cond b (none_at s lacking) ends) t,
          was_tried ∙ ap (λ (b : Bool). cond b (NoVector lacking) ends) t,
        )

        lacking_is : (w : ℕ) → FirstNoVector s w → lacking ≡ w
        lacking_is w m =
            let f = (without_iff s ok w).1 m in
            first_is (2 ^ s.r) w (lacks s) f.within (none_lacks s w f.none) (λ u l. has_lacks s u (f.before u l))

        word_iff : (w : ℕ) → (verdict_told (judge_unnamed s room) ≡ 22 ∷ w ∷ []) ↔ FirstNoVector s w
        word_iff w = (
          λ e. by_test (ltb lacking (2 ^ s.r))
              (λ t. subst (FirstNoVector s) (told_same (sym (ap verdict_told (was_none t)) ∙ e)) (first_without t))
              (λ t. absurd (ends_not w (sym (ap verdict_told (same_ends t).1) ∙ e))),
          λ m.
              let is = lacking_is w m in
              ap verdict_told (was_none (ap (λ (k : ℕ). ltb k (2 ^ s.r)) is ∙ lt-ltb w (2 ^ s.r) m.within)) ∙ ap (λ (k : ℕ). 22 ∷ k ∷ []) is,
        )
          where
            told_same : 22 ∷ lacking ∷ [] ≡ 22 ∷ w ∷ [] → lacking ≡ w
            told_same e = cc

  -- ---- beside each other

  pub clash_named : (room : ℕ) → ClashNamed s room
  clash_named room = record { was_word = word_iff room; named = named; kept = kept }
    where
      named : (w : ℕ) → verdict_told (judge_unnamed s room) ≡ 22 ∷ w ∷ [] → NamesNone s w (verdict_told (judge_of s room))
      named w e =
          by_test (well_formed s)
          (λ ok. by_test (ltb room (scratch_bytes s.n))
          (λ t. apart 21 22 [] (w ∷ []) refl (sym (ap verdict_told (was_short room ok (ltb-true _ _ t))) ∙ e))
          (λ t.
          let enough = ltb-false room (scratch_bytes s.n) t in
          let m = (word_iff room ok enough w).0 e in
          let is = lacking_is room ok enough w m in
          subst (λ (k : ℕ). NamesNone s k (verdict_told (judge_of s room))) is
          (names room ok enough (ap (λ (k : ℕ). ltb k (2 ^ s.r)) is ∙ lt-ltb w (2 ^ s.r) m.within))))
          (λ b. apart 20 22 [] (w ∷ []) refl (sym (ap verdict_told (was_bad room b)) ∙ e))

      kept : ((w : ℕ) → verdict_told (judge_unnamed s room) ≢ 22 ∷ w ∷ []) → judge_of s room ≡ judge_unnamed s room
      kept n =
          by_test (well_formed s)
          (λ ok. by_test (ltb room (scratch_bytes s.n))
          (λ t. sym (short_scratch s room ok (ltb-true _ _ t)) ∙ sym (was_short room ok (ltb-true _ _ t)))
          (λ t.
          let enough = ltb-false room (scratch_bytes s.n) t in
          by_test (ltb lacking (2 ^ s.r))
          (λ l. absurd (n lacking (ap verdict_told (was_none room ok enough l))))
          (λ l. (same_ends room ok enough l).0 ∙ sym (same_ends room ok enough l).1)))
          (λ b. sym (bad_set s room b) ∙ sym (was_bad room b))
