-- Change request K10: outputs forced both ways, and what the reckoning of holds answers.
-- Assumes nothing.
use mathlib.Core.Path.{◌≡◌, refl, sym, ap, ap₂, ◌∙◌, subst}
use mathlib.Core.Bool.{true, false, ◌&&◌}
use mathlib.Core.List.{[], ◌∷◌}
use mathlib.Core.Logic.{◌↔◌}
use Prim.Native.Nat.{ℕ, ◌^◌, ◌<◌}
use native.Mathlib.Omega.{arith}
use Rattle.words.specs.Word.{bit}
use Rattle.words.proofs.BoolLaws.{clash, and_true, same_truth}
use Rattle.words.proofs.BitLaws.{same_bits, bit_below}
use Rattle.scan.specs.declared.set.Set.{Set}
use Rattle.scan.specs.declared.holds.Holds.{Holds}
use Rattle.scan.specs.declared.holds.Holds.TheVariants.{Forced, Clash}
use Rattle.scan.specs.Shape.{well_formed}
use Rattle.scan.specs.Holds.{F0, F1, both_ways, LowestBoth, NoneBoth, holds_of}
use Rattle.scan.specs.Told.{holds_told}
use Rattle.scan.specs.way.Holds.{holds_at}
use Rattle.scan.proofs.ShapeLaws.{counts}
use Rattle.scan.proofs.HoldsLaws.{f0_lt, f1_lt, reckoned_clash, reckoned_forced, by_reckoned, reckoned_says}
use Rattle.scan.proofs.SafeLaws.{clash_unsafe}
use Rattle.scan.proofs.ActiveLaws.{holds_at_law}
use Rattle.scan.proofs.TableLaws.{table_holds, table_stopped}
use Rattle.promise.specs.Terms.{Bit, Safe, HeldOff, HeldOn, BothWays}
use Rattle.promise.specs.Clash.{LowestClash, NoClash, ForcedWords, HoldsAnswer, Reckoning}
use Rattle.promise.proofs.Numbers.{apart, fails_not}
use Rattle.promise.proofs.Bits.{bit_set, set_bit}
use Rattle.promise.proofs.ConstraintMeanings.{safe_iff}
use Rattle.promise.proofs.HoldMeanings.{f0_iff, f1_iff}

-- ---- an answer is told by its number and values

told_clash : (h : Holds) (k : ℕ) → holds_told h ≡ 58 ∷ k ∷ [] → h ≡ Clash k
told_clash (Forced a b) k e = apart 0 58 (a ∷ b ∷ []) (k ∷ []) refl e
told_clash (Clash j) k e = let f : j ≡ k = cc in ap Clash f

told_forced : (h : Holds) (f0 f1 : ℕ) → holds_told h ≡ 0 ∷ f0 ∷ f1 ∷ [] → h ≡ Forced f0 f1
told_forced (Forced a b) f0 f1 e = cc
told_forced (Clash j) f0 f1 e = apart 58 0 (j ∷ []) (f0 ∷ f1 ∷ []) refl e

module _ (s : Set) (ok : well_formed s ≡ true) (w : ℕ) where
  -- ---- an output forced both ways

  both_iff : (k : ℕ) → (both_ways (F0 s w) (F1 s w) k ≡ true) ↔ BothWays s w k
  unfolding both_ways
  both_iff k = (
    λ e. let b = and_true (bit k (F0 s w)) (bit k (F1 s w)) e in ((f0_iff s ok w k).0 b.0, (f1_iff s ok w k).0 b.1),
    λ b. ap₂ ◌&&◌ ((f0_iff s ok w k).1 b.0) ((f1_iff s ok w k).1 b.1),
  )

  not_both : (k : ℕ) → (both_ways (F0 s w) (F1 s w) k ≡ false) ↔ (¬ BothWays s w k)
  not_both k = fails_not (both_ways (F0 s w) (F1 s w) k) (both_iff k)

  -- it is one of the outputs
  output_fits : (k : ℕ) → BothWays s w k → k < 16
  output_fits k b =
      let below = bit_below s.n k (F0 s w) (f0_lt s w ok) ((f0_iff s ok w k).1 b.0) in
      omega (arith, below, (counts s ok).n_le)

  pub lowest_iff : (k : ℕ) → LowestBoth (F0 s w) (F1 s w) k ↔ LowestClash s w k
  lowest_iff k = (
    λ l. record { here = ((f0_iff s ok w k).0 l.off, (f1_iff s ok w k).0 l.on); before = λ j h. (not_both j).0 (l.before j h) },
    λ l. record {
      fits = output_fits k l.here;
      off = (f0_iff s ok w k).1 l.here.0;
      on = (f1_iff s ok w k).1 l.here.1;
      before = λ j h. (not_both j).1 (l.before j h);
    },
  )

  pub none_iff : NoneBoth (F0 s w) (F1 s w) ↔ NoClash s w
  none_iff = (λ n k b. (not_both k).0 (n k (output_fits k b)) b, λ n k h. (not_both k).1 (n k))

  -- no vector is safe where there is one
  pub both_unsafe : (k : ℕ) → BothWays s w k → (v : ℕ) → ¬ Safe s w v
  both_unsafe k b v safe = clash ((safe_iff s ok w v).1 safe) (clash_unsafe s w v ok k ((f0_iff s ok w k).1 b.0) ((f1_iff s ok w k).1 b.1))

  -- ---- the words of forced outputs

  forced_words : ForcedWords s w (F0 s w) (F1 s w)
  forced_words = record {
    off = λ k. (λ b. (f0_iff s ok w k).0 (set_bit k (F0 s w) b), λ a. bit_set k (F0 s w) ((f0_iff s ok w k).1 a));
    on = λ k. (λ b. (f1_iff s ok w k).0 (set_bit k (F1 s w) b), λ a. bit_set k (F1 s w) ((f1_iff s ok w k).1 a));
    off_fits = f0_lt s w ok;
    on_fits = f1_lt s w ok;
  }

  -- two words below 2 ^ n that say the same of each output are one
  one_word : (P : ℕ → Type 0) (a b : ℕ) → a < 2 ^ s.n → b < 2 ^ s.n → ((k : ℕ) → (bit k a ≡ true) ↔ P k) → ((k : ℕ) → Bit k b ↔ P k) → a ≡ b
  one_word P a b la lb pa pb =
      same_bits s.n a b la lb (λ k h. same_truth (bit k a) (bit k b) (λ e. set_bit k b ((pb k).1 ((pa k).0 e))) (λ e. (pa k).1 ((pb k).0 (bit_set k b e))))

  words_are : (f0 f1 : ℕ) → ForcedWords s w f0 f1 → (F0 s w ≡ f0) × (F1 s w ≡ f1)
  words_are f0 f1 f = (
    one_word (HeldOff s w) (F0 s w) f0 (f0_lt s w ok) f.off_fits (f0_iff s ok w) f.off,
    one_word (HeldOn s w) (F1 s w) f1 (f1_lt s w ok) f.on_fits (f1_iff s ok w) f.on,
  )

  -- ---- the reckoning

  pub answer_right : (h : Holds) → h ≡ holds_of s w → HoldsAnswer s w h
  answer_right h e = record {
    clash = λ k. (
      λ t. (lowest_iff k).0 (reckoned_says (F0 s w) (F1 s w) (Clash k) (sym e ∙ told_clash h k t)),
      λ l. ap holds_told (e ∙ reckoned_clash (F0 s w) (F1 s w) k ((lowest_iff k).1 l)),
    );
    forced = λ f0 f1. (
      λ t.
          let m = reckoned_says (F0 s w) (F1 s w) (Forced f0 f1) (sym e ∙ told_forced h f0 f1 t) in
          (none_iff.0 m.2, subst (λ (x : ℕ). ForcedWords s w x f1) m.0 (subst (ForcedWords s w (F0 s w)) m.1 forced_words)),
      λ x.
          let m = words_are f0 f1 x.1 in
          ap holds_told (e ∙ reckoned_forced (F0 s w) (F1 s w) (none_iff.1 x.0) ∙ ap₂ Forced m.0 m.1),
    );
  }

  pub reckoning : Reckoning s w
  reckoning = record {
    answers = answer_right (holds_of s w) refl;
    made = answer_right (holds_at s w) (holds_at_law s ok w);
    unsafe = λ k b h. both_unsafe k b h.0 h.2;
    no_pass = λ k b.
        by_reckoned (F0 s w) (F1 s w)
        (λ j l. table_stopped s w ok j (table_holds s w ok ∙ reckoned_clash (F0 s w) (F1 s w) j l))
        (λ n. absurd (none_iff.0 n k b));
  }
