-- Which outputs of a constraint yield: of `own`, those of the lowest rank.
-- Assumes nothing.
use mathlib.Core.Path.{◌≡◌, refl, sym, ap, ◌∙◌}
use mathlib.Core.Bool.{Bool, true, false, cond, ◌&&◌}
use mathlib.Core.Logic.{◌⊎◌, inl, inr}
use Prim.Native.Nat.{ℕ, zero, suc, ◌^◌, ◌≤◌, ◌<◌, min}
use native.Mathlib.Nat.{min-le_left, min-le_right, min-eq_left, min-eq_right, le_trans, not-suc-le-zero, le_refl}
use native.Mathlib.Decide.{dec_le, dec_lt}
use native.Mathlib.Numerals.{add-one}
use native.Mathlib.Omega.{arith}
use lib.Bits.{bit_or, or_zero_r}
use lib.Dec.{eqb}
use Rattle.words.specs.Word.{bit}
use Rattle.words.specs.Loop.{gather, bit_if, word}
use Rattle.words.proofs.BitLaws.{bit_above}
use Rattle.words.proofs.BoolLaws.{by_test, clash}
use Rattle.words.proofs.LoopLaws.{below_suc, bit_word, word_lt, still}
use Rattle.scan.specs.declared.set.Constraint.{Constraint}
use Rattle.scan.specs.Set.{rank}
use Rattle.scan.specs.Pass.{lowest, has_rank, yielding}

module _ (c : Constraint) (own : ℕ) where
  lowest_set : (n : ℕ) → bit n own ≡ true → lowest c own (suc n) ≡ min (lowest c own n) (rank c n)
  unfolding lowest
  lowest_set n e = rw e

  lowest_clear : (n : ℕ) → bit n own ≡ false → lowest c own (suc n) ≡ lowest c own n
  unfolding lowest
  lowest_clear n e = rw e

  lowest_falls : (n : ℕ) → lowest c own (suc n) ≤ lowest c own n
  lowest_falls n = by_test (bit n own) (λ e. rw (lowest_set n e) (min-le_left (lowest c own n) (rank c n))) (λ e. rw (lowest_clear n e) (le_refl (lowest c own n)))

  -- no output of `own` has a lower rank than the lowest
  pub lowest_le : (n k : ℕ) → k < n → bit k own ≡ true → lowest c own n ≤ rank c k
  lowest_le zero k h e = absurd (not-suc-le-zero h)
  lowest_le (suc n) k h e =
      below_suc (λ (i : ℕ). bit i own ≡ true → lowest c own (suc n) ≤ rank c i) {n = n}
      (λ i l b. le_trans (lowest_falls n) (lowest_le n i l b))
      (λ b. rw (lowest_set n b) (min-le_right (lowest c own n) (rank c n))) k h e

  -- an output of `own` below n has the lowest rank; there is no output of `own` below n
  abbrev At : ℕ → Type 0
  At n = (j : ℕ) × (j < n) × (bit j own ≡ true) × (rank c j ≡ lowest c own n)

  abbrev None : ℕ → Type 0
  None n = (lowest c own n ≡ 256) × ((j : ℕ) → j < n → bit j own ≡ false)

  at_or_none : (n : ℕ) → ((j : ℕ) → j < n → rank c j < 256) → At n ⊎ None n
  unfolding lowest
  at_or_none zero small = inr (refl, λ j h. absurd (not-suc-le-zero h))
  at_or_none (suc n) small =
      by_test (bit n own) (λ b. set b (at_or_none n (λ j h. small j (omega arith))) (dec_le (rank c n) (lowest c own n)))
      (λ b. clear b (at_or_none n (λ j h. small j (omega arith))))
    where
      set : bit n own ≡ true → At n ⊎ None n → Dec (rank c n ≤ lowest c own n) → At (suc n) ⊎ None (suc n)
      set b a (yes h) = inl (n, omega arith, b, sym (lowest_set n b ∙ min-eq_right h))
      set b (inl a) (no nh) =
          let h : lowest c own n ≤ rank c n = omega arith in
          inl (a.0, omega arith, a.2, a.3 ∙ sym (lowest_set n b ∙ min-eq_left h))
      set b (inr f) (no nh) = absurd (omega (arith, small n (omega arith), f.0))

      clear : bit n own ≡ false → At n ⊎ None n → At (suc n) ⊎ None (suc n)
      clear b (inl a) = inl (a.0, omega arith, a.2, a.3 ∙ sym (lowest_clear n b))
      clear b (inr f) = inr (lowest_clear n b ∙ f.0, below_suc (λ (j : ℕ). bit j own ≡ false) {n = n} f.1 b)

  -- and some output of `own` has it, if there is one
  pub lowest_at : (n : ℕ) → ((j : ℕ) → j < n → rank c j < 256) → (k : ℕ) → k < n → bit k own ≡ true
      → (j : ℕ) × (j < n) × (bit j own ≡ true) × (rank c j ≡ lowest c own n)
  lowest_at n small k h e = go (at_or_none n small)
    where
      go : At n ⊎ None n → At n
      go (inl a) = a
      go (inr f) = clash e (f.1 k h)

  -- output k yields if it is one of `own` and its rank is the lowest
  pub yielding_bit : (n k : ℕ) → k < n → bit k (yielding n c own) ≡ bit k own && eqb (rank c k) (lowest c own n)
  unfolding yielding has_rank
  yielding_bit n k h = bit_word k n (has_rank c own (lowest c own n)) h

  pub yielding_lt : (n : ℕ) → yielding n c own < 2 ^ n
  unfolding yielding
  yielding_lt n = word_lt n (has_rank c own (lowest c own n))

  -- nothing but `own` yields
  pub yielding_own : (n k : ℕ) → bit k own ≡ false → bit k (yielding n c own) ≡ false
  yielding_own n k e = go (dec_lt k n)
    where
      go : Dec (k < n) → bit k (yielding n c own) ≡ false
      go (yes h) = yielding_bit n k h ∙ ap (λ (b : Bool). b && eqb (rank c k) (lowest c own n)) e
      go (no nh) = bit_above n k (yielding n c own) (yielding_lt n) (omega arith)

-- Outputs of `own` that are all below n are the same outputs below any more.
module _ (c : Constraint) (own n k : ℕ) (few : n ≤ k) (small : own < 2 ^ n) where
  lowest_wider : lowest c own k ≡ lowest c own n
  lowest_wider = still (lowest c own) n k few (λ j a b. ap (lowest c own) (add-one j) ∙ lowest_clear c own j (bit_above n j own small a))

  -- no output from n on has a rank
  none_beyond : (r j : ℕ) → n ≤ j → has_rank c own r j ≡ false
  unfolding has_rank
  none_beyond r j h = ap (λ (b : Bool). b && eqb (rank c j) r) (bit_above n j own small h)

  word_wider : (r : ℕ) → word k (has_rank c own r) ≡ word n (has_rank c own r)
  unfolding word gather bit_if
  word_wider r =
      let p = has_rank c own r in
      still (λ (j : ℕ). word j p) n k few
      (λ j a b. ap (λ (x : ℕ). word x p) (add-one j) ∙ ap (λ (t : Bool). bit_or (word j p) (cond t (2 ^ j) 0)) (none_beyond r j a) ∙ or_zero_r (word j p))

  pub yielding_wider : yielding k c own ≡ yielding n c own
  unfolding yielding
  yielding_wider = ap (λ (r : ℕ). word k (has_rank c own r)) lowest_wider ∙ word_wider (lowest c own n)
