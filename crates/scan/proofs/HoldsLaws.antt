-- What the masks of a read word mean, output by output, in document 01's words; they have no bit at n or above. And what the reckoning of holds says of two masks.
-- Assumes nothing.
use mathlib.Core.Path.{◌≡◌, refl, sym, ap, ap₂, ◌∙◌, subst}
use mathlib.Core.Bool.{Bool, true, false, cond, not, ◌&&◌, ◌||◌}
use mathlib.Core.Logic.{◌⊎◌, inl, inr, ⊎_elim}
use Prim.Native.Nat.{ℕ, ◌+◌, ◌-◌, ◌^◌, ◌<◌}
use native.Mathlib.Nat.{lt_of_le_of_lt}
use native.Mathlib.Decide.{dec_lt}
use native.Mathlib.Omega.{arith}
use lib.Pow.{pow_pos, ones_lt}
use lib.Bits.{bit_and, bit_or, or_lt, xor_lt, and_le_l}
use borrow.Author.Tests.{lt-ltb}
use Rattle.words.specs.Word.{bit, low, without, popcount}
use Rattle.words.specs.Loop.{some, count, first}
use Rattle.words.proofs.BoolLaws.{and_true}
use Rattle.words.proofs.BitLaws.{bit_of_or, bit_without, bit_above}
use Rattle.words.proofs.PopcountLaws.{ones_count, count_cong, count_beyond}
use Rattle.words.proofs.LoopLaws.{bit_gather, bit_cond, bit_low, some_cong, gather_lt, First, first_spec, first_is, first_none}
use Rattle.scan.specs.declared.set.Set.{Set}
use Rattle.scan.specs.declared.holds.Holds.{Holds}
use Rattle.scan.specs.declared.holds.Holds.TheVariants.{Forced, Clash}
use Rattle.scan.specs.Set.{constraint}
use Rattle.scan.specs.Shape.{well_formed}
use Rattle.scan.specs.Holds.{holding, to_zero, to_one, F0, F1, both_ways, reckoned, LowestBoth, NoneBoth, unheld_by, unheld, unheld_count, start_from, start_vector}
use Rattle.scan.proofs.ShapeLaws.{counts, masks}

-- ---- the bits

-- an output is held if F0 or F1 of it is true
abbrev pub held : Set → ℕ → ℕ → Bool
held s w k = bit k (F0 s w) || bit k (F1 s w)

module _ (s : Set) (w k : ℕ) where
  -- F0 of output k: the read literals of some simple constraint with that output plain are all true
  pub f0_bit : bit k (F0 s w) ≡ some s.m (λ i. holding s w i && bit k (constraint s i).out_plain)
  unfolding F0 to_zero
  f0_bit = bit_gather k s.m (to_zero s w) ∙ some_cong s.m _ _ (λ i h. bit_cond (holding s w i) k (constraint s i).out_plain)

  -- F1 of output k: likewise with it negated
  pub f1_bit : bit k (F1 s w) ≡ some s.m (λ i. holding s w i && bit k (constraint s i).out_negated)
  unfolding F1 to_one
  f1_bit = bit_gather k s.m (to_one s w) ∙ some_cong s.m _ _ (λ i h. bit_cond (holding s w i) k (constraint s i).out_negated)

  -- the start vector is (not F0 and request) or F1
  pub start_bit : (request : ℕ) → bit k (start_vector s w request) ≡ (bit k request && not (bit k (F0 s w))) || bit k (F1 s w)
  unfolding start_vector start_from
  start_bit g = bit_of_or k (without g (F0 s w)) (F1 s w) ∙ ap (λ (b : Bool). b || bit k (F1 s w)) (bit_without k g (F0 s w))

  -- an output is unheld if it is not held
  pub unheld_bit : k < s.n → bit k (unheld s w) ≡ not (held s w k)
  unfolding unheld unheld_by
  unheld_bit h =
      bit_without k (low s.n) (bit_or (F0 s w) (F1 s w))
      ∙ ap₂ (λ (a b : Bool). a && not b) (bit_low s.n k h) (bit_of_or k (F0 s w) (F1 s w))

-- ---- the reckoning of holds

module _ (f0 f1 : ℕ) where
  pub reckoned_clash : (k : ℕ) → LowestBoth f0 f1 k → reckoned f0 f1 ≡ Clash k
  unfolding reckoned both_ways
  reckoned_clash k l = rw (first_is 16 k (both_ways f0 f1) l.fits (ap₂ ◌&&◌ l.off l.on) l.before, lt-ltb k 16 l.fits)

  pub reckoned_forced : NoneBoth f0 f1 → reckoned f0 f1 ≡ Forced f0 f1
  unfolding reckoned
  reckoned_forced n = rw (first_none 16 (both_ways f0 f1) n)

  -- it is one or the other
  lowest_or_none : ((k : ℕ) × LowestBoth f0 f1 k) ⊎ NoneBoth f0 f1
  unfolding both_ways
  lowest_or_none = go (first 16 (both_ways f0 f1)) (first_spec 16 (both_ways f0 f1)) (dec_lt (first 16 (both_ways f0 f1)) 16)
    where
      go : (k : ℕ) → First 16 (both_ways f0 f1) k → Dec (k < 16) → ((j : ℕ) × LowestBoth f0 f1 j) ⊎ NoneBoth f0 f1
      go k f (yes h) =
          let both = and_true (bit k f0) (bit k f1) (f.here h) in
          inl (k, record { fits = h; off = both.0; on = both.1; before = f.before })
      go k f (no nh) = inr (λ j h. f.before j (omega arith))

  pub by_reckoned {ℓ} : {C : Type ℓ} → ((k : ℕ) → LowestBoth f0 f1 k → C) → (NoneBoth f0 f1 → C) → C
  by_reckoned lowest none = ⊎_elim (λ x. lowest x.0 x.1) none lowest_or_none

  -- ---- and what it says tells which

  -- by an answer: the two masks, and no output in both; or the lowest output that both have
  abbrev Says : Holds → Type 0
  Says (Forced a b) = (f0 ≡ a) × (f1 ≡ b) × NoneBoth f0 f1
  Says (Clash k) = LowestBoth f0 f1 k

  pub reckoned_says : (h : Holds) → reckoned f0 f1 ≡ h → Says h
  reckoned_says h e =
      by_reckoned
      (λ k l. subst Says (sym (reckoned_clash k l) ∙ e) l)
      (λ n. subst Says (sym (reckoned_forced n) ∙ e) (refl, refl, n))

-- ---- no bit at n or above

cond_lt : (b : Bool) (x n : ℕ) → x < 2 ^ n → cond b x 0 < 2 ^ n
cond_lt true x n h = h
cond_lt false x n h = pow_pos n

pub without_lt : (n a b : ℕ) → a < 2 ^ n → without a b < 2 ^ n
unfolding without
without_lt n a b h = xor_lt n a (bit_and a b) h (lt_of_le_of_lt (and_le_l a b) h)

module _ (s : Set) (w : ℕ) where
  pub unheld_lt : unheld s w < 2 ^ s.n
  unfolding unheld unheld_by
  unheld_lt = without_lt s.n (low s.n) (bit_or (F0 s w) (F1 s w)) (ones_lt s.n)

  module _ (ok : well_formed s ≡ true) where
    pub f0_lt : F0 s w < 2 ^ s.n
    unfolding F0 to_zero
    f0_lt = gather_lt s.n s.m (to_zero s w) (λ i h. cond_lt (holding s w i) _ s.n (masks s ok i h).out_plain)

    pub f1_lt : F1 s w < 2 ^ s.n
    unfolding F1 to_one
    f1_lt = gather_lt s.n s.m (to_one s w) (λ i h. cond_lt (holding s w i) _ s.n (masks s ok i h).out_negated)

    pub start_lt : (request : ℕ) → request < 2 ^ s.n → start_vector s w request < 2 ^ s.n
    unfolding start_vector start_from
    start_lt g h = or_lt s.n (without g (F0 s w)) (F1 s w) (without_lt s.n g (F0 s w) h) f1_lt

    -- ---- f is the number of outputs below n that are not held

    pub unheld_counted : unheld_count s w ≡ count s.n (λ k. not (held s w k))
    unfolding unheld_count popcount
    unheld_counted =
        ones_count 16 (unheld s w)
        ∙ ap (λ (x : ℕ). count x (λ k. bit k (unheld s w))) width
        ∙ count_beyond s.n (16 - s.n) (λ k. bit k (unheld s w)) (λ k l. bit_above s.n k (unheld s w) unheld_lt l)
        ∙ count_cong s.n _ _ (λ k h. unheld_bit s w k h)
      where
        width : 16 ≡ s.n + (16 - s.n)
        width = omega (arith, (counts s ok).n_le)
