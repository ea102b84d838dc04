-- Words with the same active constraints fail alike, and lack a safe vector alike, and so a mask that is kept of a word that passes the test tells that every
-- word with it does.
-- Assumes nothing.
use mathlib.Core.Path.{◌≡◌, sym, ap, ap₂, ◌∙◌, subst}
use mathlib.Core.Bool.{Bool, true, false, not, ◌&&◌, ◌||◌}
use mathlib.Core.List.{List}
use Prim.Native.Nat.{ℕ, ◌^◌, ◌<◌}
use native.Mathlib.Nat.{mod-lt}
use native.Mathlib.Decide.{ℕ_discrete}
use native.Mathlib.Omega.{arith}
use lib.ListN.{length, get_or, replicate, length-set, length-replicate}
use lib.Seq.{get_or-set_same, get_or-set_other}
use lib.Pow.{pow_pos}
use borrow.Author.Tests.{eqb-true}
use Rattle.words.specs.Word.{bit}
use Rattle.words.proofs.BoolLaws.{or_false}
use Rattle.words.proofs.BitLaws.{bit_zero}
use Rattle.words.specs.Loop.{some}
use Rattle.words.proofs.ListLaws.{zeros_any}
use Rattle.words.proofs.LoopLaws.{some_true, some_false, some_cong}
use Rattle.scan.specs.declared.set.Set.{Set}
use Rattle.scan.specs.Set.{constraint}
use Rattle.scan.specs.Shape.{well_formed}
use Rattle.scan.specs.Constraint.{outs_true, is_true, true_at, safe, has_vector}
use Rattle.scan.specs.Active.{active_of}
use Rattle.scan.specs.Holds.{unheld_count}
use Rattle.scan.specs.Walk.{after}
use Rattle.scan.proofs.ActiveLaws.{active_bit}
use Rattle.scan.proofs.TableLaws.{same_safe, same_walk}
use Rattle.scan.proofs.WalkLaws.{walk_safe}
use Rattle.verdict.specs.Judge.{is_never, endless, lacks}
use Rattle.verdict.specs.FirstFailing.{fails}
use Rattle.verdict.specs.way.Seen.{places, place_of, is_seen, with_seen, Known}
use Rattle.verdict.proofs.FirstFailingLaws.{passes}

-- ---- masks that are kept of words that pass any test which words with the same active constraints share

module _ (s : Set) (bad : ℕ → Bool) where
  -- a word whose mask is kept passes
  pub known_hit : (seen : List ℕ) → Known s bad seen → (w active : ℕ) → active ≡ active_of s w → is_seen seen active ≡ true → bad w ≡ false
  known_hit seen known w active ea e = known.passed (place_of active) w (sym ea ∙ sym (eqb-true (get_or seen (place_of active) 0) active e))

  -- and the mask of a word that passes may be kept
  pub known_more : ((u w : ℕ) → active_of s u ≡ active_of s w → bad u ≡ bad w) → (seen : List ℕ) → Known s bad seen
      → (w active : ℕ) → active ≡ active_of s w → bad w ≡ false → (x : List ℕ) → x ≡ with_seen seen active → Known s bad x
  known_more alike seen known w active ea passed x ex = subst (Known s bad) (sym ex) (record {
    long = length-set seen (place_of active) active ∙ known.long;
    passed = λ k u e. go k u e (ℕ_discrete k (place_of active));
  })
    where
      room : place_of active < length seen
      room = subst (λ (n : ℕ). place_of active < n) (sym known.long) (mod-lt active (omega arith))

      go : (k u : ℕ) → active_of s u ≡ get_or (with_seen seen active) k 0 → Dec (k ≡ place_of active) → bad u ≡ false
      go k u e (yes q) =
          alike u w (e ∙ ap (λ (j : ℕ). get_or (with_seen seen active) j 0) q ∙ get_or-set_same seen (place_of active) active 0 room ∙ ea) ∙ passed
      go k u e (no nq) = known.passed k u (e ∙ get_or-set_other seen (place_of active) k active 0 nq)

-- ---- the two tests: a word fails, and a word lacks a safe vector

-- a word that does not fail has a safe vector
pub known_vectors : (s : Set) (seen : List ℕ) → Known s (fails s) seen → Known s (lacks s) seen
unfolding fails lacks
known_vectors s seen known = record {
  long = known.long;
  passed = λ k u e. (or_false (not (has_vector s u)) (some (2 ^ s.n) (endless s u)) (known.passed k u e)).0;
}

module _ (s : Set) (ok : well_formed s ≡ true) where
  vector_alike : (u w : ℕ) → active_of s u ≡ active_of s w → has_vector s u ≡ has_vector s w
  unfolding has_vector
  vector_alike u w e = some_cong (2 ^ s.n) (safe s u) (safe s w) (λ v h. same_safe s ok u w e v)

  pub lacks_alike : (u w : ℕ) → active_of s u ≡ active_of s w → lacks s u ≡ lacks s w
  unfolding lacks
  lacks_alike u w e = ap not (vector_alike u w e)

  pub fails_alike : (u w : ℕ) → active_of s u ≡ active_of s w → fails s u ≡ fails s w
  unfolding fails endless
  fails_alike u w e =
      ap₂ (λ (a b : Bool). not a || b) (vector_alike u w e)
      (some_cong (2 ^ s.n) (endless s u) (endless s w) (λ g h. ap is_never (same_walk s ok u w e g)))

  -- where no constraint is active every vector is safe, and the word is good
  idle_safe : (w : ℕ) → active_of s w ≡ 0 → (v : ℕ) → safe s w v ≡ true
  unfolding safe true_at is_true
  idle_safe w e v =
      ap not (some_false s.m (true_at s w v)
      (λ i h. ap (λ (b : Bool). b && outs_true (constraint s i) v) (sym (active_bit s w i h) ∙ ap (bit i) e ∙ bit_zero i)))

  idle : (w : ℕ) → active_of s w ≡ 0 → fails s w ≡ false
  unfolding has_vector endless
  idle w e =
      passes s w (some_true (2 ^ s.n) (safe s w) 0 (pow_pos s.n) (idle_safe w e 0))
      (λ g h. ap is_never
      (walk_safe s w g ok 0 (pow_pos (unheld_count s w)) (record { here = idle_safe w e (after s w g 0); before = λ j l. absurd (omega arith) })))

  -- zeros are the masks of words where no constraint is active
  pub known_none : Known s (fails s) (replicate places 0)
  known_none = record { long = length-replicate {A = ℕ} places 0; passed = λ k u e. idle u (e ∙ zeros_any places k) }
