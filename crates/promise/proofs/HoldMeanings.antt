-- Holds, f and the start vector, output by output.
-- Assumes nothing.
use mathlib.Core.Path.{◌≡◌, sym, ap, ap₂, ◌∙◌}
use mathlib.Core.Bool.{true, false, not, ◌&&◌, ◌||◌}
use mathlib.Core.Logic.{◌↔◌, ◌⊎◌, inl, inr, ⊎_elim}
use Prim.Native.Nat.{ℕ, ◌<◌}
use borrow.Author.Tests.{not-true}
use Rattle.words.specs.Word.{bit}
use Rattle.words.specs.Loop.{some}
use Rattle.words.proofs.BoolLaws.{by_test, clash, and_true, or_true, or_left, or_right}
use Rattle.words.proofs.LoopLaws.{some_at, some_true}
use Rattle.scan.specs.declared.set.Constraint.{Constraint}
use Rattle.scan.specs.declared.set.Set.{Set}
use Rattle.scan.specs.Set.{constraint}
use Rattle.scan.specs.Shape.{well_formed}
use Rattle.scan.specs.Constraint.{reads_true, simple}
use Rattle.scan.specs.Holds.{holding, F0, F1, unheld_count, start_vector}
use Rattle.scan.proofs.ShapeLaws.{masks}
use Rattle.scan.proofs.HoldsLaws.{held, f0_bit, f1_bit, start_bit, start_lt, unheld_counted}
use Rattle.promise.specs.Terms.{Bit, Simple, ReadsTrue, HeldOff, HeldOn, Held, IsUnheldCount}
use Rattle.promise.specs.Meanings.{HoldsMean}
use Rattle.promise.proofs.Bits.{bit_set, set_bit}
use Rattle.promise.proofs.ConstraintMeanings.{reads_iff, simple_iff}

module _ (s : Set) (ok : well_formed s ≡ true) (w : ℕ) where
  -- some simple constraint whose read literals are all true has output k in one of its masks
  abbrev HeldBy : (Constraint → ℕ) → ℕ → Type 0
  HeldBy mask k = (i : ℕ) × (i < s.m) × Simple (constraint s i) × ReadsTrue (constraint s i) w × Bit k (mask (constraint s i))

  held_by : (mask : Constraint → ℕ) (k : ℕ) → (some s.m (λ i. holding s w i && bit k (mask (constraint s i))) ≡ true) ↔ HeldBy mask k
  unfolding holding
  held_by mask k = (
    λ e.
        let at = some_at s.m _ e in
        let c = constraint s at.0 in
        let both = and_true (simple c && reads_true c w) (bit k (mask c)) at.2 in
        let holds = and_true (simple c) (reads_true c w) both.0 in (
          at.0,
          at.1,
          (simple_iff s ok at.0 at.1).0 holds.0,
          (reads_iff s.r s.n c (masks s ok at.0 at.1) w).0 holds.1,
          bit_set k (mask c) both.1,
        ),
    λ a.
        let c = constraint s a.0 in
        some_true s.m _ a.0 a.1
        (ap₂ ◌&&◌ (ap₂ ◌&&◌ ((simple_iff s ok a.0 a.1).1 a.2) ((reads_iff s.r s.n c (masks s ok a.0 a.1) w).1 a.3)) (set_bit k (mask c) a.4)),
  )

  pub f0_iff : (k : ℕ) → (bit k (F0 s w) ≡ true) ↔ HeldOff s w k
  f0_iff k = let by = held_by (λ (c : Constraint). c.out_plain) k in (λ e. by.0 (sym (f0_bit s w k) ∙ e), λ a. f0_bit s w k ∙ by.1 a)

  pub f1_iff : (k : ℕ) → (bit k (F1 s w) ≡ true) ↔ HeldOn s w k
  f1_iff k = let by = held_by (λ (c : Constraint). c.out_negated) k in (λ e. by.0 (sym (f1_bit s w k) ∙ e), λ a. f1_bit s w k ∙ by.1 a)

  -- an output is held, or it is not
  pub held_iff : (k : ℕ) → (held s w k ≡ true) ↔ Held s w k
  held_iff k = (
    λ e. by_test (bit k (F0 s w)) (λ p. inl ((f0_iff k).0 p)) (λ p. inr ((f1_iff k).0 (or_true (bit k (F0 s w)) (bit k (F1 s w)) e p))),
    ⊎_elim (λ a. or_left (bit k (F0 s w)) (bit k (F1 s w)) ((f0_iff k).1 a)) (λ a. or_right (bit k (F0 s w)) (bit k (F1 s w)) ((f1_iff k).1 a)),
  )

  pub unheld_iff : (k : ℕ) → (not (held s w k) ≡ true) ↔ (¬ Held s w k)
  unheld_iff k = (
    λ e a. clash ((held_iff k).1 a) (not-true (held s w k) e),
    λ n. by_test (held s w k) (λ e. absurd (n ((held_iff k).0 e))) (ap not),
  )

  counted : IsUnheldCount s w (unheld_count s w)
  counted = (λ k. not (held s w k), λ k h. unheld_iff k, unheld_counted s w ok)

  started : (request k : ℕ) → Bit k (start_vector s w request) ↔ (((¬ HeldOff s w k) × Bit k request) ⊎ HeldOn s w k)
  started request k = (
    λ b. by_test (bit k (F1 s w)) (λ p. inr ((f1_iff k).0 p)) (λ p. inl (by_request (row (bit_above b) p))),
    λ a. bit_set k (start_vector s w request) (start_bit s w k request ∙ ⊎_elim kept forced a),
  )
    where
      bit_above : Bit k (start_vector s w request) → (bit k request && not (bit k (F0 s w))) || bit k (F1 s w) ≡ true
      bit_above b = sym (start_bit s w k request) ∙ set_bit k (start_vector s w request) b

      row : (bit k request && not (bit k (F0 s w))) || bit k (F1 s w) ≡ true → bit k (F1 s w) ≡ false → bit k request && not (bit k (F0 s w)) ≡ true
      row e p = by_test (bit k request && not (bit k (F0 s w))) (λ q. q) (λ q. clash (or_true _ _ e q) p)

      by_request : bit k request && not (bit k (F0 s w)) ≡ true → (¬ HeldOff s w k) × Bit k request
      by_request e =
          let both = and_true (bit k request) (not (bit k (F0 s w))) e in
          (λ a. clash ((f0_iff k).1 a) (not-true (bit k (F0 s w)) both.1), bit_set k request both.0)

      kept : (¬ HeldOff s w k) × Bit k request → (bit k request && not (bit k (F0 s w))) || bit k (F1 s w) ≡ true
      kept a =
          or_left (bit k request && not (bit k (F0 s w))) (bit k (F1 s w))
          (ap₂ ◌&&◌ (set_bit k request a.1) (by_test (bit k (F0 s w)) (λ e. absurd (a.0 ((f0_iff k).0 e))) (ap not)))

      forced : HeldOn s w k → (bit k request && not (bit k (F0 s w))) || bit k (F1 s w) ≡ true
      forced a = or_right (bit k request && not (bit k (F0 s w))) (bit k (F1 s w)) ((f1_iff k).1 a)

  pub holds_mean : HoldsMean s w
  holds_mean = record {
    f0_when = λ k. (λ b. (f0_iff k).0 (set_bit k (F0 s w) b), λ a. bit_set k (F0 s w) ((f0_iff k).1 a));
    f1_when = λ k. (λ b. (f1_iff k).0 (set_bit k (F1 s w) b), λ a. bit_set k (F1 s w) ((f1_iff k).1 a));
    f_counts = counted;
    start_when = started;
    start_fits = start_lt s w ok;
  }
