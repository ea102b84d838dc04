-- The tests of a read word, and what they mean: whether it has a safe vector, what it is rejected by where it has none, and whether the walk of a request, or of some
-- request, never is safe there.
-- Assumes nothing.
use mathlib.Core.Path.{◌≡◌, ap}
use mathlib.Core.Bool.{true, false, not}
use Prim.Native.Nat.{ℕ, ◌^◌, ◌<◌}
use borrow.Author.Tests.{not-false}
use Rattle.words.proofs.BoolLaws.{by_test, clash}
use Rattle.words.proofs.LoopLaws.{some_true, some_false, some_at, some_false_at}
use Rattle.scan.specs.declared.set.Set.{Set}
use Rattle.scan.specs.Shape.{well_formed}
use Rattle.scan.specs.Constraint.{safe, has_vector, HasSafe}
use Rattle.scan.specs.Holds.{F0, F1, LowestBoth, NoneBoth}
use Rattle.scan.specs.Walk.{Reaches}
use Rattle.scan.proofs.HoldsLaws.{reckoned_clash, reckoned_forced}
use Rattle.scan.proofs.WalkLaws.{walk_due, walk_endless, reaches_or_never}
use Rattle.verdict.specs.declared.verdict.Verdict.TheVariants.{NoVector, Clash}
use Rattle.verdict.specs.Judge.{is_never, endless, lacks, has_endless, none_by, none_at}

module _ (s : Set) where
  -- ---- a safe vector

  pub has_vector_law : (w : ℕ) → HasSafe s w → has_vector s w ≡ true
  unfolding has_vector
  has_vector_law w h = some_true (2 ^ s.n) (safe s w) h.0 h.1 h.2

  pub vector_of : (w : ℕ) → has_vector s w ≡ true → HasSafe s w
  unfolding has_vector
  vector_of w e = some_at (2 ^ s.n) (safe s w) e

  pub vector_or_none : (w : ℕ) → Dec (HasSafe s w)
  vector_or_none w = by_test (has_vector s w) (λ e. yes (vector_of w e)) (λ e. no (λ h. clash (has_vector_law w h) e))

  pub no_vector : (w : ℕ) → (¬ HasSafe s w) → has_vector s w ≡ false
  no_vector w n = by_test (has_vector s w) (λ e. absurd (n (vector_of w e))) (λ e. e)

  pub has_lacks : (w : ℕ) → HasSafe s w → lacks s w ≡ false
  unfolding lacks
  has_lacks w h = ap not (has_vector_law w h)

  pub lacks_has : (w : ℕ) → lacks s w ≡ false → HasSafe s w
  unfolding lacks
  lacks_has w e = vector_of w (not-false (has_vector s w) e)

  pub none_lacks : (w : ℕ) → (¬ HasSafe s w) → lacks s w ≡ true
  unfolding lacks
  none_lacks w n = ap not (no_vector w n)

  pub lacks_none : (w : ℕ) → lacks s w ≡ true → ¬ HasSafe s w
  lacks_none w e h = clash e (has_lacks w h)

  -- ---- the rejection by a word that has none

  pub none_clash : (w k : ℕ) → LowestBoth (F0 s w) (F1 s w) k → none_at s w ≡ Clash w k
  unfolding none_at
  none_clash w k l = ap (none_by w) (reckoned_clash (F0 s w) (F1 s w) k l)

  pub none_free : (w : ℕ) → NoneBoth (F0 s w) (F1 s w) → none_at s w ≡ NoVector w
  unfolding none_at
  none_free w n = ap (none_by w) (reckoned_forced (F0 s w) (F1 s w) n)

  -- ---- walks that end

  module _ (ok : well_formed s ≡ true) where
    pub ends_of : (w g : ℕ) → g < 2 ^ s.n → Reaches s w g → endless s w g ≡ false
    unfolding endless
    ends_of w g h r = ap is_never (walk_due s ok w g h r).walked

    pub endless_of : (w g : ℕ) → g < 2 ^ s.n → (¬ Reaches s w g) → endless s w g ≡ true
    unfolding endless
    endless_of w g h n = ap is_never (walk_endless s ok w g h n)

    pub reaches_of : (w g : ℕ) → g < 2 ^ s.n → endless s w g ≡ false → Reaches s w g
    reaches_of w g h e = go (reaches_or_never s ok w g h)
      where
        go : Dec (Reaches s w g) → Reaches s w g
        go (yes r) = r
        go (no n) = clash (endless_of w g h n) e

    pub never_of : (w g : ℕ) → g < 2 ^ s.n → endless s w g ≡ true → ¬ Reaches s w g
    never_of w g h e r = clash e (ends_of w g h r)

    pub all_end : (w : ℕ) → ((g : ℕ) → g < 2 ^ s.n → Reaches s w g) → has_endless s w ≡ false
    unfolding has_endless
    all_end w f = some_false (2 ^ s.n) (endless s w) (λ g h. ends_of w g h (f g h))

    pub end_all : (w : ℕ) → has_endless s w ≡ false → (g : ℕ) → g < 2 ^ s.n → Reaches s w g
    unfolding has_endless
    end_all w e g h = reaches_of w g h (some_false_at (2 ^ s.n) (endless s w) e g h)

    pub one_never : (w g : ℕ) → g < 2 ^ s.n → (¬ Reaches s w g) → has_endless s w ≡ true
    unfolding has_endless
    one_never w g h n = some_true (2 ^ s.n) (endless s w) g h (endless_of w g h n)
