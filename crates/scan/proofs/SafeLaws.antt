-- What a safe vector is: a safe request is its own start vector; where an output is forced both ways no vector is safe; and a vector is safe just where every held
-- output is as it is held and no combined constraint is true.
-- Assumes nothing.
use mathlib.Core.Path.{◌≡◌, refl, sym, ap, ap₂, ◌∙◌}
use mathlib.Core.Bool.{Bool, true, false, not, ◌&&◌, ◌||◌}
use Prim.Native.Nat.{ℕ, ◌^◌, ◌<◌}
use lib.Bits.{or_lt}
use borrow.Author.Tests.{not-true}
use Rattle.words.specs.Word.{bit, meets}
use Rattle.words.specs.Loop.{some}
use Rattle.words.proofs.BitLaws.{bit_of_or, same_bits, bits_meet, meet_plain, meet_negated}
use Rattle.words.proofs.BoolLaws.{by_test, clash, same_truth, and_true, and_false, or_true}
use Rattle.words.proofs.LoopLaws.{some_at, some_true, some_false, some_false_at, some_bit}
use Rattle.scan.specs.declared.set.Set.{Set}
use Rattle.scan.specs.Set.{constraint, outs}
use Rattle.scan.specs.Shape.{well_formed}
use Rattle.scan.specs.Constraint.{reads_true, outs_true, is_true, simple, combined, true_at, safe}
use Rattle.scan.specs.Holds.{holding, F0, F1, start_vector}
use Rattle.scan.specs.Pass.{fires}
use Rattle.scan.proofs.ShapeLaws.{counts, masks}
use Rattle.scan.proofs.HoldsLaws.{f0_bit, f1_bit, start_bit, f0_lt, f1_lt, start_lt}
use Rattle.scan.proofs.ConstraintLaws.{simple_or_combined, lone_plain, lone_negated}

module _ (s : Set) (w v : ℕ) (ok : well_formed s ≡ true) where
  -- ---- a safe vector has every held output as it is held

  module _ (good : safe s w v ≡ true) where
    pub none_true : (i : ℕ) → i < s.m → is_true (constraint s i) w v ≡ false
    unfolding safe true_at
    none_true i h = some_false_at s.m (true_at s w v) (not-true (some s.m (true_at s w v)) good) i h

    -- a constraint that holds its output does not have its output literal true
    no_literal : (i : ℕ) → i < s.m → holding s w i ≡ true → outs_true (constraint s i) v ≡ true → ⊥
    unfolding is_true holding
    no_literal i h e o = clash (ap₂ ◌&&◌ (and_true (simple (constraint s i)) (reads_true (constraint s i) w) e).1 o) (none_true i h)

    is_simple : (i : ℕ) → holding s w i ≡ true → simple (constraint s i) ≡ true
    unfolding holding
    is_simple i e = (and_true (simple (constraint s i)) (reads_true (constraint s i) w) e).0

    pub f0_clear : (k : ℕ) → bit k (F0 s w) ≡ true → bit k v ≡ false
    f0_clear k e =
        let i = some_at s.m _ (sym (f0_bit s w k) ∙ e) in
        let c = constraint s i.0 in
        let b = and_true (holding s w i.0) (bit k c.out_plain) i.2 in
        by_test (bit k v)
        (λ q. absurd (no_literal i.0 i.1 b.0 (lone_plain s.r s.n c (counts s ok).n_le (masks s ok i.0 i.1) (is_simple i.0 b.0) v k b.1 q)))
        (λ q. q)

    pub f1_set : (k : ℕ) → bit k (F1 s w) ≡ true → bit k v ≡ true
    f1_set k e =
        let i = some_at s.m _ (sym (f1_bit s w k) ∙ e) in
        let c = constraint s i.0 in
        let b = and_true (holding s w i.0) (bit k c.out_negated) i.2 in
        by_test (bit k v)
        (λ q. q)
        (λ q. absurd (no_literal i.0 i.1 b.0 (lone_negated s.r s.n c (counts s ok).n_le (masks s ok i.0 i.1) (is_simple i.0 b.0) v k b.1 q)))

    merge : (g f0 f1 : Bool) → (f0 ≡ true → g ≡ false) → (f1 ≡ true → g ≡ true) → (g && not f0) || f1 ≡ g
    merge true true f1 p q = clash refl (p refl)
    merge true false f1 p q = refl
    merge false f0 true p q = sym (q refl)
    merge false f0 false p q = refl

    -- a safe request is its own start vector
    pub start_safe : v < 2 ^ s.n → start_vector s w v ≡ v
    start_safe h =
        same_bits s.n (start_vector s w v) v (start_lt s w ok v h) h
        (λ k l. start_bit s w k v ∙ merge (bit k v) (bit k (F0 s w)) (bit k (F1 s w)) (f0_clear k) (f1_set k))

    safe_held : meets (F1 s w) (F0 s w) v && not (some s.m (fires s w v)) ≡ true
    unfolding fires
    safe_held =
        ap₂ (λ (a b : Bool). a && not b)
        (bits_meet s.n (F1 s w) (F0 s w) v (f1_lt s w ok) (f0_lt s w ok) f1_set f0_clear)
        (some_false s.m (fires s w v) (λ i h. and_false (combined (constraint s i)) (is_true (constraint s i) w v) (none_true i h)))

  -- where an output is forced both ways no vector is safe
  pub clash_unsafe : (k : ℕ) → bit k (F0 s w) ≡ true → bit k (F1 s w) ≡ true → safe s w v ≡ false
  clash_unsafe k off on = by_test (safe s w v) (λ good. clash (f1_set good k on) (f0_clear good k off)) (λ e. e)

  -- ---- and with every held output as it is held, and no combined constraint true, no constraint is

  module _ (held : meets (F1 s w) (F0 s w) v ≡ true) (quiet : some s.m (fires s w v) ≡ false) (i : ℕ) (h : i < s.m) (true-now : is_true (constraint s i) w v ≡ true) where
    halves : (reads_true (constraint s i) w ≡ true) × (outs_true (constraint s i) v ≡ true)
    unfolding is_true
    halves = and_true (reads_true (constraint s i) w) (outs_true (constraint s i) v) true-now

    -- a simple constraint that is true has its output against the hold
    simple_false : simple (constraint s i) ≡ true → ⊥
    unfolding holding outs_true
    simple_false e =
        let ms = masks s ok i h in
        let b = some_bit s.n (outs (constraint s i)) (or_lt s.n _ _ ms.out_plain ms.out_negated) ms.has_out in
        let hold : holding s w i ≡ true = ap₂ ◌&&◌ e halves.0 in
        by_test (bit b.0 (constraint s i).out_plain)
        (λ p.
        clash (meet_plain (constraint s i).out_plain (constraint s i).out_negated v halves.1 b.0 p)
        (meet_negated (F1 s w) (F0 s w) v held b.0 (f0_bit s w b.0 ∙ some_true s.m _ i h (ap₂ ◌&&◌ hold p))))
        (λ p.
        let q = or_true (bit b.0 (constraint s i).out_plain) (bit b.0 (constraint s i).out_negated) (sym (bit_of_or b.0 _ _) ∙ b.2) p in
        clash (meet_plain (F1 s w) (F0 s w) v held b.0 (f1_bit s w b.0 ∙ some_true s.m _ i h (ap₂ ◌&&◌ hold q)))
        (meet_negated (constraint s i).out_plain (constraint s i).out_negated v halves.1 b.0 q))

    never_true : ⊥
    unfolding fires
    never_true =
        by_test (simple (constraint s i)) simple_false
        (λ e. clash (some_true s.m (fires s w v) i h (ap₂ ◌&&◌ (simple_or_combined s.r s.n (constraint s i) (counts s ok).n_le (masks s ok i h) e) true-now)) quiet)

  held_safe : meets (F1 s w) (F0 s w) v && not (some s.m (fires s w v)) ≡ true → safe s w v ≡ true
  unfolding safe true_at
  held_safe e =
      let t = and_true (meets (F1 s w) (F0 s w) v) (not (some s.m (fires s w v))) e in
      ap not (some_false s.m (true_at s w v) (λ i h. by_test (is_true (constraint s i) w v)
      (λ q. absurd (never_true t.0 (not-true (some s.m (fires s w v)) t.1) i h q)) (λ q. q)))

  -- safe, as the table of the active constraints tells it
  pub safe_table : safe s w v ≡ meets (F1 s w) (F0 s w) v && not (some s.m (fires s w v))
  safe_table = same_truth (safe s w v) _ safe_held held_safe
