-- A pass, output by output, and the walk that is made of passes.
-- Assumes nothing.
use mathlib.Core.Path.{◌≡◌, refl, sym, ap, ap₂, ◌∙◌}
use mathlib.Core.Bool.{Bool, true, false, not, ◌&&◌}
use mathlib.Core.Logic.{◌↔◌}
use Prim.Native.Nat.{ℕ, ◌≤◌, ◌<◌}
use native.Mathlib.Decide.{dec_lt}
use native.Mathlib.Omega.{arith}
use lib.Dec.{eqb}
use borrow.Author.Tests.{eqb-true, eq-eqb}
use Rattle.words.specs.Word.{bit}
use Rattle.words.specs.Loop.{some, iterate}
use Rattle.words.proofs.BitLaws.{xorb, bit_of_and, bit_above, bit_below}
use Rattle.words.proofs.BoolLaws.{by_test, clash, and_true}
use Rattle.words.proofs.LoopLaws.{some_at, some_true}
use Rattle.scan.specs.declared.set.Constraint.{Constraint}
use Rattle.scan.specs.declared.set.Set.{Set}
use Rattle.scan.specs.Set.{constraint, rank, outs}
use Rattle.scan.specs.Shape.{well_formed}
use Rattle.scan.specs.Constraint.{is_true, combined, true_at, safe}
use Rattle.scan.specs.Holds.{unheld}
use Rattle.scan.specs.Pass.{lowest, fires, pass}
use Rattle.scan.specs.Walk.{after, Reaches, FirstSafe, vector_due}
use Rattle.scan.proofs.ShapeLaws.{counts, masks, outs_lt, rank_lt}
use Rattle.scan.proofs.HoldsLaws.{unheld_bit, unheld_lt}
use Rattle.scan.proofs.YieldingLaws.{lowest_le, lowest_at}
use Rattle.scan.proofs.PassLaws.{own, pass_bit, pass_agrees}
use Rattle.scan.proofs.WalkLaws.{due_is, first_soon}
use Rattle.promise.specs.Terms.{NamesOutput, Held, Yields, Flipped}
use Rattle.promise.specs.Verdicts.{EndsSafe}
use Rattle.promise.specs.Meanings.{PassMeans, WalkMeans}
use Rattle.promise.proofs.Bits.{bit_set, set_bit, clear_bit}
use Rattle.promise.proofs.ConstraintMeanings.{names_iff, combined_iff, true_at_iff, safe_iff}
use Rattle.promise.proofs.HoldMeanings.{unheld_iff}

module _ (s : Set) (ok : well_formed s ≡ true) (w : ℕ) where
  -- ---- who yields

  module _ (i : ℕ) (h : i < s.m) where
    abbrev c : Constraint
    c = constraint s i

    -- an output that the constraint names is one of the n
    named_lt : (k : ℕ) → NamesOutput c k → k < s.n
    named_lt k nk = bit_below s.n k (outs c) (outs_lt s.r s.n c (masks s ok i h)) ((names_iff c k).1 nk)

    small : (k : ℕ) → k < s.n → rank c k < 256
    small k l = rank_lt c k ((masks s ok i h).ranks_ok k (omega (arith, (counts s ok).n_le)))

    -- an output of the constraint that is not held
    own_iff : (k : ℕ) → k < s.n → (bit k (outs c) && bit k (unheld s w) ≡ true) ↔ (NamesOutput c k × (¬ Held s w k))
    own_iff k l = (
      λ e.
          let both = and_true (bit k (outs c)) (bit k (unheld s w)) e in
          ((names_iff c k).0 both.0, (unheld_iff s ok w k).0 (sym (unheld_bit s w k l) ∙ both.1)),
      λ a. ap₂ ◌&&◌ ((names_iff c k).1 a.0) (unheld_bit s w k l ∙ (unheld_iff s ok w k).1 a.1),
    )

    own_bit : (k : ℕ) → k < s.n → NamesOutput c k → ¬ Held s w k → bit k (own s w i) ≡ true
    own_bit k l a b = bit_of_and k (outs c) (unheld s w) ∙ (own_iff k l).1 (a, b)

    abbrev yield_test : ℕ → Bool
    yield_test k = (bit k (outs c) && bit k (unheld s w)) && eqb (rank c k) (lowest c (own s w i) s.n)

    yields_iff : (k : ℕ) → k < s.n → (yield_test k ≡ true) ↔ Yields s w c k
    yields_iff k l = (
      λ e.
          let both = and_true (bit k (outs c) && bit k (unheld s w)) _ e in
          let mine = (own_iff k l).0 both.0 in
          let least : rank c k ≡ lowest c (own s w i) s.n = eqb-true _ _ both.1 in
          (mine.0, mine.1, λ j nj uj. omega (arith, lowest_le c (own s w i) s.n j (named_lt j nj) (own_bit j (named_lt j nj) nj uj))),
      λ y.
          let mine = own_bit k l y.0 y.1 in
          let at = lowest_at c (own s w i) s.n small k l mine in
          let named = (own_iff at.0 at.1).0 (sym (bit_of_and at.0 (outs c) (unheld s w)) ∙ at.2) in
          let below : rank c k ≤ rank c at.0 = y.2 at.0 named.0 named.1 in
          let same : rank c at.0 ≡ lowest c (own s w i) s.n = at.3 in
          ap₂ ◌&&◌ ((own_iff k l).1 (y.0, y.1)) (eq-eqb (rank c k) (lowest c (own s w i) s.n) (omega (arith, lowest_le c (own s w i) s.n k l mine))),
    )

  -- ---- what is flipped

  module _ (v k : ℕ) where
    abbrev flip_test : Bool
    flip_test = some s.m (λ i. fires s w v i && ((bit k (outs (constraint s i)) && bit k (unheld s w)) && eqb (rank (constraint s i) k) (lowest (constraint s i) (own s w i) s.n)))

    flipped_iff : k < s.n → (flip_test ≡ true) ↔ Flipped s w v k
    unfolding fires true_at
    flipped_iff l = (
      λ e.
          let at = some_at s.m _ e in
          let c = constraint s at.0 in
          let both = and_true (combined c && is_true c w v) _ at.2 in
          let fired = and_true (combined c) (is_true c w v) both.0 in (
            at.0,
            at.1,
            (combined_iff s ok at.0 at.1).0 fired.0,
            (true_at_iff s ok w v at.0 at.1).0 fired.1,
            (yields_iff at.0 at.1 k l).0 both.1,
          ),
      λ a.
          some_true s.m _ a.0 a.1
          (ap₂ ◌&&◌ (ap₂ ◌&&◌ ((combined_iff s ok a.0 a.1).1 a.2) ((true_at_iff s ok w v a.0 a.1).1 a.3)) ((yields_iff a.0 a.1 k l).1 a.4)),
    )

    flipped_lt : Flipped s w v k → k < s.n
    flipped_lt a = named_lt a.0 a.1 k a.4.0

    -- a pass changes an output exactly where the test passes
    passed : k < s.n → bit k (pass s w v) ≡ xorb (bit k v) flip_test
    passed l = pass_bit s w v k l

    changes : k < s.n → flip_test ≡ true → bit k (pass s w v) ≡ not (bit k v)
    changes l e = passed l ∙ ap (xorb (bit k v)) e ∙ xor_true (bit k v)
      where
        xor_true : (b : Bool) → xorb b true ≡ not b
        xor_true true = refl
        xor_true false = refl

    stays : ¬ Flipped s w v k → bit k (pass s w v) ≡ bit k v
    stays n = go (dec_lt k s.n)
      where
        xor_false : (b : Bool) → xorb b false ≡ b
        xor_false true = refl
        xor_false false = refl

        go : Dec (k < s.n) → bit k (pass s w v) ≡ bit k v
        go (yes l) = passed l ∙ ap (xorb (bit k v)) (by_test flip_test (λ e. absurd (n ((flipped_iff l).0 e))) (λ e. e)) ∙ xor_false (bit k v)
        go (no l) = sym (pass_agrees s w v k (bit_above s.n k (unheld s w) (unheld_lt s w) (omega arith)))

    pub pass_means : PassMeans s w v k
    pass_means = record {
      flips = λ a.
          let e = changes (flipped_lt a) ((flipped_iff (flipped_lt a)).1 a) in (
            λ b x. clash (sym (ap not (set_bit k v x)) ∙ sym e ∙ set_bit k (pass s w v) b) refl,
            λ x. bit_set k (pass s w v) (e ∙ ap not (clear_bit k v x)),
          );
      keeps = λ n. let e = stays n in (λ b. bit_set k v (sym e ∙ set_bit k (pass s w v) b), λ b. bit_set k (pass s w v) (e ∙ set_bit k v b));
    }

  -- ---- the walk

  pub ends_iff : (request : ℕ) → Reaches s w request ↔ EndsSafe s w request
  ends_iff request = (λ a. (a.0, (safe_iff s ok w (after s w request a.0)).0 a.1), λ a. (a.0, (safe_iff s ok w (after s w request a.0)).1 a.1))

  pub walk_means : (request : ℕ) → WalkMeans s w request
  unfolding after iterate vector_due
  walk_means request = record {
    starts = refl;
    goes_on = λ k. refl;
    due = λ fits k here before.
        let first : FirstSafe s w request k = record {
          here = (safe_iff s ok w (after s w request k)).1 here;
          before = λ j l. by_test (safe s w (after s w request j)) (λ e. absurd (before j l ((safe_iff s ok w (after s w request j)).0 e))) (λ e. e);
        } in
        let same = due_is s w request k (first_soon s ok w request fits k first) first in
        (ap (after s w request) same, same);
  }
