-- What a pass does, output by output: only outputs that are not held change along a walk, and two true constraints never pull one output
-- opposite ways.
-- Assumes nothing.
use mathlib.Core.Path.{◌≡◌, refl, sym, ap, ◌∙◌}
use mathlib.Core.Bool.{Bool, true, false, cond, not, ◌&&◌}
use Prim.Native.Nat.{ℕ, zero, suc, ◌^◌, ◌<◌}
use lib.Dec.{eqb}
use lib.Pow.{pow_pos}
use lib.Bits.{bit_and, xor_lt}
use Rattle.words.specs.Word.{bit}
use Rattle.words.specs.Loop.{gather, some, iterate}
use Rattle.words.proofs.BitLaws.{bit_of_and, bit_of_xor, bit_zero, xorb, meet_plain, meet_negated}
use Rattle.words.proofs.BoolLaws.{by_test, clash, and_true, and_false}
use Rattle.words.proofs.LoopLaws.{bit_gather, bit_cond, some_cong, some_false, gather_lt}
use Rattle.words.proofs.Orbit.{Agree}
use Rattle.scan.specs.declared.set.Constraint.{Constraint}
use Rattle.scan.specs.declared.set.Set.{Set}
use Rattle.scan.specs.Set.{constraint, rank, outs}
use Rattle.scan.specs.Shape.{well_formed}
use Rattle.scan.specs.Constraint.{reads_true, outs_true, is_true}
use Rattle.scan.specs.Holds.{unheld, start_vector}
use Rattle.scan.specs.Pass.{lowest, yields, fires, flips, pass}
use Rattle.scan.specs.Walk.{after}
use Rattle.scan.proofs.HoldsLaws.{start_lt}
use Rattle.scan.proofs.YieldingLaws.{yielding_bit, yielding_own, yielding_lt}

-- the outputs of constraint i that are not held
abbrev pub own : Set → ℕ → ℕ → ℕ
own s w i = bit_and (outs (constraint s i)) (unheld s w)

cond_lt : (b : Bool) (x n : ℕ) → x < 2 ^ n → cond b x 0 < 2 ^ n
cond_lt true x n h = h
cond_lt false x n h = pow_pos n

cond_bit : (b : Bool) (k y : ℕ) → bit k y ≡ false → bit k (cond b y 0) ≡ false
cond_bit true k y e = e
cond_bit false k y e = bit_zero k

xor_false : (a b : Bool) → b ≡ false → a ≡ xorb a b
xor_false true b e = sym (ap not e)
xor_false false b e = sym e

module _ (s : Set) (w : ℕ) where
  -- a pass flips output k if some combined constraint that is true has it unheld, with the lowest rank among its unheld outputs
  pub pass_bit : (v k : ℕ) → k < s.n
      → bit k (pass s w v)
      ≡ xorb (bit k v) (some s.m (λ i. fires s w v i
      && ((bit k (outs (constraint s i)) && bit k (unheld s w)) && eqb (rank (constraint s i) k) (lowest (constraint s i) (own s w i) s.n))))
  unfolding pass flips yields
  pass_bit v k h =
      bit_of_xor k v (gather s.m (flips s w v))
      ∙ ap (xorb (bit k v)) (bit_gather k s.m (flips s w v)
      ∙ some_cong s.m _ _ (λ i l. bit_cond (fires s w v i) k (yields s w i) ∙ ap (λ (b : Bool). fires s w v i && b) (one i)))
    where
      one : (i : ℕ) → bit k (yields s w i)
          ≡ (bit k (outs (constraint s i)) && bit k (unheld s w)) && eqb (rank (constraint s i) k) (lowest (constraint s i) (own s w i) s.n)
      one i =
          yielding_bit (constraint s i) (own s w i) s.n k h
          ∙ ap (λ (b : Bool). b && eqb (rank (constraint s i) k) (lowest (constraint s i) (own s w i) s.n)) (bit_of_and k (outs (constraint s i)) (unheld s w))

  -- ---- no bit at n or above

  pub pass_lt : (v : ℕ) → v < 2 ^ s.n → pass s w v < 2 ^ s.n
  unfolding pass flips yields
  pass_lt v h =
      xor_lt s.n v (gather s.m (flips s w v)) h
      (gather_lt s.n s.m (flips s w v) (λ i l. cond_lt (fires s w v i) (yields s w i) s.n (yielding_lt (constraint s i) (own s w i) s.n)))

  pub after_lt : well_formed s ≡ true → (request : ℕ) → request < 2 ^ s.n → (k : ℕ) → after s w request k < 2 ^ s.n
  unfolding after iterate
  after_lt ok g h zero = start_lt s w ok g h
  after_lt ok g h (suc k) = pass_lt (after s w g k) (after_lt ok g h k)

  -- ---- only outputs that are not held change

  flips_unheld : (v k : ℕ) → bit k (unheld s w) ≡ false → bit k (gather s.m (flips s w v)) ≡ false
  unfolding flips yields
  flips_unheld v k e =
      bit_gather k s.m (flips s w v)
      ∙ some_false s.m _ (λ i h. cond_bit (fires s w v i) k (yields s w i) (yielding_own (constraint s i) (own s w i) s.n k
      (bit_of_and k (outs (constraint s i)) (unheld s w) ∙ and_false (bit k (outs (constraint s i))) (bit k (unheld s w)) e)))

  pub pass_agrees : (v : ℕ) → Agree (unheld s w) v (pass s w v)
  unfolding pass
  pass_agrees v k e = xor_false (bit k v) _ (flips_unheld v k e) ∙ sym (bit_of_xor k v _)

  -- only outputs that are not held change along a walk
  pub after_agrees : (request k : ℕ) → Agree (unheld s w) (start_vector s w request) (after s w request k)
  unfolding after iterate
  after_agrees g zero j e = refl
  after_agrees g (suc k) j e = after_agrees g k j e ∙ pass_agrees (after s w g k) j e

-- ---- two constraints that are true under one vector never pull one output opposite ways: where one names it plain, the other does not name
-- it negated

pub never_opposite : (c d : Constraint) (w v k : ℕ) → is_true c w v ≡ true → is_true d w v ≡ true → bit k c.out_plain ≡ true → bit k d.out_negated ≡ false
unfolding is_true outs_true
never_opposite c d w v k tc td p =
    by_test (bit k d.out_negated)
    (λ q.
    clash (meet_plain c.out_plain c.out_negated v (and_true (reads_true c w) (outs_true c v) tc).1 k p)
    (meet_negated d.out_plain d.out_negated v (and_true (reads_true d w) (outs_true d v) td).1 k q))
    (λ q. q)
