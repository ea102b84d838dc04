-- Along a walk that reaches a safe vector the vector due stays the same: each vector of the walk is its own start vector.
-- Assumes nothing.
use mathlib.Core.Path.{◌≡◌, refl, sym, ap, ◌∙◌}
use mathlib.Core.Bool.{Bool, true, false, not, ◌&&◌, ◌||◌}
use Prim.Native.Nat.{ℕ, ◌+◌, ◌-◌, ◌^◌, ◌≤◌, ◌<◌}
use native.Mathlib.Omega.{arith}
use Rattle.words.specs.Word.{bit}
use Rattle.words.specs.Loop.{iterate}
use Rattle.words.proofs.BitLaws.{same_bits, bit_below}
use Rattle.words.proofs.BoolLaws.{clash, or_left, or_right}
use Rattle.words.proofs.Orbit.{iterate_add}
use Rattle.scan.specs.declared.set.Set.{Set}
use Rattle.scan.specs.Shape.{well_formed}
use Rattle.scan.specs.Constraint.{safe}
use Rattle.scan.specs.Holds.{F0, F1, unheld, start_vector}
use Rattle.scan.specs.Pass.{pass}
use Rattle.scan.specs.Walk.{after, Reaches, FirstSafe, passes_due, vector_due}
use Rattle.scan.proofs.HoldsLaws.{start_bit, unheld_bit, start_lt, f0_lt, f1_lt}
use Rattle.scan.proofs.PassLaws.{after_lt, after_agrees}
use Rattle.scan.proofs.SafeLaws.{f0_clear, f1_set}
use Rattle.scan.proofs.WalkLaws.{walk_due, due_is, first_soon}

merge : (v f0 f1 : Bool) → (f0 ≡ true → v ≡ false) → (f1 ≡ true → v ≡ true) → (v && not f0) || f1 ≡ v
merge true true f1 p q = clash refl (p refl)
merge true false f1 p q = refl
merge false f0 true p q = sym (q refl)
merge false f0 false p q = refl

module _ (s : Set) (ok : well_formed s ≡ true) (w request : ℕ) (fits : request < 2 ^ s.n) (reaches : Reaches s w request) where
  due : FirstSafe s w request (passes_due s w request)
  due = (walk_due s ok w request fits reaches).first_safe

  -- a held output is along the walk as in its safe vector
  agrees : (j k : ℕ) → bit k (unheld s w) ≡ false → bit k (after s w request j) ≡ bit k (after s w request (passes_due s w request))
  agrees j k e = sym (after_agrees s w request j k e) ∙ after_agrees s w request (passes_due s w request) k e

  off_held : (k : ℕ) → bit k (F0 s w) ≡ true → bit k (unheld s w) ≡ false
  off_held k e = unheld_bit s w k (bit_below s.n k (F0 s w) (f0_lt s w ok) e) ∙ ap not (or_left (bit k (F0 s w)) (bit k (F1 s w)) e)

  on_held : (k : ℕ) → bit k (F1 s w) ≡ true → bit k (unheld s w) ≡ false
  on_held k e = unheld_bit s w k (bit_below s.n k (F1 s w) (f1_lt s w ok) e) ∙ ap not (or_right (bit k (F0 s w)) (bit k (F1 s w)) e)

  -- a vector of the walk is its own start vector
  pub own_start : (j : ℕ) → start_vector s w (after s w request j) ≡ after s w request j
  own_start j =
      let v = after s w request j in
      let u = after s w request (passes_due s w request) in
      let h = after_lt s w ok request fits j in
      same_bits s.n (start_vector s w v) v (start_lt s w ok v h) h
      (λ k l. start_bit s w k v ∙ merge (bit k v) (bit k (F0 s w)) (bit k (F1 s w))
      (λ e. agrees j k (off_held k e) ∙ f0_clear s w u ok due.here k e)
      (λ e. agrees j k (on_held k e) ∙ f1_set s w u ok due.here k e))

  after_on : (j i : ℕ) → after s w (after s w request j) i ≡ after s w request (j + i)
  unfolding after
  after_on j i = ap (iterate (pass s w) i) (own_start j) ∙ sym (iterate_add (pass s w) (start_vector s w request) j i)

  -- the walk from it sends the same vector
  pub same_due : (j : ℕ) → j ≤ passes_due s w request → vector_due s w (after s w request j) ≡ vector_due s w request
  unfolding vector_due
  same_due j h =
      let v = after s w request j in
      let d = passes_due s w request - j in
      let back : j + d ≡ passes_due s w request = omega arith in
      let first : FirstSafe s w v d = record {
        here = ap (safe s w) (after_on j d ∙ ap (after s w request) back) ∙ due.here;
        before = λ i l. ap (safe s w) (after_on j i) ∙ due.before (j + i) (omega arith);
      } in
      let few = first_soon s ok w v (after_lt s w ok request fits j) d first in
      ap (after s w v) (due_is s w v d few first) ∙ after_on j d ∙ ap (after s w request) back
