-- The code's way with names, and what the definitions say: places that follow each other rightly hold a name, and names get into a list of their own.
-- Assumes nothing.
use mathlib.Core.Path.{◌≡◌, sym, ap, ap₂, ◌∙◌}
use mathlib.Core.List.{List, []}
use mathlib.Core.Bool.{Bool, true, not, ◌&&◌}
use Prim.Native.Nat.{ℕ, zero, suc, ◌+◌, ◌-◌, ◌≤◌, ◌<◌}
use native.Mathlib.Nat.{add-zero, not-suc-le-zero}
use native.Mathlib.Omega.{arith}
use lib.Dec.{eqb, ltb}
use lib.ListN.{length, get_or, set, replicate, length-set, get_or-replicate}
use lib.Seq.{get_or-set_same, get_or-set_other}
use borrow.Author.Tests.{eq-eqb, eqb-true, eqb-false, lt-ltb, ltb-true, ltb-false}
use Rattle.words.specs.Loop.{all}
use Rattle.words.proofs.BoolLaws.{by_test, clash, same_truth, and_true, or_true, or_left, or_right, cond_true, cond_false, and_unit, and_assoc, sized}
use Rattle.words.proofs.LoopTurns.{all_none, all_more}
use Rattle.words.proofs.LoopLaws.{all_true, all_at, first_spec}
use Rattle.scan.specs.declared.set.ReadPoint.{ReadPoint}
use Rattle.scan.specs.declared.set.OutputPoint.{OutputPoint}
use Rattle.scan.specs.Set.{name_places, most_reads, most_outputs, zero_name, zero_read, zero_output, zero_set, no_read, no_output}
use Rattle.scan.specs.Names.{name_byte, zero_at, name_length, place_ok, name_ok, name_zero}
use Rattle.shape.specs.way.Names.{next_ok, ReadNames, OutputNames}

-- ---- a name's places, one after the other

-- byte place k is right behind the one before it
abbrev pub follows_ok : List ℕ → ℕ → Bool
follows_ok name k = next_ok (get_or name (k - 1) 0) (get_or name k 0)

module _ (name : List ℕ) where
  -- once all places follow rightly, those from the first zero on are zeros
  zeros_on : ((k : ℕ) → k < name_places → follows_ok name k ≡ true) → (d : ℕ) → name_length name + d < name_places → zero_at name (name_length name + d) ≡ true
  unfolding next_ok name_length
  zeros_on f zero h = ap (zero_at name) (add-zero (name_length name)) ∙ (first_spec name_places (zero_at name)).here (omega arith)
  zeros_on f (suc d) h =
      let l = name_length name + d in
      let e : name_length name + suc d ≡ l + 1 = omega arith in
      let back : l + 1 - 1 ≡ l = omega arith in
      let before : eqb (get_or name (l + 1 - 1) 0) 0 ≡ true = ap (zero_at name) back ∙ zeros_on f d (omega arith) in
      let b = get_or name (l + 1) 0 in
      ap (zero_at name) e ∙ by_test (eqb b 0) (λ t. t)
      (λ t. clash (and_true (name_byte b) _ (or_true (eqb b 0) _ (f (l + 1) (omega arith)) t)).1 (ap not before))

  pub follows_none : not (zero_at name 0) ≡ (not (zero_at name 0) && all 0 (follows_ok name))
  follows_none = sym (and_unit (not (zero_at name 0))) ∙ ap (λ (x : Bool). not (zero_at name 0) && x) (sym (all_none (follows_ok name)))

  pub follows_more : (k : ℕ) (ok r x : Bool) → ok ≡ (not (zero_at name 0) && all k (follows_ok name)) → r ≡ follows_ok name k → x ≡ (ok && r)
      → x ≡ (not (zero_at name 0) && all (k + 1) (follows_ok name))
  follows_more k ok r x eo er ex =
      let z = not (zero_at name 0) in
      ex ∙ ap₂ ◌&&◌ eo er ∙ sym (and_assoc z (all k (follows_ok name)) (follows_ok name k)) ∙ ap (λ (y : Bool). z && y) (sym (all_more k (follows_ok name)))

  module _ (long : length name ≡ name_places) where
    rightly : not (zero_at name 0) && all name_places (follows_ok name) ≡ true → name_ok name ≡ true
    unfolding name_ok place_ok next_ok name_length
    rightly e =
        let l = name_length name in
        let s = first_spec name_places (zero_at name) in
        let p = and_true (not (zero_at name 0)) (all name_places (follows_ok name)) e in
        let f : (k : ℕ) → k < name_places → follows_ok name k ≡ true = all_at name_places (follows_ok name) p.1 in
        let some : 0 < l =
        by_test (ltb 0 l) (λ t. ltb-true 0 l t)
        (λ t. let none : l ≡ 0 = omega (arith, ltb-false 0 l t) in clash p.0 (ap not (ap (zero_at name) (sym none) ∙ s.here (omega arith)))) in
        let place : (k : ℕ) → k < name_places → place_ok name k ≡ true =
        λ k h. by_test (ltb k l)
        (λ t. sym (cond_true (ltb k l) (name_byte (get_or name k 0)) (zero_at name k) t)
        ∙ (and_true (name_byte (get_or name k 0)) _ (or_true (zero_at name k) _ (f k h) (s.before k (ltb-true k l t)))).0)
        (λ t. let on : k ≡ l + (k - l) = omega (arith, ltb-false k l t) in
        sym (cond_false (ltb k l) (name_byte (get_or name k 0)) (zero_at name k) t) ∙ ap (zero_at name) on ∙ zeros_on f (k - l) (omega arith)) in
        rw (eq-eqb (length name) name_places long, lt-ltb 0 l some, all_true name_places (place_ok name) place)

    wrongly : name_ok name ≡ true → not (zero_at name 0) && all name_places (follows_ok name) ≡ true
    unfolding name_ok place_ok next_ok name_length
    wrongly e =
        let l = name_length name in
        let s = first_spec name_places (zero_at name) in
        let a = and_true (ltb 0 l) _ (and_true (eqb (length name) name_places) _ e).1 in
        let some : 0 < l = ltb-true 0 l a.0 in
        let place : (k : ℕ) → k < name_places → place_ok name k ≡ true = all_at name_places (place_ok name) (and_true (all name_places (place_ok name)) true a.1).0 in
        let follows : (k : ℕ) → k < name_places → follows_ok name k ≡ true =
        λ k h. by_test (zero_at name k) (λ t. or_left (zero_at name k) _ t)
        (λ t. by_test (ltb k l)
        (λ u. or_right (zero_at name k) _
        (ap₂ (λ (x y : Bool). x && not y) (cond_true (ltb k l) (name_byte (get_or name k 0)) (zero_at name k) u ∙ place k h)
        (s.before (k - 1) (omega (arith, ltb-true k l u)))))
        (λ u. clash (cond_false (ltb k l) (name_byte (get_or name k 0)) (zero_at name k) u ∙ place k h) t)) in
        ap₂ (λ (x y : Bool). not x && y) (s.before 0 some) (all_true name_places (follows_ok name) follows)

    -- the places follow each other rightly, and the first is no zero, exactly where they hold a name
    pub name_follows : (ok : Bool) → ok ≡ (not (zero_at name 0) && all name_places (follows_ok name)) → ok ≡ name_ok name
    name_follows ok e = e ∙ same_truth _ _ rightly wrongly

pub name_zeros : (name : List ℕ) (ok : Bool) → length name ≡ name_places → ok ≡ all name_places (zero_at name) → ok ≡ name_zero name
unfolding name_zero
name_zeros name ok long eo = eo ∙ sym (and_unit (all name_places (zero_at name))) ∙ sized (length name) name_places _ long

-- ---- names in a list of their own

-- the invariant of a loop that puts names into a list of n: those before k are in place
abbrev pub Placed : ℕ → (ℕ → List ℕ) → List (List ℕ) → ℕ → Type 0
Placed n f names k = (k ≤ n) × (length names ≡ n) × ((j : ℕ) → j < k → get_or names j [] ≡ f j)

module _ (n : ℕ) (f : ℕ → List ℕ) where
  pub placed_none : (names : List (List ℕ)) → length names ≡ n → Placed n f names 0
  placed_none names e = (omega arith, e, λ j l. absurd (not-suc-le-zero l))

  pub placed_one : (names : List (List ℕ)) (k : ℕ) (name : List ℕ) → Placed n f names k → k < n → name ≡ f k → Placed n f (set names k name) (k + 1)
  placed_one names k name i h e = (
    omega arith,
    length-set names k name ∙ i.1,
    λ j l. by_test (ltb j k)
        (λ t. let lt = ltb-true j k t in get_or-set_other names k j name [] (λ q. omega arith) ∙ i.2 j lt)
        (λ t. let same : j ≡ k = omega (arith, ltb-false j k t) in ap (λ (m : ℕ). get_or (set names k name) m []) same ∙ get_or-set_same names k name [] (omega arith) ∙ e ∙ ap f (sym same)),
  )

  pub placed_all : (names : List (List ℕ)) (k : ℕ) → Placed n f names k → n ≤ k → (j : ℕ) → j < n → get_or names j [] ≡ f j
  placed_all names k i h j l = i.2 j (omega arith)

-- points and a list of their names, where a point and its name are stored at the same place of both
module _ {A : Type 0} (name : A → List ℕ) (none : A) (n : ℕ) where
  stored : (names : List (List ℕ)) (points : List A) (i : ℕ) (p : A) → i < length names → i < length points
      → ((k : ℕ) → k < n → get_or names k [] ≡ name (get_or points k none)) → (k : ℕ) → k < n → get_or (set names i (name p)) k [] ≡ name (get_or (set points i p) k none)
  stored names points i p h l named k below =
      by_test (eqb k i)
      (λ t. let same = eqb-true k i t in
      ap (λ (j : ℕ). get_or (set names i (name p)) j []) same ∙ get_or-set_same names i (name p) [] h
      ∙ ap name (sym (get_or-set_same points i p none l)) ∙ ap (λ (j : ℕ). name (get_or (set points i p) j none)) (sym same))
      (λ t. let other = eqb-false k i t in
      get_or-set_other names i k (name p) [] other ∙ named k below ∙ ap name (sym (get_or-set_other points i k p none other)))

-- the names stay those of the read points where a point is stored with its name
pub read_stored : (names : List (List ℕ)) (reads : List ReadPoint) (i : ℕ) (p : ReadPoint) → i < length names → i < length reads
    → ReadNames names reads → ReadNames (set names i p.name) (set reads i p)
read_stored names reads i p h l named k below = stored (λ (q : ReadPoint). q.name) no_read most_reads names reads i p h l named k below

-- and those of the outputs
pub output_stored : (own : List (List ℕ)) (outputs : List OutputPoint) (j : ℕ) (p : OutputPoint) → j < length own → j < length outputs
    → OutputNames own outputs → OutputNames (set own j p.name) (set outputs j p)
output_stored own outputs j p h l owned k below = stored (λ (q : OutputPoint). q.name) no_output most_outputs own outputs j p h l owned k below

-- the names of the zero set's read points are zeros
pub read_zeros : ReadNames (replicate most_reads zero_name) zero_set.reads
unfolding zero_set
read_zeros k h = get_or-replicate most_reads k zero_name [] h ∙ ap (λ (q : ReadPoint). q.name) (sym (get_or-replicate most_reads k zero_read no_read h))

-- and those of its outputs
pub output_zeros : OutputNames (replicate most_outputs zero_name) zero_set.outputs
unfolding zero_set
output_zeros k h = get_or-replicate most_outputs k zero_name [] h ∙ ap (λ (q : OutputPoint). q.name) (sym (get_or-replicate most_outputs k zero_output no_output h))
