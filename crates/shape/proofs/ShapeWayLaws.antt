-- The code's way to well-formedness, and what the definitions say: tests told by lists of names and by the word of the sensors, and the tests of
-- a constraint and of a set by the way that the code's tests went.
-- Assumes nothing.
use mathlib.Core.Path.{◌≡◌, refl, sym, ap, ap₂, ◌∙◌}
use mathlib.Core.Bool.{Bool, true, cond, ◌&&◌, false, ◌||◌}
use mathlib.Core.List.{List, [], ◌∷◌}
use Prim.Native.Nat.{ℕ, ◌≤◌, ◌<◌, ◌^◌}
use native.Mathlib.Omega.{arith}
use lib.Dec.{eqb, ltb}
use lib.ListN.{length}
use borrow.Author.Tests.{ltb-true, lt-ltb}
use lib.Bits.{bit_and}
use Rattle.words.specs.Word.{bit}
use Rattle.words.specs.Loop.{every, all}
use Rattle.words.proofs.BoolLaws.{by_test, and_unit, and_assoc, and_on, sized, three}
use Rattle.words.proofs.LoopLaws.{bit_word, all_cong, first_cong}
use Rattle.scan.specs.declared.set.Kind.{Kind}
use Rattle.scan.specs.declared.set.Kind.TheVariants.{Sensor, PastOutput, PastSensor}
use Rattle.scan.specs.declared.set.ReadPoint.{ReadPoint}
use Rattle.scan.specs.declared.set.OutputPoint.{OutputPoint}
use Rattle.scan.specs.Set.{rank_end, most_constraints, most_reads, most_outputs, read_point, output_point, rank, outs}
use Rattle.scan.specs.Names.{name_ok, name_zero, same_name, read_has_name, first_read, output_named, first_output, is_used}
use Rattle.shape.specs.way.Names.{name_is, first_name, name_used, ReadNames, OutputNames}
use Rattle.scan.specs.Shape.{is_sensor, kind_ok, read_ok, read_zero, read_place, output_ok, output_place, count_tests, length_tests, rank_ok, constraint_tests, rank_zero, constraint_zero, constraint_place, set_tests, well_formed}
use Rattle.shape.specs.way.Shape.{sensors_of, kind_by, read_by, read_place_by, output_by, output_place_by}
use Rattle.scan.specs.declared.set.Constraint.{Constraint}
use Rattle.scan.specs.declared.set.Set.{Set}

-- ---- kinds

module _ (sensors n k : ℕ) where
  pub by_sensor : (q : Kind) → q ≡ Sensor → true ≡ kind_by sensors n k q
  unfolding kind_by
  by_sensor q e = ap (kind_by sensors n k) (sym e)

  pub by_output : (q : Kind) (i : ℕ) → q ≡ PastOutput i → ltb i n ≡ kind_by sensors n k q
  unfolding kind_by
  by_output q i e = ap (kind_by sensors n k) (sym e)

  pub by_past : (q : Kind) (i : ℕ) (b x : Bool) → q ≡ PastSensor i → b ≡ bit i sensors → x ≡ (ltb i k && b) → x ≡ kind_by sensors n k q
  unfolding kind_by
  by_past q i b x e eb ex = ex ∙ ap (λ (y : Bool). ltb i k && y) eb ∙ ap (kind_by sensors n k) (sym e)

-- ---- told by the lists, and told by the points

module _ (own : List (List ℕ)) (outputs : List OutputPoint) (owned : OutputNames own outputs) where
  pub first_outputs : (j : ℕ) (name : List ℕ) → j ≤ most_outputs → first_name own j name ≡ first_output outputs j name
  unfolding first_name first_output name_is output_named
  first_outputs j name h = first_cong j (name_is own name) (output_named outputs name) (λ k l. ap (λ (x : List ℕ). same_name x name) (owned k (omega arith)))

module _ (names : List (List ℕ)) (reads : List ReadPoint) (named : ReadNames names reads) where
  pub first_reads : (i : ℕ) (name : List ℕ) → i ≤ most_reads → first_name names i name ≡ first_read reads i name
  unfolding first_name first_read name_is read_has_name
  first_reads i name h = first_cong i (name_is names name) (read_has_name reads name) (λ k l. ap (λ (x : List ℕ). same_name x name) (named k (omega arith)))

  by_kind : (n k : ℕ) (q : Kind) → k < most_reads → kind_by (sensors_of reads) n k q ≡ kind_ok reads n k q
  unfolding kind_by kind_ok
  by_kind n k Sensor h = refl
  by_kind n k (PastOutput i) h = refl
  by_kind n k (PastSensor i) h =
      by_test (ltb i k)
      (λ t. ap (λ (b : Bool). ltb i k && b) (bit_word i most_reads (λ (j : ℕ). is_sensor (read_point reads j).kind) (omega (arith, ltb-true i k t))))
      (λ t. ap (λ (b : Bool). b && bit i (sensors_of reads)) t ∙ sym (ap (λ (b : Bool). b && is_sensor (read_point reads i).kind) t))

  pub by_place : (r n k : ℕ) → k < most_reads → read_place_by names (sensors_of reads) r n k (read_point reads k) ≡ read_place reads r n k
  unfolding read_place read_by read_ok
  by_place r n k h =
      let p = read_point reads k in
      ap₂ (λ (a : Bool) (b : ℕ). cond (ltb k r) (every (a ∷ name_ok p.name ∷ eqb b k ∷ [])) (read_zero p))
      (by_kind n k p.kind h) (first_reads k p.name (omega arith))

  module _ (own : List (List ℕ)) (outputs : List OutputPoint) (owned : OutputNames own outputs) where
    -- a name is used by the lists of names exactly where it is used by the points
    pub used_names : (i j : ℕ) (name : List ℕ) → i ≤ most_reads → j ≤ most_outputs → name_used names i own j name ≡ is_used reads i outputs j name
    unfolding name_used is_used
    used_names i j name h l = ap₂ (λ (a b : ℕ). ltb a i || ltb b j) (first_reads i name h) (first_outputs own outputs owned j name l)

    by_output_place : (r n j : ℕ) → r ≤ most_reads → j < most_outputs → output_place_by names r own n j ≡ output_place reads r outputs n j
    unfolding output_place output_by output_ok
    by_output_place r n j hr h =
        let name = (output_point outputs j).name in
        ap (λ (x : List ℕ). cond (ltb j n) (every (name_ok x ∷ eqb (first_name names r x) r ∷ eqb (first_name own j x) j ∷ [])) (name_zero x)) (owned j h)
        ∙ ap₂ (λ (a b : ℕ). cond (ltb j n) (every (name_ok name ∷ eqb a r ∷ eqb b j ∷ [])) (name_zero name))
        (first_reads r name hr) (first_outputs own outputs owned j name (omega arith))

    pub by_outputs : (r n : ℕ) → r ≤ most_reads → all most_outputs (output_place_by names r own n) ≡ all most_outputs (output_place reads r outputs n)
    by_outputs r n hr = all_cong most_outputs _ _ (λ j h. by_output_place r n j hr h)

-- ---- constraints

group : (a b c d : Bool) → (a && (b && c)) && d ≡ a && (b && (c && d))
group a b c d = sym (and_assoc a (b && c) d) ∙ ap (λ (x : Bool). a && x) (sym (and_assoc b c d))

-- a rank, being a byte, is below the end of ranks
pub rank_test : (c : Constraint) (k : ℕ) (b x : Bool) → rank c k < rank_end → b ≡ bit k (outs c) → x ≡ (b || eqb (rank c k) 0) → x ≡ rank_ok c k
unfolding rank_ok
rank_test c k b x h eb ex = ex ∙ ap (λ (y : Bool). y || eqb (rank c k) 0) eb ∙ and_on (ltb (rank c k) rank_end) _ (lt-ltb (rank c k) rank_end h)

module _ (c : Constraint) (long : length c.ranks ≡ most_outputs) where
  pub constraint_zeros : (x y z w u : Bool) → x ≡ (eqb c.read_plain 0 && eqb c.read_negated 0)
      → y ≡ (eqb c.out_plain 0 && eqb c.out_negated 0) → z ≡ all most_outputs (rank_zero c) → w ≡ (y && z) → u ≡ (x && w) → u ≡ constraint_zero c
  unfolding constraint_zero
  constraint_zeros x y z w u ex ey ez ew eu =
      eu
      ∙ ap₂ ◌&&◌ ex (ew ∙ ap₂ ◌&&◌ ey (ez ∙ sym (and_unit (all most_outputs (rank_zero c))) ∙ sized (length c.ranks) most_outputs _ long)
      ∙ sym (and_assoc (eqb c.out_plain 0) (eqb c.out_negated 0) _))
      ∙ sym (and_assoc (eqb c.read_plain 0) (eqb c.read_negated 0) _)

  pub constraint_right : (r n : ℕ) (fp fn x₁ reads gp gn x₂ outputs ranks named x₃ x : Bool)
      → fp ≡ ltb c.read_plain (2 ^ r) → fn ≡ ltb c.read_negated (2 ^ r)
      → x₁ ≡ (fn && eqb (bit_and c.read_plain c.read_negated) 0) → reads ≡ (fp && x₁)
      → gp ≡ ltb c.out_plain (2 ^ n) → gn ≡ ltb c.out_negated (2 ^ n)
      → x₂ ≡ (gn && eqb (bit_and c.out_plain c.out_negated) 0) → outputs ≡ (gp && x₂)
      → ranks ≡ all most_outputs (rank_ok c) → named ≡ (ltb 0 (outs c) && ranks) → x₃ ≡ (outputs && named) → x ≡ (reads && x₃) → x ≡ every (constraint_tests r n c)
  unfolding constraint_tests
  constraint_right r n fp fn x₁ reads gp gn x₂ outputs ranks named x₃ x efp efn e₁ er egp egn e₂ eo ek en e₃ e =
      e
      ∙ ap₂ ◌&&◌ (er ∙ ap₂ ◌&&◌ efp (e₁ ∙ ap (λ (b : Bool). b && eqb (bit_and c.read_plain c.read_negated) 0) efn))
      (e₃ ∙ ap₂ ◌&&◌ (eo ∙ ap₂ ◌&&◌ egp (e₂ ∙ ap (λ (b : Bool). b && eqb (bit_and c.out_plain c.out_negated) 0) egn))
      (en ∙ ap (λ (b : Bool). ltb 0 (outs c) && b) (ek ∙ sym (and_unit (all most_outputs (rank_ok c))) ∙ sized (length c.ranks) most_outputs _ long))
      ∙ group (ltb c.out_plain (2 ^ n)) (ltb c.out_negated (2 ^ n)) _ _)
      ∙ group (ltb c.read_plain (2 ^ r)) (ltb c.read_negated (2 ^ r)) _ _

-- ---- the set

module _ (s : Set) where
  pub bad_counts : every (count_tests s.r s.n s.m) ≡ false → false ≡ well_formed s
  unfolding well_formed set_tests
  bad_counts e = sym (rw e)

  pub set_tests_law : (p q c z v x y : Bool) → every (count_tests s.r s.n s.m) ≡ true
      → length s.reads ≡ most_reads → length s.outputs ≡ most_outputs → length s.constraints ≡ most_constraints
      → p ≡ all most_reads (read_place s.reads s.r s.n) → q ≡ all most_outputs (output_place s.reads s.r s.outputs s.n) → c ≡ all most_constraints (constraint_place s)
      → z ≡ ltb s.rest (2 ^ s.n) → v ≡ (c && z) → x ≡ (q && v) → y ≡ (p && x) → y ≡ well_formed s
  unfolding well_formed set_tests length_tests
  set_tests_law p q c z v x y ec lr lo lc ep eq eo ez ev ex ey =
      ey ∙ ap₂ ◌&&◌ ep (three q c z _ _ _ v x eq eo ez ev ex)
      ∙ and_on (every (length_tests s)) _
      (sym (sized (length s.reads) most_reads true lr ∙ ap (λ (b : Bool). eqb (length s.reads) most_reads && b)
      (sized (length s.outputs) most_outputs true lo ∙ ap (λ (b : Bool). eqb (length s.outputs) most_outputs && b) (sized (length s.constraints) most_constraints true lc))))
      ∙ and_on (every (count_tests s.r s.n s.m)) _ ec
