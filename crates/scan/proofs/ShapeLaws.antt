-- What a well-formed set is, part by part: its counts, its constraints, its points, and zeros beyond them.
-- Assumes nothing.
use mathlib.Core.Path.{◌≡◌, sym, ap, ◌∙◌, refl, ap₂}
use mathlib.Core.Bool.{Bool, true, cond, false, ◌&&◌}
use Prim.Native.Nat.{ℕ, ◌+◌, ◌^◌, ◌≤◌, ◌<◌}
use native.Mathlib.Nat.{lt_of_lt_of_le}
use native.Mathlib.Omega.{arith}
use lib.Dec.{ltb, eqb, leb}
use lib.ListN.{length}
use lib.Pow.{pow_mono}
use lib.Bits.{bit_and, or_lt}
use borrow.Author.Tests.{leb-true, ltb-true, eqb-true, lt-ltb, le-ltb, le-leb, lt-leb}
use mathlib.Core.List.{List, [], ◌∷◌}
use Rattle.words.specs.Loop.{every, all}
use Rattle.words.proofs.BoolLaws.{clash, every_at, and_true, cond_true, cond_false, and_false, three}
use Rattle.words.proofs.LoopLaws.{all_at}
use Rattle.scan.specs.declared.set.Kind.{Kind}
use Rattle.scan.specs.declared.set.Kind.TheVariants.{Sensor, PastOutput, PastSensor}
use Rattle.scan.specs.declared.set.Constraint.{Constraint}
use Rattle.scan.specs.declared.set.Set.{Set}
use Rattle.scan.specs.Set.{most_reads, most_outputs, most_points, most_constraints, constraint, rank, outs, read_point, output_point}
use Rattle.scan.specs.Shape.{is_sensor, count_tests, length_tests, rank_ok, constraint_tests, constraint_zero, constraint_place, set_tests, well_formed, kind_ok, read_ok, read_zero, read_place, output_ok, output_place}
use Rattle.scan.specs.declared.set.ReadPoint.{ReadPoint}
use Rattle.scan.specs.declared.set.OutputPoint.{OutputPoint}
use Rattle.scan.specs.Names.{name_ok, name_zero, first_read, first_output}

-- ---- counts

pub record Counts (s : Set) : Type 0 where
  pub r_le : s.r ≤ most_reads
  pub n_pos : 1 ≤ s.n
  pub n_le : s.n ≤ most_outputs
  pub sum_le : s.r + s.n ≤ most_points
  pub m_le : s.m ≤ most_constraints

pub counts_ok : (s : Set) → every (count_tests s.r s.n s.m) ≡ true → Counts s
unfolding count_tests
counts_ok s e =
    let c = every_at (count_tests s.r s.n s.m) e in
    record { r_le = leb-true _ _ (c 0); n_pos = leb-true _ _ (c 1); n_le = leb-true _ _ (c 2); sum_le = leb-true _ _ (c 3); m_le = leb-true _ _ (c 4) }

-- the tests of the counts, by the way that the code's tests went
module _ (r n m : ℕ) where
  pub counts_rest : (x y : Bool) → r ≤ most_reads → n ≤ most_outputs → x ≡ (leb (r + n) most_points && leb m most_constraints) → y ≡ (leb 1 n && x) → y ≡ every (count_tests r n m)
  unfolding count_tests
  counts_rest x y hr hn ex ey =
      three (leb 1 n) (leb (r + n) most_points) (leb m most_constraints) (leb 1 n) (leb (r + n) most_points) (leb m most_constraints) x y refl refl refl ex ey
      ∙ ap₂ (λ (a c : Bool). a && (leb 1 n && (c && (leb (r + n) most_points && (leb m most_constraints && true))))) (sym (le-leb r most_reads hr)) (sym (le-leb n most_outputs hn))

  pub many_reads : most_reads < r → false ≡ every (count_tests r n m)
  unfolding count_tests
  many_reads h = ap (λ (a : Bool). a && (leb 1 n && (leb n most_outputs && (leb (r + n) most_points && (leb m most_constraints && true))))) (sym (lt-leb r most_reads h))

  pub many_outputs : most_outputs < n → false ≡ every (count_tests r n m)
  unfolding count_tests
  many_outputs h =
      sym
      (and_false (leb r most_reads) _ (and_false (leb 1 n) (leb n most_outputs && (leb (r + n) most_points && (leb m most_constraints && true)))
      (ap (λ (c : Bool). c && (leb (r + n) most_points && (leb m most_constraints && true))) (lt-leb n most_outputs h))))

  -- what the counts' tests tell
  pub counts_told_law : every (count_tests r n m) ≡ true → (r ≤ most_reads) × (n ≤ most_outputs)
  unfolding count_tests
  counts_told_law e = (leb-true r most_reads (every_at (count_tests r n m) e 0), leb-true n most_outputs (every_at (count_tests r n m) e 2))

-- ---- constraints

-- the masks of a constraint are within r read points and n outputs, no point stands in it twice, an output does, and ranks are below 256
pub record Masks (r n : ℕ) (c : Constraint) : Type 0 where
  pub read_plain : c.read_plain < 2 ^ r
  pub read_negated : c.read_negated < 2 ^ r
  pub read_once : bit_and c.read_plain c.read_negated ≡ 0
  pub out_plain : c.out_plain < 2 ^ n
  pub out_negated : c.out_negated < 2 ^ n
  pub out_once : bit_and c.out_plain c.out_negated ≡ 0
  pub has_out : 0 < outs c
  pub ranks_long : length c.ranks ≡ most_outputs
  pub ranks_ok : (k : ℕ) → k < most_outputs → rank_ok c k ≡ true

pub constraint_masks : (r n : ℕ) (c : Constraint) → every (constraint_tests r n c) ≡ true → Masks r n c
unfolding constraint_tests
constraint_masks r n c e =
    let t = every_at (constraint_tests r n c) e in
    record {
      read_plain = ltb-true _ _ (t 0);
      read_negated = ltb-true _ _ (t 1);
      read_once = eqb-true _ _ (t 2);
      out_plain = ltb-true _ _ (t 3);
      out_negated = ltb-true _ _ (t 4);
      out_once = eqb-true _ _ (t 5);
      has_out = ltb-true _ _ (t 6);
      ranks_long = eqb-true _ _ (t 7);
      ranks_ok = all_at most_outputs (rank_ok c) (t 8);
    }

-- a rank is below 256
pub rank_lt : (c : Constraint) (k : ℕ) → rank_ok c k ≡ true → rank c k < 256
unfolding rank_ok
rank_lt c k e = ltb-true _ _ (and_true (ltb (rank c k) 256) _ e).0

-- the outputs that a constraint names are within n
pub outs_lt : (r n : ℕ) (c : Constraint) → Masks r n c → outs c < 2 ^ n
outs_lt r n c ms = or_lt n c.out_plain c.out_negated ms.out_plain ms.out_negated

-- ---- the set

module _ (s : Set) (ok : well_formed s ≡ true) where
  pub counts : Counts s
  unfolding well_formed set_tests
  counts = counts_ok s (every_at (set_tests s) ok 0)

  pub lengths : (length s.reads ≡ most_reads) × (length s.outputs ≡ most_outputs) × (length s.constraints ≡ most_constraints)
  unfolding well_formed set_tests length_tests
  lengths =
      let t = every_at (length_tests s) (every_at (set_tests s) ok 1) in
      (eqb-true _ _ (t 0), eqb-true _ _ (t 1), eqb-true _ _ (t 2))

  -- the rest word has bits at outputs only
  pub rest_lt : s.rest < 2 ^ s.n
  unfolding well_formed set_tests
  rest_lt = ltb-true s.rest (2 ^ s.n) (every_at (set_tests s) ok 5)

  -- a constraint in use passes its tests
  pub constraint_ok : (i : ℕ) → i < s.m → every (constraint_tests s.r s.n (constraint s i)) ≡ true
  unfolding well_formed set_tests constraint_place
  constraint_ok i h =
      let within : i < most_constraints = omega (arith, counts.m_le) in
      sym (ap (λ (b : Bool). cond b (every (constraint_tests s.r s.n (constraint s i))) (constraint_zero (constraint s i))) (lt-ltb i s.m h))
      ∙ all_at most_constraints (constraint_place s) (every_at (set_tests s) ok 4) i within

  pub masks : (i : ℕ) → i < s.m → Masks s.r s.n (constraint s i)
  masks i h = constraint_masks s.r s.n (constraint s i) (constraint_ok i h)

  -- a constraint beyond the count is zero
  pub beyond_zero : (i : ℕ) → s.m ≤ i → i < most_constraints → constraint_zero (constraint s i) ≡ true
  unfolding well_formed set_tests constraint_place
  beyond_zero i l h =
      sym (ap (λ (b : Bool). cond b (every (constraint_tests s.r s.n (constraint s i))) (constraint_zero (constraint s i))) (le-ltb i s.m l))
      ∙ all_at most_constraints (constraint_place s) (every_at (set_tests s) ok 4) i h

  -- a word of n bits has sixteen
  pub wide : (x : ℕ) → x < 2 ^ s.n → x < 2 ^ 16
  wide x h = lt_of_lt_of_le h (pow_mono {i = s.n} {j = 16} (omega (arith, counts.n_le)))

module _ (s : Set) where
  -- what a well-formed set's counts are
  pub formed_counts : well_formed s ≡ true → (s.r ≤ most_reads) × (s.n ≤ most_outputs)
  unfolding well_formed set_tests
  formed_counts e = counts_told_law s.r s.n s.m (every_at (set_tests s) e 0)

-- ---- a point

-- what passes the test of a sensor is one
pub is_sensor_law : (x : Kind) → is_sensor x ≡ true → x ≡ Sensor
is_sensor_law Sensor e = refl
is_sensor_law (PastOutput i) e = clash e refl
is_sensor_law (PastSensor i) e = clash e refl

-- read point k: its kind and its name are right, and no earlier read point has its name
pub record ReadFormed (reads : List ReadPoint) (n k : ℕ) : Type 0 where
  pub kind_ok_law : kind_ok reads n k (read_point reads k).kind ≡ true
  pub name_ok_law : name_ok (read_point reads k).name ≡ true
  pub own : first_read reads k (read_point reads k).name ≡ k

pub read_formed : (reads : List ReadPoint) (n k : ℕ) → read_ok reads n k ≡ true → ReadFormed reads n k
unfolding read_ok
read_formed reads n k e =
    let p = read_point reads k in
    let tests = kind_ok reads n k p.kind ∷ name_ok p.name ∷ eqb (first_read reads k p.name) k ∷ [] in
    record { kind_ok_law = every_at tests e 0; name_ok_law = every_at tests e 1; own = eqb-true (first_read reads k p.name) k (every_at tests e 2) }

-- output j: its name is right, and no read point and no earlier output has it
pub record OutputFormed (reads : List ReadPoint) (r : ℕ) (outputs : List OutputPoint) (j : ℕ) : Type 0 where
  pub name_ok_law : name_ok (output_point outputs j).name ≡ true
  pub no_read_law : first_read reads r (output_point outputs j).name ≡ r
  pub own : first_output outputs j (output_point outputs j).name ≡ j

pub output_formed : (reads : List ReadPoint) (r : ℕ) (outputs : List OutputPoint) (j : ℕ) → output_ok reads r outputs j ≡ true → OutputFormed reads r outputs j
unfolding output_ok
output_formed reads r outputs j e =
    let name = (output_point outputs j).name in
    let tests = name_ok name ∷ eqb (first_read reads r name) r ∷ eqb (first_output outputs j name) j ∷ [] in
    record {
      name_ok_law = every_at tests e 0;
      no_read_law = eqb-true (first_read reads r name) r (every_at tests e 1);
      own = eqb-true (first_output outputs j name) j (every_at tests e 2);
    }

-- ---- all points

pub record PointsFormed (s : Set) : Type 0 where
  pub reads_long : length s.reads ≡ most_reads
  pub outputs_long : length s.outputs ≡ most_outputs
  pub constraints_long : length s.constraints ≡ most_constraints
  pub reads_few : s.r ≤ most_reads
  pub outputs_few : s.n ≤ most_outputs
  pub read_ok_law : (k : ℕ) → k < s.r → read_ok s.reads s.n k ≡ true
  pub read_zero_law : (k : ℕ) → s.r ≤ k → k < most_reads → read_zero (read_point s.reads k) ≡ true
  pub output_ok_law : (j : ℕ) → j < s.n → output_ok s.reads s.r s.outputs j ≡ true
  pub output_zero : (j : ℕ) → s.n ≤ j → j < most_outputs → name_zero (output_point s.outputs j).name ≡ true

module _ (s : Set) where
  read_used : all most_reads (read_place s.reads s.r s.n) ≡ true → s.r ≤ most_reads → (k : ℕ) → k < s.r → read_ok s.reads s.n k ≡ true
  unfolding read_place
  read_used e few k h =
      cond_true (ltb k s.r) (read_ok s.reads s.n k) (read_zero (read_point s.reads k)) (lt-ltb k s.r h)
      ∙ all_at most_reads (read_place s.reads s.r s.n) e k (omega arith)

  read_beyond : all most_reads (read_place s.reads s.r s.n) ≡ true → (k : ℕ) → s.r ≤ k → k < most_reads → read_zero (read_point s.reads k) ≡ true
  unfolding read_place
  read_beyond e k h l =
      cond_false (ltb k s.r) (read_ok s.reads s.n k) (read_zero (read_point s.reads k)) (le-ltb k s.r h)
      ∙ all_at most_reads (read_place s.reads s.r s.n) e k l

  output_used : all most_outputs (output_place s.reads s.r s.outputs s.n) ≡ true → s.n ≤ most_outputs → (j : ℕ) → j < s.n
      → output_ok s.reads s.r s.outputs j ≡ true
  unfolding output_place
  output_used e few j h =
      cond_true (ltb j s.n) (output_ok s.reads s.r s.outputs j) (name_zero (output_point s.outputs j).name) (lt-ltb j s.n h)
      ∙ all_at most_outputs (output_place s.reads s.r s.outputs s.n) e j (omega arith)

  output_beyond : all most_outputs (output_place s.reads s.r s.outputs s.n) ≡ true → (j : ℕ) → s.n ≤ j → j < most_outputs
      → name_zero (output_point s.outputs j).name ≡ true
  unfolding output_place
  output_beyond e j h l =
      cond_false (ltb j s.n) (output_ok s.reads s.r s.outputs j) (name_zero (output_point s.outputs j).name) (le-ltb j s.n h)
      ∙ all_at most_outputs (output_place s.reads s.r s.outputs s.n) e j l

  pub points_formed : well_formed s ≡ true → PointsFormed s
  unfolding well_formed set_tests length_tests
  points_formed e =
      let lengths = every_at (length_tests s) (every_at (set_tests s) e 1) in
      let reads = every_at (set_tests s) e 2 in
      let outputs = every_at (set_tests s) e 3 in
      let few = formed_counts s e in
      record {
        reads_long = eqb-true (length s.reads) most_reads (lengths 0);
        outputs_long = eqb-true (length s.outputs) most_outputs (lengths 1);
        constraints_long = eqb-true (length s.constraints) most_constraints (lengths 2);
        reads_few = few.0;
        outputs_few = few.1;
        read_ok_law = read_used reads few.0;
        read_zero_law = read_beyond reads;
        output_ok_law = output_used outputs few.1;
        output_zero = output_beyond outputs;
      }
