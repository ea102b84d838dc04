-- A point that fits at its place of the points before it, which are all that decide it.
-- Assumes nothing.
use mathlib.Core.Path.{◌≡◌, refl, sym, ◌∙◌, ap, ap₂}
use mathlib.Core.Bool.{true, false, ◌&&◌, ◌||◌}
use mathlib.Core.List.{List}
use Prim.Native.Nat.{ℕ, ◌<◌}
use native.Mathlib.Omega.{arith}
use lib.Dec.{ltb}
use borrow.Author.Tests.{ltb-true, ltb-false, le-ltb, eq-eqb}
use Rattle.words.proofs.BoolLaws.{and_true, or_false}
use Rattle.words.proofs.LoopLaws.{first_cong, first_spec}
use Rattle.scan.specs.declared.set.Kind.{Kind}
use Rattle.scan.specs.declared.set.Kind.TheVariants.{Sensor, PastOutput, PastSensor}
use Rattle.scan.specs.declared.set.ReadPoint.{ReadPoint}
use Rattle.scan.specs.declared.set.OutputPoint.{OutputPoint}
use Rattle.scan.specs.Set.{read_point, output_point}
use Rattle.scan.specs.Names.{name_ok, same_name, read_has_name, first_read, output_named, first_output, is_used}
use Rattle.scan.specs.Shape.{is_sensor, kind_ok, read_ok, output_ok}
use Rattle.scan.proofs.ShapeLaws.{read_formed, output_formed}

-- ---- points that fit

-- a read point that may stand at place i of a set of n outputs
pub record ReadFits (n : ℕ) (reads : List ReadPoint) (i : ℕ) (p : ReadPoint) : Type 0 where
  pub kind_ok_law : kind_ok reads n i p.kind ≡ true
  pub name_ok_law : name_ok p.name ≡ true
  pub own : first_read reads i p.name ≡ i

-- an output that may stand at place j of a set of these r read points
pub record OutputFits (reads : List ReadPoint) (r : ℕ) (outputs : List OutputPoint) (j : ℕ) (p : OutputPoint) : Type 0 where
  pub name_ok_law : name_ok p.name ≡ true
  pub no_read_law : first_read reads r p.name ≡ r
  pub own : first_output outputs j p.name ≡ j

-- A read point of a well-formed set fits, and a list in which it fits passes its tests.
pub read_fits : (n : ℕ) (reads : List ReadPoint) (k : ℕ) → read_ok reads n k ≡ true → ReadFits n reads k (read_point reads k)
read_fits n reads k e = let f = read_formed reads n k e in record { kind_ok_law = f.kind_ok_law; name_ok_law = f.name_ok_law; own = f.own }

pub fits_read : (n : ℕ) (reads : List ReadPoint) (k : ℕ) → ReadFits n reads k (read_point reads k) → read_ok reads n k ≡ true
unfolding read_ok
fits_read n reads k f = rw (f.kind_ok_law, f.name_ok_law, eq-eqb (first_read reads k (read_point reads k).name) k f.own)

-- An output likewise.
pub output_fits : (reads : List ReadPoint) (r : ℕ) (outputs : List OutputPoint) (j : ℕ) → output_ok reads r outputs j ≡ true → OutputFits reads r outputs j (output_point outputs j)
output_fits reads r outputs j e = let f = output_formed reads r outputs j e in record { name_ok_law = f.name_ok_law; no_read_law = f.no_read_law; own = f.own }

pub fits_output : (reads : List ReadPoint) (r : ℕ) (outputs : List OutputPoint) (j : ℕ) → OutputFits reads r outputs j (output_point outputs j) → output_ok reads r outputs j ≡ true
unfolding output_ok
fits_output reads r outputs j f =
    let name = (output_point outputs j).name in
    rw (f.name_ok_law, eq-eqb (first_read reads r name) r f.no_read_law, eq-eqb (first_output outputs j name) j f.own)

-- ---- only the places before count

kind_same : (n : ℕ) (a b : List ReadPoint) (i : ℕ) (kind : Kind) → ((k : ℕ) → k < i → read_point a k ≡ read_point b k) → kind_ok a n i kind ≡ true → kind_ok b n i kind ≡ true
unfolding kind_ok
kind_same n a b i Sensor s e = refl
kind_same n a b i (PastOutput k) s e = e
kind_same n a b i (PastSensor k) s e =
    let l = ltb-true k i (and_true (ltb k i) (is_sensor (read_point a k).kind) e).0 in
    ap (λ (p : ReadPoint). ltb k i && is_sensor p.kind) (sym (s k l)) ∙ e

-- A read point fits where another list has the same points before.
pub read_local : (n : ℕ) (a b : List ReadPoint) (i : ℕ) (p : ReadPoint) → ((k : ℕ) → k < i → read_point a k ≡ read_point b k) → ReadFits n a i p → ReadFits n b i p
unfolding first_read read_has_name
read_local n a b i p s f = record {
  kind_ok_law = kind_same n a b i p.kind s f.kind_ok_law;
  name_ok_law = f.name_ok_law;
  own = first_cong i (read_has_name b p.name) (read_has_name a p.name) (λ k h. ap (λ (q : ReadPoint). same_name q.name p.name) (sym (s k h))) ∙ f.own;
}

-- So does an output.
pub output_local : (reads : List ReadPoint) (r : ℕ) (a b : List OutputPoint) (j : ℕ) (p : OutputPoint)
    → ((k : ℕ) → k < j → output_point a k ≡ output_point b k) → OutputFits reads r a j p → OutputFits reads r b j p
unfolding first_output output_named
output_local reads r a b j p s f = record {
  name_ok_law = f.name_ok_law;
  no_read_law = f.no_read_law;
  own = first_cong j (output_named b p.name) (output_named a p.name) (λ k h. ap (λ (q : OutputPoint). same_name q.name p.name) (sym (s k h))) ∙ f.own;
}

-- ---- a name that is not used

module _ (reads : List ReadPoint) (i : ℕ) (outputs : List OutputPoint) (j : ℕ) (name : List ℕ) where
  pub not_used : first_read reads i name ≡ i → first_output outputs j name ≡ j → is_used reads i outputs j name ≡ false
  unfolding is_used
  not_used a b = ap₂ ◌||◌ (le-ltb (first_read reads i name) i (omega arith)) (le-ltb (first_output outputs j name) j (omega arith))

  pub unused : is_used reads i outputs j name ≡ false → (first_read reads i name ≡ i) × (first_output outputs j name ≡ j)
  unfolding is_used first_read first_output
  unused e =
      let o = or_false (ltb (first_read reads i name) i) (ltb (first_output outputs j name) j) e in
      let a = ltb-false (first_read reads i name) i o.0 in
      let b = ltb-false (first_output outputs j name) j o.1 in
      let c = (first_spec i (read_has_name reads name)).within in
      let d = (first_spec j (output_named outputs name)).within in
      (omega arith, omega arith)
