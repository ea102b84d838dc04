-- The bodies of read points and outputs: those of points that fit give the points, and those that give a point are the ones written for it.
-- Assumes nothing.
use mathlib.Core.Path.{◌≡◌, refl, sym, ◌∙◌, ap, ap₂, subst}
use mathlib.Core.Bool.{Bool, true, false, cond, ◌&&◌}
use mathlib.Core.List.{List, [], ◌∷◌, ◌++◌}
use Prim.Native.Nat.{ℕ, ◌+◌, ◌≤◌}
use native.Mathlib.Omega.{arith}
use lib.Dec.{ltb, eqb}
use lib.ListN.{length, get_or, drop, length-drop}
use borrow.Author.Tests.{eqb-true}
use Rattle.words.specs.Loop.{first, first_from}
use Rattle.scan.specs.declared.set.Kind.{Kind}
use Rattle.scan.specs.declared.set.Kind.TheVariants.{Sensor, PastOutput, PastSensor}
use Rattle.scan.specs.declared.set.ReadPoint.{ReadPoint}
use Rattle.scan.specs.declared.set.OutputPoint.{OutputPoint}
use Rattle.scan.specs.declared.set.Set.{Set}
use Rattle.scan.specs.Set.{name_places, read_point}
use Rattle.shape.specs.Spelling.{spelling}
use Rattle.scan.specs.Names.{name_bytes, name_ok, first_output, is_used}
use Rattle.scan.specs.Shape.{is_sensor, kind_ok}
use Rattle.header.specs.Fault.{Refused as Denied, Good}
use Rattle.std.specs.Prelude.{Option, None, Some}
use Rattle.loader.specs.Load.{NameField, name_field, kind_if, kind_of, read_told, read_field, sensor_at, read_of, output_of}
use Rattle.writer.specs.Write.{kind_bytes, read_body, output_body}
use Rattle.loader.proofs.LoadLaws.{name_bad, name_used_law, name_good, read_known}
use Rattle.setfile.proofs.Fields.{two_and_rest}
use Rattle.setfile.proofs.NamesBack.{name_back, name_taken}
use Rattle.setfile.proofs.PointsFit.{ReadFits, OutputFits, not_used, unused}

-- ---- kinds

kind_back : (set : Set) (i : ℕ) (kind : Kind) (rest : List ℕ) → kind_ok set.reads set.n i kind ≡ true
    → kind_of set.n (sensor_at set.reads) i (get_or (kind_bytes kind ++ rest) 0 0) (get_or (kind_bytes kind ++ rest) 1 0) ≡ Some kind
unfolding kind_of kind_ok
kind_back set i Sensor rest e = refl
kind_back set i (PastOutput k) rest e = rw e
kind_back set i (PastSensor k) rest e = rw e

kind_drop : (kind : Kind) (rest : List ℕ) → drop 2 (kind_bytes kind ++ rest) ≡ rest
kind_drop Sensor rest = refl
kind_drop (PastOutput k) rest = refl
kind_drop (PastSensor k) rest = refl

if_known : (b : Bool) (k kind : Kind) → kind_if b k ≡ Some kind → (b ≡ true) × (k ≡ kind)
if_known true k kind e = (refl, cc)
if_known false k kind e = let z : ◌≡◌ {A = ℕ} 0 1 = cc in absurd (omega arith)

module _ (set : Set) (i k x : ℕ) (kind : Kind) where
  Right : Kind → Type 0
  Right t = (kind_bytes t ≡ k ∷ x ∷ []) × (kind_ok set.reads set.n i t ≡ true)

  kind_cases : (a b c : Bool) → eqb k 0 ≡ a → eqb k 1 ≡ b → eqb k 2 ≡ c
      → cond a (kind_if (eqb x 0) Sensor) (cond b (kind_if (ltb x set.n) (PastOutput x)) (cond c (kind_if (ltb x i && is_sensor (read_point set.reads x).kind) (PastSensor x)) None)) ≡ Some kind
      → Right kind
  unfolding Right kind_ok
  kind_cases true b c ea eb ec e =
      let t = if_known (eqb x 0) Sensor kind e in
      subst Right t.1 (ap₂ (λ (u v : ℕ). u ∷ v ∷ []) (sym (eqb-true k 0 ea)) (sym (eqb-true x 0 t.0)), refl)
  kind_cases false true c ea eb ec e =
      let t = if_known (ltb x set.n) (PastOutput x) kind e in
      subst Right t.1 (ap (λ (u : ℕ). u ∷ x ∷ []) (sym (eqb-true k 1 eb)), t.0)
  kind_cases false false true ea eb ec e =
      let t = if_known (ltb x i && is_sensor (read_point set.reads x).kind) (PastSensor x) kind e in
      subst Right t.1 (ap (λ (u : ℕ). u ∷ x ∷ []) (sym (eqb-true k 2 ec)), t.0)
  kind_cases false false false ea eb ec e = let z : ◌≡◌ {A = ℕ} 0 1 = cc in absurd (omega arith)

  -- a kind that was read is right, and its bytes are those that were read
  kind_taken : kind_of set.n (sensor_at set.reads) i k x ≡ Some kind → (kind_bytes kind ≡ k ∷ x ∷ []) × (kind_ok set.reads set.n i kind ≡ true)
  unfolding kind_of Right
  kind_taken e = kind_cases (eqb k 0) (eqb k 1) (eqb k 2) refl refl refl e

-- ---- read points

-- no output is looked at
no_outputs : (set : Set) (name : List ℕ) → first_output set.outputs 0 name ≡ 0
unfolding first_output first first_from
no_outputs set name = refl

-- a name that fits is given by its bytes, where it is not used
name_told : (used : List ℕ → Bool) (name : List ℕ) → name_ok name ≡ true → used name ≡ false → name_field used (name_bytes name) ≡ record { taken = Good; name = name }
name_told used name ok new = name_good used (name_bytes name) name (name_back name ok) new

-- The body of a read point that fits gives the point.
pub read_back : (set : Set) (i : ℕ) (p : ReadPoint) → ReadFits set.n set.reads i p → read_of set i (read_body p) ≡ record { taken = Good; read = p }
unfolding read_of
read_back set i p f =
    let used = is_used set.reads i set.outputs 0 in
    let named = name_told used p.name f.name_ok_law (not_used set.reads i set.outputs 0 p.name f.own (no_outputs set p.name)) in
    read_known set.n (sensor_at set.reads) used i (read_body p) p.kind (record { taken = Good; name = p.name })
    (kind_back set i p.kind (name_bytes p.name) f.kind_ok_law) (sym (ap (name_field used) (kind_drop p.kind (name_bytes p.name)) ∙ named))

-- what a name that was given tells of its bytes
record NameTold (used : List ℕ → Bool) (bytes : List ℕ) : Type 0 where
  name_ok_law : name_ok (name_field used bytes).name ≡ true
  same : name_bytes (name_field used bytes).name ≡ bytes
  new : used (name_field used bytes).name ≡ false

name_given : (used : List ℕ → Bool) (bytes : List ℕ) → 1 ≤ length bytes → length bytes ≤ name_places → (name_field used bytes).taken ≡ Good → NameTold used bytes
name_given used bytes some few t = go (spelling bytes) refl
  where
    by_used : (name : List ℕ) (u : Bool) → spelling bytes ≡ Some name → used name ≡ u → NameTold used bytes
    by_used name true g e = absurd (never (sym (ap (λ (f : NameField). f.taken) (name_used_law used bytes name g e)) ∙ t))
      where
        never : Denied 8 ≡ Good → ⊥
        never w = let z : ◌≡◌ {A = ℕ} 0 1 = cc in omega arith
    by_used name false g e =
        let n = name_taken bytes name some few g in
        let same : name ≡ (name_field used bytes).name = sym (ap (λ (f : NameField). f.name) (name_good used bytes name g e)) in
        record {
          name_ok_law = subst (λ (x : List ℕ). name_ok x ≡ true) same n.name_ok_law;
          same = subst (λ (x : List ℕ). name_bytes x ≡ bytes) same n.same;
          new = subst (λ (x : List ℕ). used x ≡ false) same e;
        }

    go : (got : Option (List ℕ)) → spelling bytes ≡ got → NameTold used bytes
    go (Some name) g = by_used name (used name) g refl
    go None g = absurd (never (sym (ap (λ (f : NameField). f.taken) (name_bad used bytes g)) ∙ t))
      where
        never : Denied 7 ≡ Good → ⊥
        never w = let z : ◌≡◌ {A = ℕ} 0 1 = cc in omega arith

module _ (body : List ℕ) (set : Set) (i : ℕ) (some : 3 ≤ length body) (few : length body ≤ 2 + name_places) where
  by_kind : (kr : Option Kind) → kind_of set.n (sensor_at set.reads) i (get_or body 0 0) (get_or body 1 0) ≡ kr → let f = read_told (name_field (is_used set.reads i set.outputs 0) (drop 2 body)) kr in
      f.taken ≡ Good → ReadFits set.n set.reads i f.read × (read_body f.read ≡ body)
  by_kind None e t = let z : ◌≡◌ {A = ℕ} 0 1 = cc in absurd (omega arith)
  by_kind (Some kind) e t =
      let l = length-drop 2 body in
      let k = kind_taken set i (get_or body 0 0) (get_or body 1 0) kind e in
      let n = name_given (is_used set.reads i set.outputs 0) (drop 2 body) (omega arith) (omega arith) t in (
        record { kind_ok_law = k.1; name_ok_law = n.name_ok_law; own = (unused set.reads i set.outputs 0 (name_field (is_used set.reads i set.outputs 0) (drop 2 body)).name n.new).0 },
        ap₂ ◌++◌ k.0 n.same ∙ sym (two_and_rest body (omega arith)),
      )

  -- A body that gives a read point is the one written for it, and the point fits.
  pub read_taken : (read_of set i body).taken ≡ Good → ReadFits set.n set.reads i (read_of set i body).read × (read_body (read_of set i body).read ≡ body)
  unfolding read_of read_field
  read_taken t = by_kind (kind_of set.n (sensor_at set.reads) i (get_or body 0 0) (get_or body 1 0)) refl t

-- ---- outputs

-- The body of an output that fits gives its name.
pub output_back : (set : Set) (j : ℕ) (p : OutputPoint) → OutputFits set.reads set.r set.outputs j p → output_of set j (output_body p) ≡ record { taken = Good; name = p.name }
unfolding output_of
output_back set j p f =
    name_told (is_used set.reads set.r set.outputs j) p.name f.name_ok_law (not_used set.reads set.r set.outputs j p.name f.no_read_law f.own)

-- A body that gives an output's name is the one written for it, and the output fits.
pub output_taken : (body : List ℕ) (set : Set) (j : ℕ) → 1 ≤ length body → length body ≤ name_places → (output_of set j body).taken ≡ Good
    → OutputFits set.reads set.r set.outputs j (record { name = (output_of set j body).name }) × (output_body (record { name = (output_of set j body).name }) ≡ body)
unfolding output_of
output_taken body set j some few t =
    let n = name_given (is_used set.reads set.r set.outputs j) body some few t in
    let w = unused set.reads set.r set.outputs j (name_field (is_used set.reads set.r set.outputs j) body).name n.new in
    (record { name_ok_law = n.name_ok_law; no_read_law = w.0; own = w.1 }, n.same)
