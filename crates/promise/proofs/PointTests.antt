-- The bodies of points: the column's tests, by the kinds and names so far, tell what the loader takes, by the points so far.
-- Assumes nothing.
use mathlib.Core.Path.{◌≡◌, refl, sym, ap, subst, ◌∙◌}
use mathlib.Core.Bool.{Bool, true, false, not, ◌&&◌}
use mathlib.Core.List.{List, [], ◌∷◌, ◌++◌, append-nil}
use mathlib.Core.Logic.{inl, inr}
use Prim.Native.Nat.{ℕ, ◌+◌, ◌≤◌, ◌<◌}
use native.Mathlib.Decide.{ℕ_discrete}
use native.Mathlib.Omega.{arith}
use lib.Dec.{ltb, eqb}
use lib.ListN.{length, get_or, drop, set, length-append, length-drop, length-set, get_or-append}
use lib.Seq.{get_or_at, get_or-set_same, get_or-set_other}
use borrow.Author.Tests.{eqb-true, ltb-true}
use Rattle.words.proofs.BoolLaws.{by_test, clash, or_false}
use Rattle.scan.specs.declared.set.Kind.{Kind}
use Rattle.scan.specs.declared.set.Kind.TheVariants.{Sensor, PastOutput, PastSensor}
use Rattle.scan.specs.declared.set.ReadPoint.{ReadPoint}
use Rattle.scan.specs.declared.set.OutputPoint.{OutputPoint}
use Rattle.scan.specs.declared.set.Set.{Set}
use Rattle.scan.specs.Set.{most_reads, name_places, no_read, no_output}
use Rattle.scan.specs.Names.{all_name_bytes, padded, is_used}
use Rattle.scan.specs.Shape.{is_sensor}
use Rattle.shape.proofs.SpellingLaws.{spell_name, spell_strange}
use Rattle.header.specs.Test.{test}
use Rattle.std.specs.Prelude.{None, Some}
use Rattle.loader.specs.Load.{NameField, ReadField, name_field, kind_of, read_field, sensor_at, read_of, output_of}
use Rattle.loader.proofs.LoadLaws.{name_bad, name_used_law, name_good, read_bad, read_known}
use Rattle.promise.specs.Column.{kind_fits, good_bytes, is_among, name_tests, read_tests}
use Rattle.promise.proofs.HeadTests.{BodyTells, body_behind}
use Rattle.promise.proofs.NamesSoFar.{good_bytes_law, Named, NamesAre, names_none, names_more, name_of_read, name_of_output, used_among}

-- ---- a name

-- of 1 to 8 bytes
name_tells : (at : ℕ) (used : List ℕ → Bool) (names : List (List ℕ)) (bytes : List ℕ) → 1 ≤ length bytes → length bytes ≤ name_places
    → (all_name_bytes bytes ≡ true → used (padded bytes) ≡ is_among names bytes)
    → BodyTells at (name_field used bytes).taken (name_tests at names bytes) (Named (name_field used bytes).name bytes)
unfolding name_tests
name_tells at used names bytes low high same =
    let told : (f : NameField) → name_field used bytes ≡ f → BodyTells at f.taken (name_tests at names bytes) (Named f.name bytes)
    → BodyTells at (name_field used bytes).taken (name_tests at names bytes) (Named (name_field used bytes).name bytes) =
    λ f e x. subst (λ (g : NameField). BodyTells at g.taken (name_tests at names bytes) (Named g.name bytes)) (sym e) x in
    by_test (all_name_bytes bytes)
    (λ n7.
    let e = sym (spell_name bytes low high n7) in
    let good : not (good_bytes bytes) ≡ false = ap not (good_bytes_law bytes ∙ n7) in
    by_test (used (padded bytes))
    (λ f8. told _ (name_used_law used bytes _ e f8) (inr (good, inl (sym (same n7) ∙ f8, refl, refl))))
    (λ n8. told _ (name_good used bytes _ e n8) ((good, (sym (same n7) ∙ n8, tt)), record { holds = refl; named = n7; few = high })))
    (λ f7. told _ (name_bad used bytes (sym (spell_strange bytes f7))) (inl (ap not (good_bytes_law bytes ∙ f7), refl, refl)))

-- ---- read points so far

pub record ReadsSoFar (reads : List ReadPoint) (i : ℕ) (kinds : List ℕ) (names : List (List ℕ)) : Type 0 where
  pub long : length reads ≡ most_reads
  pub kinds_long : length kinds ≡ i
  pub sensors : (k : ℕ) → k < i → sensor_at reads k ≡ eqb (get_or kinds k 0) 0
  pub named : NamesAre (name_of_read reads) i names

-- a read point is as its body says
pub record ReadMade (p : ReadPoint) (body : List ℕ) : Type 0 where
  pub sensor : is_sensor p.kind ≡ eqb (get_or body 0 0) 0
  pub name : Named p.name (drop 2 body)

pub reads_none : (reads : List ReadPoint) → length reads ≡ most_reads → ReadsSoFar reads 0 [] []
reads_none reads l = record { long = l; kinds_long = refl; sensors = λ k h. absurd (omega arith); named = names_none (name_of_read reads) }

pub reads_more : (reads : List ReadPoint) (i : ℕ) (kinds : List ℕ) (names : List (List ℕ)) (p : ReadPoint) (body : List ℕ) → i < most_reads → ReadMade p body
    → ReadsSoFar reads i kinds names → ReadsSoFar (set reads i p) (i + 1) (kinds ++ (get_or body 0 0 ∷ [])) (names ++ (drop 2 body ∷ []))
reads_more reads i kinds names p body h made so =
    let l = so.long in
    let w : i < length reads = omega arith in
    let c = so.kinds_long in
    record {
      long = length-set reads i p ∙ so.long;
      kinds_long = length-append kinds (get_or body 0 0 ∷ []) ∙ omega arith;
      sensors = λ k v. go k v w (ℕ_discrete k i);
      named = names_more (name_of_read reads) (name_of_read (set reads i p)) i names (drop 2 body)
          (λ k v. ap (λ (q : ReadPoint). q.name) (get_or-set_other reads i k p no_read (λ e. omega arith)))
          (subst (λ (q : ReadPoint). Named q.name (drop 2 body)) (sym (get_or-set_same reads i p no_read w)) made.name) so.named;
    }
  where
    go : (k : ℕ) → k < i + 1 → i < length reads → Dec (k ≡ i) → sensor_at (set reads i p) k ≡ eqb (get_or (kinds ++ (get_or body 0 0 ∷ [])) k 0) 0
    go k v w (yes e) =
        ap (sensor_at (set reads i p)) e ∙ ap (λ (q : ReadPoint). is_sensor q.kind) (get_or-set_same reads i p no_read w) ∙ made.sensor
        ∙ ap (λ (x : ℕ). eqb x 0) (sym (get_or_at kinds (get_or body 0 0) [] 0 i so.kinds_long) ∙ ap (λ (j : ℕ). get_or (kinds ++ (get_or body 0 0 ∷ [])) j 0) (sym e))
    go k v w (no e) =
        let c = so.kinds_long in
        let b : k < i = omega arith in
        let d : k < length kinds = omega arith in
        ap (λ (q : ReadPoint). is_sensor q.kind) (get_or-set_other reads i k p no_read e) ∙ so.sensors k b
        ∙ ap (λ (x : ℕ). eqb x 0) (sym (get_or-append kinds (get_or body 0 0 ∷ []) 0 k d))

-- ---- a kind

module _ (n i : ℕ) (sensor : ℕ → Bool) (kinds : List ℕ) (kind index : ℕ) (same : ltb index i && sensor index ≡ ltb index (length kinds) && eqb (get_or kinds index 0) 0) where
  kind_known : kind_fits n kinds kind index ≡ true → (k : Kind) × (kind_of n sensor i kind index ≡ Some k) × (is_sensor k ≡ eqb kind 0)
  unfolding kind_fits kind_of
  kind_known e =
      by_test (eqb kind 0)
      (λ a. by_test (eqb index 0) (λ b. (Sensor, rw (a, b), sym a)) (λ b. clash e (rw (eqb-true kind 0 a, b))))
      (λ a. by_test (eqb kind 1)
      (λ b. by_test (ltb index n) (λ c. (PastOutput index, rw (a, b, c), sym a)) (λ c. clash e (rw (eqb-true kind 1 b, c))))
      (λ b. by_test (eqb kind 2)
      (λ c. by_test (ltb index i && sensor index) (λ d. (PastSensor index, rw (a, b, c, d), sym a)) (λ d. clash e (rw (a, b, c, ← same, d))))
      (λ c. clash e (rw (a, b, c)))))

  kind_bad : kind_fits n kinds kind index ≡ false → kind_of n sensor i kind index ≡ None
  unfolding kind_fits kind_of
  kind_bad e =
      let f0 = or_false (eqb kind 0 && eqb index 0) _ e in
      let f1 = or_false (eqb kind 1 && ltb index n) _ f0.1 in
      by_test (eqb kind 0)
      (λ a. by_test (eqb index 0) (λ b. clash (rw (a, b)) f0.0) (λ b. rw (a, b)))
      (λ a. by_test (eqb kind 1)
      (λ b. by_test (ltb index n) (λ c. clash (rw (b, c)) f1.0) (λ c. rw (a, b, c)))
      (λ b. by_test (eqb kind 2)
      (λ c. by_test (ltb index i && sensor index) (λ d. clash (rw (c, ← same, d)) f1.1) (λ d. rw (a, b, c, d)))
      (λ c. rw (a, b, c))))

-- an earlier read point of kind 0
same_sensor : (reads : List ReadPoint) (i : ℕ) (kinds : List ℕ) (names : List (List ℕ)) (index : ℕ) → ReadsSoFar reads i kinds names
    → ltb index i && sensor_at reads index ≡ ltb index (length kinds) && eqb (get_or kinds index 0) 0
same_sensor reads i kinds names index so =
    ap (λ (k : ℕ). ltb index k && sensor_at reads index) (sym so.kinds_long)
    ∙ by_test (ltb index (length kinds))
    (λ t. let l = so.kinds_long in let h = ltb-true index (length kinds) t in rw (t, so.sensors index (omega arith)))
    (λ t. rw t)

-- ---- points

pub read_tells : (at : ℕ) (s : Set) (i : ℕ) (kinds : List ℕ) (names : List (List ℕ)) (body : List ℕ) → ReadsSoFar s.reads i kinds names → 3 ≤ length body → length body ≤ 2 + name_places
    → BodyTells at (read_of s i body).taken (read_tests at s.n kinds names body) (ReadMade (read_of s i body).read body)
unfolding read_of read_tests
read_tells at s i kinds names body so low high =
    let kind = get_or body 0 0 in
    let index = get_or body 1 0 in
    let six = test 6 at (not (kind_fits s.n kinds kind index)) in
    let rest = name_tests at names (drop 2 body) in
    let used = is_used s.reads i s.outputs 0 in
    let sensor = sensor_at s.reads in
    let got = read_field s.n sensor used i body in
    let told : (f : ReadField) → got ≡ f → BodyTells at f.taken (six ∷ rest) (ReadMade f.read body) → BodyTells at got.taken (six ∷ rest) (ReadMade got.read body) =
    λ f e x. subst (λ (g : ReadField). BodyTells at g.taken (six ∷ rest) (ReadMade g.read body)) (sym e) x in
    let same = same_sensor s.reads i kinds names index so in
    let long = length-drop 2 body in
    let named = name_field used (drop 2 body) in
    by_test (kind_fits s.n kinds kind index)
    (λ n6.
    let k = kind_known s.n i sensor kinds kind index same n6 in
    told _ (read_known s.n sensor used i body k.0 named k.1 refl)
    (body_behind at named.taken six rest (Named named.name (drop 2 body)) _ (ap not n6) (λ x. record { sensor = k.2; name = x })
    (name_tells at used names (drop 2 body) (omega arith) (omega arith)
    (λ good. used_among s.reads i s.outputs 0 names [] so.named (names_none (name_of_output s.outputs)) (drop 2 body) good (omega arith)
    ∙ ap (λ (l : List (List ℕ)). is_among l (drop 2 body)) (append-nil names)))))
    (λ f6. told _ (read_bad s.n sensor used i body (kind_bad s.n i sensor kinds kind index same f6)) (inl (ap not f6, refl, refl)))

pub output_tells : (at : ℕ) (s : Set) (j : ℕ) (a b : List (List ℕ)) (body : List ℕ) → NamesAre (name_of_read s.reads) s.r a → NamesAre (name_of_output s.outputs) j b
    → 1 ≤ length body → length body ≤ name_places → BodyTells at (output_of s j body).taken (name_tests at (a ++ b) body) (Named (output_of s j body).name body)
unfolding output_of
output_tells at s j a b body ra rb low high =
    name_tells at (is_used s.reads s.r s.outputs j) (a ++ b) body low high
    (λ good. used_among s.reads s.r s.outputs j a b ra rb body good high)

pub outputs_more : (outputs : List OutputPoint) (j : ℕ) (names : List (List ℕ)) (p : OutputPoint) (body : List ℕ) → j < length outputs → Named p.name body
    → NamesAre (name_of_output outputs) j names → NamesAre (name_of_output (set outputs j p)) (j + 1) (names ++ (body ∷ []))
outputs_more outputs j names p body h named so =
    names_more (name_of_output outputs) (name_of_output (set outputs j p)) j names body
    (λ k v. ap (λ (q : OutputPoint). q.name) (get_or-set_other outputs j k p no_output (λ e. omega arith)))
    (subst (λ (q : OutputPoint). Named q.name body) (sym (get_or-set_same outputs j p no_output h)) named) so
