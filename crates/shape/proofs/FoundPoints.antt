-- Finding by a name gives the point that bears it.
-- Assumes nothing.
use mathlib.Core.Path.{◌≡◌, refl, sym, ap, subst, ◌∙◌}
use mathlib.Core.List.{List}
use mathlib.Core.Bool.{Bool, true, false}
use Prim.Native.Nat.{ℕ, ◌≤◌, ◌<◌}
use native.Mathlib.Omega.{arith}
use lib.Dec.{ltb}
use lib.ListN.{length}
use borrow.Author.Tests.{ltb-true, ltb-false}
use Rattle.words.specs.Loop.{first}
use Rattle.words.proofs.BoolLaws.{by_test, clash}
use Rattle.words.proofs.LoopLaws.{first_is, first_spec}
use Rattle.scan.specs.declared.set.Set.{Set}
use Rattle.std.specs.Prelude.{Result, Ok, Err}
use Rattle.shape.specs.declared.finding.Point.{Point}
use Rattle.shape.specs.declared.finding.Point.TheVariants.{Read, Output}
use Rattle.shape.specs.declared.finding.FindError.{FindError}
use Rattle.shape.specs.declared.finding.FindError.TheVariants.{Unknown}
use Rattle.scan.specs.Set.{name_places, read_point, output_point}
use Rattle.scan.specs.Names.{length_ok, all_name_bytes, padded, name_bytes, name_ok, same_name, read_has_name, first_read, output_named, first_output}
use Rattle.scan.specs.Shape.{well_formed}
use Rattle.shape.specs.Finding.{find_padded, find_of}
use Rattle.shape.proofs.SpellingLaws.{length_right}
use Rattle.shape.proofs.FindingLaws.{find_read, find_output, find_none, find_bad, find_length, find_strange, find_named}
use Rattle.scan.proofs.NamesLaws.{name_formed, bytes_long, bytes_named, padded_bytes, name_same, same_name_law, bytes_padded, padded_long}
use Rattle.scan.proofs.ShapeLaws.{read_formed, output_formed, points_formed}

-- ---- a point is found under its name

-- finding by the bytes of a name is finding by the name
find_bytes : (s : Set) → well_formed s ≡ true → (name : List ℕ) → name_ok name ≡ true → find_of s (name_bytes name) ≡ find_padded s name
find_bytes s w name e =
    let f = name_formed name e in
    let long = bytes_long name f in
    let few = f.few in
    let some = f.some in
    sym (find_named s (name_bytes name) w (omega arith) (omega arith) (bytes_named name f)) ∙ ap (find_padded s) (padded_bytes name e)

-- where the first below k is k itself, and k passes, k is the first below any n
first_own : (p : ℕ → Bool) (k n : ℕ) → k < n → first k p ≡ k → p k ≡ true → first n p ≡ k
first_own p k n h e t = first_is n k p h t (λ j l. (first_spec k p).before j (omega arith))

-- Every read point of a well-formed set is found under its own name.
pub read_found : (s : Set) → well_formed s ≡ true → (k : ℕ) → k < s.r → find_of s (name_bytes (read_point s.reads k).name) ≡ Ok (Read k)
unfolding first_read read_has_name
read_found s w k h =
    let name = (read_point s.reads k).name in
    let p = read_formed s.reads s.n k ((points_formed s w).read_ok_law k h) in
    find_bytes s w name p.name_ok_law
    ∙ sym (find_read s name k (sym (first_own (read_has_name s.reads name) k s.r h p.own (name_same name))) h)

-- Every output of a well-formed set is found under its own name.
pub output_found : (s : Set) → well_formed s ≡ true → (j : ℕ) → j < s.n → find_of s (name_bytes (output_point s.outputs j).name) ≡ Ok (Output j)
unfolding first_output output_named
output_found s w j h =
    let name = (output_point s.outputs j).name in
    let p = output_formed s.reads s.r s.outputs j ((points_formed s w).output_ok_law j h) in
    find_bytes s w name p.name_ok_law
    ∙ sym (find_output s name s.r (sym p.no_read_law) j (omega arith)
    (sym (first_own (output_named s.outputs name) j s.n h p.own (name_same name))) h)

-- ---- no name finds a point that does not bear it

abbrev is_point : Result Point FindError → Bool
is_point (Ok p) = true
is_point (Err e) = false

abbrev is_read : Result Point FindError → Bool
is_read (Ok (Read k)) = true
is_read (Ok (Output j)) = false
is_read (Err e) = false

-- the tests that passed where a point is found
record Told (s : Set) (bytes : List ℕ) (f : Result Point FindError) : Type 0 where
  formed : well_formed s ≡ true
  few : length bytes ≤ name_places
  named : all_name_bytes bytes ≡ true
  here : find_padded s (padded bytes) ≡ f

told : (s : Set) (bytes : List ℕ) (f : Result Point FindError) → is_point f ≡ true → find_of s bytes ≡ f → Told s bytes f
told s bytes f p e =
    by_test (well_formed s)
    (λ w. by_test (length_ok bytes)
    (λ l.
    let fit = length_right bytes l in
    by_test (all_name_bytes bytes)
    (λ n. record { formed = w; few = fit.1; named = n; here = find_named s bytes w fit.0 fit.1 n ∙ e })
    (λ n. clash p (ap is_point (sym (find_strange s bytes w fit.0 fit.1 n ∙ e)))))
    (λ l. clash p (ap is_point (sym (find_length s bytes w l ∙ e)))))
    (λ w. clash p (ap is_point (sym (find_bad s bytes w ∙ e))))

-- the name of a point that is the same as the padded bytes is that of the bytes
bears : (bytes name : List ℕ) → length bytes ≤ name_places → all_name_bytes bytes ≡ true → name_ok name ≡ true → same_name name (padded bytes) ≡ true → bytes ≡ name_bytes name
bears bytes name few named ok same =
    sym (ap name_bytes (same_name_law name (padded bytes) (name_formed name ok).long (padded_long bytes named few) same) ∙ bytes_padded bytes named few)

-- what finding by a name comes to: the first read point, or else the first output, that has it, or nothing
by_found : {C : Type 0} (s : Set) (name : List ℕ)
    → ((k : ℕ) → k < s.r → read_has_name s.reads name k ≡ true → find_padded s name ≡ Ok (Read k) → C)
    → ((j : ℕ) → j < s.n → output_named s.outputs name j ≡ true → find_padded s name ≡ Ok (Output j) → C)
    → (find_padded s name ≡ Err Unknown → C) → C
unfolding first_read first_output
by_found s name f g h =
    let k = first_read s.reads s.r name in
    let j = first_output s.outputs s.n name in
    by_test (ltb k s.r)
    (λ t. let l = ltb-true k s.r t in f k l ((first_spec s.r (read_has_name s.reads name)).here l) (sym (find_read s name k refl l)))
    (λ t.
    let m = ltb-false k s.r t in
    by_test (ltb j s.n)
    (λ u. let l = ltb-true j s.n u in g j l ((first_spec s.n (output_named s.outputs name)).here l) (sym (find_output s name k refl j m refl l)))
    (λ u. h (sym (find_none s name k refl j m refl (ltb-false j s.n u)))))

-- Where a read point is found, it is one of the set's, and the bytes are its name.
pub found_read : (s : Set) (bytes : List ℕ) (k : ℕ) → find_of s bytes ≡ Ok (Read k) → (k < s.r) × (bytes ≡ name_bytes (read_point s.reads k).name)
unfolding read_has_name
found_read s bytes k e =
    let t = told s bytes (Ok (Read k)) refl e in
    by_found s (padded bytes)
    (λ i l n q.
    let same : i ≡ k = read_is i k (sym q ∙ t.here) in
    let own = read_formed s.reads s.n i ((points_formed s t.formed).read_ok_law i l) in
    subst (λ (x : ℕ). (x < s.r) × (bytes ≡ name_bytes (read_point s.reads x).name)) same
    (l, bears bytes (read_point s.reads i).name t.few t.named own.name_ok_law n))
    (λ i l n q. clash refl (ap is_read (sym t.here ∙ q)))
    (λ q. clash refl (ap is_read (sym t.here ∙ q)))
  where
    read_is : (i k : ℕ) → ◌≡◌ {A = Result Point FindError} (Ok (Read i)) (Ok (Read k)) → i ≡ k
    read_is i k q = cc

-- Where an output is found, it is one of the set's, and the bytes are its name.
pub found_output : (s : Set) (bytes : List ℕ) (j : ℕ) → find_of s bytes ≡ Ok (Output j) → (j < s.n) × (bytes ≡ name_bytes (output_point s.outputs j).name)
unfolding output_named
found_output s bytes j e =
    let t = told s bytes (Ok (Output j)) refl e in
    by_found s (padded bytes)
    (λ i l n q. clash refl (ap is_read (sym q ∙ t.here)))
    (λ i l n q.
    let same : i ≡ j = output_is i j (sym q ∙ t.here) in
    let own = output_formed s.reads s.r s.outputs i ((points_formed s t.formed).output_ok_law i l) in
    subst (λ (x : ℕ). (x < s.n) × (bytes ≡ name_bytes (output_point s.outputs x).name)) same
    (l, bears bytes (output_point s.outputs i).name t.few t.named own.name_ok_law n))
    (λ q. clash refl (ap is_point (sym t.here ∙ q)))
  where
    output_is : (i k : ℕ) → ◌≡◌ {A = Result Point FindError} (Ok (Output i)) (Ok (Output k)) → i ≡ k
    output_is i k q = cc
