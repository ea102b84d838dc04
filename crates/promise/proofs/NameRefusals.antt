-- Demand 1 for names: which bytes find which point, and what finding turns down.
-- Assumes nothing.
use mathlib.Core.Path.{◌≡◌, refl, sym, ap, ap₂, ◌∙◌}
use mathlib.Core.Bool.{true, false, ◌&&◌}
use mathlib.Core.List.{List, [], ◌∷◌}
use mathlib.Core.Logic.{◌↔◌}
use Prim.Native.Nat.{ℕ, ◌<◌}
use native.Mathlib.Omega.{arith}
use lib.Dec.{ltb, leb}
use lib.ListN.{length, get_or}
use borrow.Author.Tests.{ltb-true, ltb-false, leb-true, le-leb}
use Rattle.words.proofs.BoolLaws.{by_test, clash, and_true}
use Rattle.words.proofs.LoopLaws.{all_true, all_at}
use Rattle.scan.specs.declared.set.Set.{Set}
use Rattle.std.specs.Prelude.{Result, Ok, Err}
use Rattle.shape.specs.declared.finding.Point.{Point}
use Rattle.shape.specs.declared.finding.Point.TheVariants.{Read, Output}
use Rattle.shape.specs.declared.finding.FindError.{FindError}
use Rattle.shape.specs.declared.finding.FindError.TheVariants.{BadSet, BadLength, Unknown}
use Rattle.scan.specs.Names.{name_byte, length_ok, all_name_bytes, padded, first_read, first_output}
use Rattle.scan.specs.Shape.{well_formed}
use Rattle.shape.specs.Finding.{find_padded, find_of}
use Rattle.shape.specs.Told.{find_told}
use Rattle.shape.proofs.FindingLaws.{find_read, find_output, find_none, find_bad, find_length, find_strange, find_named}
use Rattle.shape.proofs.FoundPoints.{read_found, output_found, found_read, found_output}
use Rattle.promise.specs.Allowed.{read_name, output_name, LengthAllowed, NoPoint}
use Rattle.promise.specs.Meanings.{NameBytesMean}
use Rattle.promise.specs.Promise.{FindRefusals}
use Rattle.promise.proofs.Numbers.{apart, fails_not}

-- a name byte is 0x21 to 0x7E
pub name_bytes_iff : (bytes : List ℕ) → NameBytesMean bytes
unfolding all_name_bytes name_byte
name_bytes_iff bytes = (
  λ e k h.
      let b = get_or bytes k 0 in
      let both = and_true (leb 0x21 b) (leb b 0x7E) (all_at (length bytes) (λ j. name_byte (get_or bytes j 0)) e k h) in
      (leb-true 0x21 b both.0, leb-true b 0x7E both.1),
  λ a. all_true (length bytes) (λ j. name_byte (get_or bytes j 0)) (λ k h. ap₂ ◌&&◌ (le-leb 0x21 (get_or bytes k 0) (a k h).0) (le-leb (get_or bytes k 0) 0x7E (a k h).1)),
)

module _ (s : Set) (bytes : List ℕ) where
  abbrev found : List ℕ
  found = find_told (find_of s bytes)

  pub long_enough : (length_ok bytes ≡ true) ↔ LengthAllowed bytes
  long_enough = (
    λ e. let both = and_true (leb 1 (length bytes)) (leb (length bytes) 8) e in (leb-true _ _ both.0, leb-true _ _ both.1),
    λ a. ap₂ ◌&&◌ (le-leb 1 (length bytes) a.0) (le-leb (length bytes) 8 a.1),
  )

  told_read : (f : Result Point FindError) (k : ℕ) → find_told f ≡ 0 ∷ 0 ∷ k ∷ [] → f ≡ Ok (Read k)
  told_read (Ok (Read i)) k e = let same : i ≡ k = cc in ap (λ (n : ℕ). Ok (Read n)) same
  told_read (Ok (Output j)) k e = let z : ◌≡◌ {A = ℕ} 1 0 = cc in absurd (omega arith)
  told_read (Err BadSet) k e = apart 20 0 [] (0 ∷ k ∷ []) refl e
  told_read (Err BadLength) k e = apart 40 0 [] (0 ∷ k ∷ []) refl e
  told_read (Err Unknown) k e = apart 41 0 [] (0 ∷ k ∷ []) refl e

  told_output : (f : Result Point FindError) (j : ℕ) → find_told f ≡ 0 ∷ 1 ∷ j ∷ [] → f ≡ Ok (Output j)
  told_output (Ok (Read i)) j e = let z : ◌≡◌ {A = ℕ} 0 1 = cc in absurd (omega arith)
  told_output (Ok (Output i)) j e = let same : i ≡ j = cc in ap (λ (n : ℕ). Ok (Output n)) same
  told_output (Err BadSet) j e = apart 20 0 [] (1 ∷ j ∷ []) refl e
  told_output (Err BadLength) j e = apart 40 0 [] (1 ∷ j ∷ []) refl e
  told_output (Err Unknown) j e = apart 41 0 [] (1 ∷ j ∷ []) refl e

  -- what finding tells, by the way that it goes
  pub data Looked : Type 0 where
    no_set : well_formed s ≡ false → found ≡ 20 ∷ [] → Looked
    bad_length : well_formed s ≡ true → ¬ LengthAllowed bytes → found ≡ 40 ∷ [] → Looked
    unknown : well_formed s ≡ true → LengthAllowed bytes → found ≡ 41 ∷ [] → Looked
    read_point_law : well_formed s ≡ true → (k : ℕ) → found ≡ 0 ∷ 0 ∷ k ∷ [] → Looked
    output_point_law : well_formed s ≡ true → (j : ℕ) → found ≡ 0 ∷ 1 ∷ j ∷ [] → Looked

  looked : Looked
  looked =
      by_test (well_formed s)
      (λ ok. by_test (length_ok bytes)
      (λ l.
      let a = long_enough.0 l in
      by_test (all_name_bytes bytes)
      (λ n. named ok a (find_named s bytes ok a.0 a.1 n))
      (λ n. unknown ok a (ap find_told (sym (find_strange s bytes ok a.0 a.1 n)))))
      (λ l. bad_length ok ((fails_not (length_ok bytes) long_enough).0 l) (ap find_told (sym (find_length s bytes ok l)))))
      (λ b. no_set b (ap find_told (sym (find_bad s bytes b))))
    where
      named : well_formed s ≡ true → LengthAllowed bytes → find_padded s (padded bytes) ≡ find_of s bytes → Looked
      named ok a e =
          let k = first_read s.reads s.r (padded bytes) in
          let j = first_output s.outputs s.n (padded bytes) in
          by_test (ltb k s.r)
          (λ t. read_point_law ok k (ap find_told (sym (find_read s (padded bytes) k refl (ltb-true _ _ t) ∙ e))))
          (λ t. by_test (ltb j s.n)
          (λ u. output_point_law ok j (ap find_told (sym (find_output s (padded bytes) k refl j (ltb-false _ _ t) refl (ltb-true _ _ u) ∙ e))))
          (λ u. unknown ok a (ap find_told (sym (find_none s (padded bytes) k refl j (ltb-false _ _ t) refl (ltb-false _ _ u) ∙ e)))))

  formed_case : Looked → (found ≡ 20 ∷ []) ↔ (well_formed s ≡ false)
  formed_case (no_set b e) = (λ t. b, λ x. e)
  formed_case (bad_length ok n e) = (λ t. apart 40 20 [] [] refl (sym e ∙ t), λ x. clash ok x)
  formed_case (unknown ok a e) = (λ t. apart 41 20 [] [] refl (sym e ∙ t), λ x. clash ok x)
  formed_case (read_point_law ok k e) = (λ t. apart 0 20 (0 ∷ k ∷ []) [] refl (sym e ∙ t), λ x. clash ok x)
  formed_case (output_point_law ok j e) = (λ t. apart 0 20 (1 ∷ j ∷ []) [] refl (sym e ∙ t), λ x. clash ok x)

  -- a name that is found has an allowed length: it is a point's
  found_length : (f : Result Point FindError) → find_of s bytes ≡ f → well_formed s ≡ true → ¬ LengthAllowed bytes → f ≡ Err BadLength
  found_length f e ok n = sym (find_length s bytes ok ((fails_not (length_ok bytes) long_enough).1 n) ∙ e)

  length_case : Looked → (found ≡ 40 ∷ []) ↔ ((well_formed s ≡ true) × (¬ LengthAllowed bytes))
  length_case (no_set b e) = (λ t. apart 20 40 [] [] refl (sym e ∙ t), λ x. clash x.0 b)
  length_case (bad_length ok n e) = (λ t. (ok, n), λ x. e)
  length_case (unknown ok a e) = (λ t. apart 41 40 [] [] refl (sym e ∙ t), λ x. absurd (x.1 a))
  length_case (read_point_law ok k e) = (
    λ t. apart 0 40 (0 ∷ k ∷ []) [] refl (sym e ∙ t),
    λ x. ap find_told (found_length (find_of s bytes) refl x.0 x.1),
  )
  length_case (output_point_law ok j e) = (
    λ t. apart 0 40 (1 ∷ j ∷ []) [] refl (sym e ∙ t),
    λ x. ap find_told (found_length (find_of s bytes) refl x.0 x.1),
  )

  -- a point is found under its name
  names_read : well_formed s ≡ true → (k : ℕ) → k < s.r → read_name s k ≡ bytes → found ≡ 0 ∷ 0 ∷ k ∷ []
  names_read ok k h q = ap find_told (ap (find_of s) (sym q) ∙ read_found s ok k h)

  names_output : well_formed s ≡ true → (j : ℕ) → j < s.n → output_name s j ≡ bytes → found ≡ 0 ∷ 1 ∷ j ∷ []
  names_output ok j h q = ap find_told (ap (find_of s) (sym q) ∙ output_found s ok j h)

  unknown_case : Looked → (found ≡ 41 ∷ []) ↔ ((well_formed s ≡ true) × LengthAllowed bytes × NoPoint s bytes)
  unknown_case (no_set b e) = (λ t. apart 20 41 [] [] refl (sym e ∙ t), λ x. clash x.0 b)
  unknown_case (bad_length ok n e) = (λ t. apart 40 41 [] [] refl (sym e ∙ t), λ x. absurd (n x.1))
  unknown_case (unknown ok a e) = (
    λ t. (ok, a, (λ k h q. apart 41 0 [] (0 ∷ k ∷ []) refl (sym e ∙ names_read ok k h q), λ j h q. apart 41 0 [] (1 ∷ j ∷ []) refl (sym e ∙ names_output ok j h q))),
    λ x. e,
  )
  unknown_case (read_point_law ok k e) = (
    λ t. apart 0 41 (0 ∷ k ∷ []) [] refl (sym e ∙ t),
    λ x. let f = found_read s bytes k (told_read (find_of s bytes) k e) in absurd (x.2.0 k f.0 (sym f.1)),
  )
  unknown_case (output_point_law ok j e) = (
    λ t. apart 0 41 (1 ∷ j ∷ []) [] refl (sym e ∙ t),
    λ x. let f = found_output s bytes j (told_output (find_of s bytes) j e) in absurd (x.2.1 j f.0 (sym f.1)),
  )

  -- where a point is found, the set is well formed
  point_formed : (kind k : ℕ) → Looked → found ≡ 0 ∷ kind ∷ k ∷ [] → well_formed s ≡ true
  point_formed kind k (no_set b e) t = apart 20 0 [] (kind ∷ k ∷ []) refl (sym e ∙ t)
  point_formed kind k (bad_length ok n e) t = ok
  point_formed kind k (unknown ok a e) t = ok
  point_formed kind k (read_point_law ok i e) t = ok
  point_formed kind k (output_point_law ok i e) t = ok

  pub find_refusals : FindRefusals s bytes
  find_refusals = record {
    not_formed = formed_case looked;
    bad_length = length_case looked;
    unknown = unknown_case looked;
    strange = λ ok a n. ap find_told (sym (find_strange s bytes ok a.0 a.1 ((fails_not (all_name_bytes bytes) (name_bytes_iff bytes)).1 n)));
    read = λ k. (
      λ e. let f = found_read s bytes k (told_read (find_of s bytes) k e) in (point_formed 0 k looked e, f.0, sym f.1),
      λ x. names_read x.0 k x.1 x.2,
    );
    output = λ j. (
      λ e. let f = found_output s bytes j (told_output (find_of s bytes) j e) in (point_formed 1 j looked e, f.0, sym f.1),
      λ x. names_output x.0 j x.1 x.2,
    );
  }
