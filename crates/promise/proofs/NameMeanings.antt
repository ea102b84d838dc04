-- Names of points: bytes from 0x21 to 0x7E, 1 to 8 of them, and no two points with the same.
-- Assumes nothing.
use mathlib.Core.Path.{◌≡◌, refl, sym, ap, ◌∙◌}
use mathlib.Core.Bool.{true}
use mathlib.Core.List.{List, [], ◌∷◌}
use Prim.Native.Nat.{ℕ, ◌<◌}
use native.Mathlib.Omega.{arith}
use Rattle.words.proofs.BoolLaws.{by_test}
use Rattle.scan.specs.declared.set.Set.{Set}
use Rattle.scan.specs.Names.{all_name_bytes, length_ok}
use Rattle.scan.specs.Shape.{well_formed}
use Rattle.shape.specs.Finding.{find_of}
use Rattle.shape.specs.Told.{find_told}
use Rattle.promise.specs.Allowed.{read_name, output_name, LengthAllowed, NameBytes, IsName}
use Rattle.promise.specs.Meanings.{NamesMean}
use Rattle.promise.proofs.Numbers.{apart, fails_not}
use Rattle.promise.proofs.NameRefusals.{name_bytes_iff, long_enough, find_refusals}

module _ (s : Set) (ok : well_formed s ≡ true) where
  -- bytes under which a point is found are a name
  found_name : (bytes : List ℕ) (kind k : ℕ) → find_told (find_of s bytes) ≡ 0 ∷ kind ∷ k ∷ [] → IsName bytes
  found_name bytes kind k e = (long, named)
    where
      long : LengthAllowed bytes
      long =
          by_test (length_ok bytes) (long_enough s bytes).0
          (λ l. apart 0 40 (kind ∷ k ∷ []) [] refl (sym e ∙ (find_refusals s bytes).bad_length.1 (ok, (fails_not (length_ok bytes) (long_enough s bytes)).0 l)))

      named : NameBytes bytes
      named =
          by_test (all_name_bytes bytes) (name_bytes_iff bytes).0
          (λ l. apart 0 41 (kind ∷ k ∷ []) [] refl (sym e ∙ (find_refusals s bytes).strange ok long ((fails_not (all_name_bytes bytes) (name_bytes_iff bytes)).0 l)))

  -- each point is found under its own name
  own_read : (k : ℕ) → k < s.r → find_told (find_of s (read_name s k)) ≡ 0 ∷ 0 ∷ k ∷ []
  own_read k h = ((find_refusals s (read_name s k)).read k).1 (ok, h, refl)

  own_output : (j : ℕ) → j < s.n → find_told (find_of s (output_name s j)) ≡ 0 ∷ 1 ∷ j ∷ []
  own_output j h = ((find_refusals s (output_name s j)).output j).1 (ok, h, refl)

  told_same : (x y j k : ℕ) → 0 ∷ x ∷ j ∷ [] ≡ 0 ∷ y ∷ k ∷ [] → (x ≡ y) × (j ≡ k)
  told_same x y j k e = (cc, cc)

  pub names_mean : NamesMean s
  names_mean = record {
    read = λ k h. found_name (read_name s k) 0 k (own_read k h);
    output = λ j h. found_name (output_name s j) 1 j (own_output j h);
    one_read = λ j k hj hk e. (told_same 0 0 j k (sym (own_read j hj) ∙ ap (λ (b : List ℕ). find_told (find_of s b)) e ∙ own_read k hk)).1;
    one_output = λ j k hj hk e. (told_same 1 1 j k (sym (own_output j hj) ∙ ap (λ (b : List ℕ). find_told (find_of s b)) e ∙ own_output k hk)).1;
    two_kinds = λ k j hk hj e.
        let z : ◌≡◌ {A = ℕ} 0 1 = (told_same 0 1 k j (sym (own_read k hk) ∙ ap (λ (b : List ℕ). find_told (find_of s b)) e ∙ own_output j hj)).0 in
        omega arith;
  }
