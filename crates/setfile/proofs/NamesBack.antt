-- Names: one that was written is read back, and one that was read is well formed and has the bytes that were read.
-- Assumes nothing.
use mathlib.Core.Path.{◌≡◌, refl, sym, ◌∙◌, ap}
use mathlib.Core.Bool.{Bool, true, false, cond, ◌&&◌}
use mathlib.Core.List.{List}
use Prim.Native.Nat.{ℕ, ◌+◌, ◌-◌, ◌≤◌, ◌<◌}
use native.Mathlib.Decide.{dec_lt}
use native.Mathlib.Omega.{arith}
use lib.Dec.{ltb}
use lib.ListN.{length, get_or, replicate, get_or-replicate, get_or-append}
use lib.Seq.{get_or-append-add}
use borrow.Author.Tests.{lt-ltb, le-ltb, eq-eqb}
use Rattle.words.proofs.BoolLaws.{cond_true, cond_false}
use Rattle.words.proofs.LoopLaws.{all_true, all_at}
use Rattle.std.specs.Prelude.{Option, None, Some, unwrap_or}
use Rattle.scan.specs.Set.{name_places}
use Rattle.scan.specs.Names.{name_byte, all_name_bytes, padded, length_ok, zero_at, name_length, name_bytes, place_ok, name_ok}
use Rattle.shape.specs.Spelling.{spelling}
use Rattle.scan.proofs.NamesLaws.{name_formed, bytes_long, bytes_named, padded_bytes, padded_long, length_padded, bytes_padded}
use Rattle.shape.proofs.SpellingLaws.{spell_name}

-- A well-formed name has 1 to 8 bytes.
pub name_bounds : (name : List ℕ) → name_ok name ≡ true → (1 ≤ length (name_bytes name)) × (length (name_bytes name) ≤ name_places)
name_bounds name e =
    let f = name_formed name e in
    let l = bytes_long name f in
    (omega (arith, f.some), omega (arith, f.few))

-- A well-formed name is read back.
pub name_back : (name : List ℕ) → name_ok name ≡ true → spelling (name_bytes name) ≡ Some name
name_back name e =
    let b = name_bounds name e in
    sym (spell_name (name_bytes name) b.0 b.1 (bytes_named name (name_formed name e))) ∙ ap Some (padded_bytes name e)

module _ (bytes : List ℕ) (some : 1 ≤ length bytes) (few : length bytes ≤ name_places) (named : all_name_bytes bytes ≡ true) where
  place_ok_law : (k : ℕ) → k < name_places → place_ok (padded bytes) k ≡ true
  unfolding place_ok all_name_bytes
  place_ok_law k h = go (dec_lt k (length bytes))
    where
      go : Dec (k < length bytes) → cond (ltb k (name_length (padded bytes))) (name_byte (get_or (padded bytes) k 0)) (zero_at (padded bytes) k) ≡ true
      go (yes l) =
          let e = length_padded bytes named few in
          sym (cond_true (ltb k (name_length (padded bytes))) (name_byte (get_or (padded bytes) k 0)) (zero_at (padded bytes) k) (lt-ltb k (name_length (padded bytes)) (omega arith)))
          ∙ ap name_byte (get_or-append bytes (replicate (name_places - length bytes) 0) 0 k l)
          ∙ all_at (length bytes) (λ j. name_byte (get_or bytes j 0)) named k l
      go (no l) =
          let e = length_padded bytes named few in
          let i = k - length bytes in
          let same : length bytes + i ≡ k = omega arith in
          sym (cond_false (ltb k (name_length (padded bytes))) (name_byte (get_or (padded bytes) k 0)) (zero_at (padded bytes) k) (le-ltb k (name_length (padded bytes)) (omega arith)))
          ∙ eq-eqb (get_or (padded bytes) k 0) 0
          (ap (λ (j : ℕ). get_or (padded bytes) j 0) (sym same) ∙ get_or-append-add bytes (replicate (name_places - length bytes) 0) i 0 ∙ get_or-replicate (name_places - length bytes) i 0 0 (omega arith))

  padded_ok : name_ok (padded bytes) ≡ true
  unfolding name_ok
  padded_ok =
      let e = length_padded bytes named few in
      rw (eq-eqb (length (padded bytes)) name_places (padded_long bytes named few), lt-ltb 0 (name_length (padded bytes)) (omega arith), all_true name_places (place_ok (padded bytes)) place_ok_law)

pub record NameTaken (name bytes : List ℕ) : Type 0 where
  pub name_ok_law : name_ok name ≡ true
  pub same : name_bytes name ≡ bytes

-- A name that was read from 1 to 8 bytes is well formed, and its bytes are those that were read.
pub name_taken : (bytes name : List ℕ) → 1 ≤ length bytes → length bytes ≤ name_places → spelling bytes ≡ Some name → NameTaken name bytes
unfolding spelling
name_taken bytes name some few e =
    let named = tested (length_ok bytes) (all_name_bytes bytes) e in
    let n : name ≡ padded bytes = ap (λ (x : Option (List ℕ)). unwrap_or x name) (sym e ∙ sym (spell_name bytes some few named)) in
    record { name_ok_law = ap name_ok n ∙ padded_ok bytes some few named; same = ap name_bytes n ∙ bytes_padded bytes named few }
  where
    tested : (a b : Bool) → cond {A = Option (List ℕ)} (a && b) (Some (padded bytes)) None ≡ Some name → b ≡ true
    tested true true t = refl
    tested true false t = let z : ◌≡◌ {A = ℕ} 0 1 = cc in absurd (omega arith)
    tested false b t = let z : ◌≡◌ {A = ℕ} 0 1 = cc in absurd (omega arith)
