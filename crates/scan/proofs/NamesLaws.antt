-- Names: eight byte places and the bytes that they hold say the same.
-- Assumes nothing.
use mathlib.Core.Path.{◌≡◌, refl, sym, ap, ap₂, ◌∙◌}
use mathlib.Core.List.{List, [], ◌∷◌, ◌++◌}
use mathlib.Core.Bool.{true, false}
use Prim.Native.Nat.{ℕ, zero, suc, ◌+◌, ◌-◌, ◌≤◌, ◌<◌}
use native.Mathlib.Nat.{suc_inj}
use native.Mathlib.Decide.{dec_le}
use native.Mathlib.Omega.{arith}
use lib.Dec.{leb, ltb, eqb}
use lib.ListN.{length, get_or, take, drop, replicate, length-append, length-take, length-drop, length-replicate, take-append-drop, get_or-append}
use lib.Seq.{ext_get_or, length-take-le, get_or-append-add, get_or-drop, get_or-take, take-append_seam, take_at}
use borrow.Author.Tests.{eq-eqb, ne_eqb, eqb-true, leb-true, lt-ltb, le-ltb, ltb-true}
use Rattle.words.specs.Loop.{first, all}
use Rattle.words.proofs.BoolLaws.{and_true, cond_true, cond_false, every_at}
use Rattle.words.proofs.LoopLaws.{all_true, all_at, first_is, first_none, first_spec}
use Rattle.scan.specs.Set.{name_places}
use Rattle.scan.specs.Names.{name_byte, all_name_bytes, padded, zero_at, name_length, name_bytes, place_ok, name_ok, same_at, same_name}

-- eight places, of which the first 1 to 8 are name bytes
pub record NameFormed (name : List ℕ) : Type 0 where
  pub long : length name ≡ name_places
  pub some : 0 < name_length name
  pub few : name_length name ≤ name_places
  pub places : (k : ℕ) → k < name_places → place_ok name k ≡ true

pub name_formed : (name : List ℕ) → name_ok name ≡ true → NameFormed name
unfolding name_ok name_length
name_formed name e =
    let tests = eqb (length name) name_places ∷ ltb 0 (name_length name) ∷ all name_places (place_ok name) ∷ [] in
    record {
      long = eqb-true (length name) name_places (every_at tests e 0);
      some = ltb-true 0 (name_length name) (every_at tests e 1);
      few = (first_spec name_places (zero_at name)).within;
      places = all_at name_places (place_ok name) (every_at tests e 2);
    }

-- ---- comparing

-- a byte is the same as itself
byte_same : (b : ℕ) → eqb b b ≡ true
byte_same b = eq-eqb b b refl

-- A name is the same as itself.
pub name_same : (a : List ℕ) → same_name a a ≡ true
unfolding same_name
name_same a = all_true name_places (same_at a a) (λ k h. simp byte_same)

-- Names of eight places that compare as the same are equal.
pub same_name_law : (a b : List ℕ) → length a ≡ name_places → length b ≡ name_places → same_name a b ≡ true → a ≡ b
unfolding same_name
same_name_law a b la lb e =
    ext_get_or 0 a b (la ∙ sym lb) (λ k h. eqb-true (get_or a k 0) (get_or b k 0) (all_at name_places (same_at a b) e k (omega arith)))

-- ---- places and bytes

-- the first of some zeros, or of none
zero_first : (n : ℕ) → ◌≡◌ {A = ℕ} (get_or (replicate n 0) 0 0) 0
zero_first zero = refl
zero_first (suc n) = refl

-- a list of zeros
zeros : (l : List ℕ) (n : ℕ) → length l ≡ n → ((k : ℕ) → k < n → ◌≡◌ {A = ℕ} (get_or l k 0) 0) → replicate n 0 ≡ l
zeros [] zero e z = refl
zeros [] (suc n) e z = absurd (omega arith)
zeros (x ∷ l) zero e z = absurd (omega arith)
zeros (x ∷ l) (suc n) e z = ap₂ ◌∷◌ (sym (z 0 (omega arith))) (zeros l n (suc_inj e) (λ k h. z (suc k) (omega arith)))

-- a name byte is not zero
byte_positive : (b : ℕ) → name_byte b ≡ true → eqb b 0 ≡ false
unfolding name_byte
byte_positive b e =
    let low : 0x21 ≤ b = leb-true 0x21 b (and_true (leb 0x21 b) (leb b 0x7E) e).0 in
    ne_eqb b 0 (λ z. omega arith)

module _ (name : List ℕ) (formed : NameFormed name) where
  -- before a name's end stands a name byte
  byte_inside : (k : ℕ) → k < name_length name → name_byte (get_or name k 0) ≡ true
  unfolding place_ok
  byte_inside k h =
      let few = formed.few in
      cond_true (ltb k (name_length name)) (name_byte (get_or name k 0)) (zero_at name k) (lt-ltb k (name_length name) h) ∙ formed.places k (omega arith)

  -- after it a zero
  zero_outside : (k : ℕ) → name_length name ≤ k → k < name_places → get_or name k 0 ≡ 0
  unfolding place_ok
  zero_outside k h l =
      eqb-true (get_or name k 0) 0
      (cond_false (ltb k (name_length name)) (name_byte (get_or name k 0)) (zero_at name k) (le-ltb k (name_length name) h) ∙ formed.places k l)

  -- a name has as many bytes as stand before its end
  pub bytes_long : length (name_bytes name) ≡ name_length name
  unfolding name_bytes
  bytes_long = let long = formed.long in let few = formed.few in length-take-le (name_length name) name (omega arith)

  -- all of them are name bytes
  pub bytes_named : all_name_bytes (name_bytes name) ≡ true
  unfolding all_name_bytes name_bytes
  bytes_named =
      all_true (length (name_bytes name)) (λ k. name_byte (get_or (name_bytes name) k 0))
      (λ k h. let l = bytes_long in let i : k < name_length name = omega arith in
      ap name_byte (get_or-take (name_length name) name k 0 i) ∙ byte_inside k i)

  bytes_fill : padded (name_bytes name) ≡ name
  unfolding name_bytes
  bytes_fill =
      let long = formed.long in
      let few = formed.few in
      let n = name_length name in
      let rest : length (drop n name) ≡ name_places - n = length-drop n name ∙ ap (λ (k : ℕ). k - n) long in
      let same = zeros (drop n name) (name_places - n) rest (λ k h. get_or-drop n name k 0 ∙ zero_outside (n + k) (omega arith) (omega arith)) in
      ap (λ (k : ℕ). take n name ++ replicate (name_places - k) 0) bytes_long ∙ ap (λ (l : List ℕ). take n name ++ l) same ∙ take-append-drop n name

-- Padding the bytes of a name gives the name.
pub padded_bytes : (name : List ℕ) → name_ok name ≡ true → padded (name_bytes name) ≡ name
padded_bytes name e = bytes_fill name (name_formed name e)

module _ (bytes : List ℕ) (named : all_name_bytes bytes ≡ true) (few : length bytes ≤ name_places) where
  -- padding gives eight places
  pub padded_long : length (padded bytes) ≡ name_places
  padded_long = length-append bytes (replicate (name_places - length bytes) 0) ∙ ap (λ (k : ℕ). length bytes + k) (length-replicate (name_places - length bytes) 0) ∙ omega arith

  -- the bytes stand before the first zero
  none_before : (k : ℕ) → k < length bytes → zero_at (padded bytes) k ≡ false
  unfolding all_name_bytes
  none_before k h =
      ap (λ (b : ℕ). eqb b 0) (get_or-append bytes (replicate (name_places - length bytes) 0) 0 k h)
      ∙ byte_positive (get_or bytes k 0) (all_at (length bytes) (λ j. name_byte (get_or bytes j 0)) named k h)

  -- the padded name ends where the bytes do
  pub length_padded : name_length (padded bytes) ≡ length bytes
  unfolding name_length
  length_padded = go (dec_le name_places (length bytes))
    where
      go : Dec (name_places ≤ length bytes) → first name_places (zero_at (padded bytes)) ≡ length bytes
      go (yes h) = first_none name_places (zero_at (padded bytes)) (λ k l. none_before k (omega arith)) ∙ omega arith
      go (no h) =
          first_is name_places (length bytes) (zero_at (padded bytes)) (omega arith)
          (eq-eqb (get_or (padded bytes) (length bytes) 0) 0
          (ap (λ (k : ℕ). get_or (padded bytes) k 0) (omega arith) ∙ get_or-append-add bytes (replicate (name_places - length bytes) 0) 0 0 ∙ zero_first (name_places - length bytes)))
          none_before

-- The bytes of the name that padding gives are the bytes padded.
pub bytes_padded : (bytes : List ℕ) → all_name_bytes bytes ≡ true → length bytes ≤ name_places → name_bytes (padded bytes) ≡ bytes
unfolding name_bytes
bytes_padded bytes named few =
    ap (λ (k : ℕ). take k (padded bytes)) (length_padded bytes named few) ∙ take-append_seam bytes (replicate (name_places - length bytes) 0)

-- ---- as many bytes as a name has

-- the bytes before the first zero are the name's
pub name_ends : (name : List ℕ) (k : ℕ) → k ≤ length name → k ≡ first name_places (zero_at name) → k ≡ length (name_bytes name)
unfolding name_bytes name_length
name_ends name k h e = sym (length-take-le k name h) ∙ ap (λ (j : ℕ). length (take j name)) e

pub name_short : (name : List ℕ) → length (name_bytes name) ≤ length name
unfolding name_bytes
name_short name = omega (arith, length-take (name_length name) name)

-- as many of the first bytes as the name has are its bytes
pub name_taken : (name : List ℕ) (len : ℕ) → len ≡ length (name_bytes name) → take len name ≡ name_bytes name
unfolding name_bytes
name_taken name len e =
    ap (take len) (sym (take-append-drop (name_length name) name)) ∙ take_at (take (name_length name) name) (drop (name_length name) name) len (sym e)
