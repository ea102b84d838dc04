-- Names so far: the column has their bytes in a list, the loader has the points with names of eight places. A name is among the one exactly when it is
-- used in the other.
-- Assumes nothing.
use mathlib.Core.Path.{◌≡◌, refl, sym, ap, ap₂, subst, ◌∙◌}
use mathlib.Core.Bool.{Bool, true, false, ◌&&◌, ◌||◌}
use mathlib.Core.List.{List, [], ◌∷◌, ◌++◌}
use Prim.Native.Nat.{ℕ, zero, suc, ◌+◌, ◌≤◌, ◌<◌}
use native.Mathlib.Decide.{ℕ_discrete}
use native.Mathlib.Omega.{arith}
use lib.Dec.{ltb, eqb}
use lib.ListN.{length, get_or, length-append, get_or-append}
use lib.Seq.{get_or_at}
use borrow.Author.Tests.{ltb-true, ltb-false, eqb-true, eq-eqb}
use Rattle.words.specs.Loop.{first}
use Rattle.words.proofs.BoolLaws.{by_test, clash, same_truth, and_true, or_true, or_left, or_right}
use Rattle.words.proofs.LoopLaws.{all_true, all_at, first_spec}
use Rattle.scan.specs.declared.set.ReadPoint.{ReadPoint}
use Rattle.scan.specs.declared.set.OutputPoint.{OutputPoint}
use Rattle.scan.specs.Set.{name_places, read_point, output_point}
use Rattle.scan.specs.Names.{name_byte, all_name_bytes, padded, name_bytes, same_name, read_has_name, first_read, output_named, first_output, is_used}
use Rattle.scan.proofs.NamesLaws.{name_same, same_name_law, padded_long, bytes_padded}
use Rattle.promise.specs.Column.{within, good_bytes, same_bytes, is_among}

-- ---- bytes

-- every byte is good exactly when each is, by its place
good_at : (bytes : List ℕ) → good_bytes bytes ≡ true → (k : ℕ) → k < length bytes → name_byte (get_or bytes k 0) ≡ true
unfolding good_bytes name_byte
good_at [] e k h = absurd (omega arith)
good_at (b ∷ bytes) e zero h = (and_true (within 0x21 0x7E b) (good_bytes bytes) e).0
good_at (b ∷ bytes) e (suc k) h = good_at bytes (and_true (within 0x21 0x7E b) (good_bytes bytes) e).1 k (omega arith)

at_good : (bytes : List ℕ) → ((k : ℕ) → k < length bytes → name_byte (get_or bytes k 0) ≡ true) → good_bytes bytes ≡ true
unfolding good_bytes name_byte
at_good [] f = refl
at_good (b ∷ bytes) f = ap₂ ◌&&◌ (f 0 (omega arith)) (at_good bytes (λ k h. f (suc k) (omega arith)))

pub good_bytes_law : (bytes : List ℕ) → good_bytes bytes ≡ all_name_bytes bytes
unfolding all_name_bytes
good_bytes_law bytes =
    same_truth (good_bytes bytes) _ (λ e. all_true (length bytes) (λ k. name_byte (get_or bytes k 0)) (good_at bytes e))
    (λ e. at_good bytes (all_at (length bytes) (λ k. name_byte (get_or bytes k 0)) e))

-- the same bytes are equal
same_equal : (a b : List ℕ) → same_bytes a b ≡ true → a ≡ b
unfolding same_bytes
same_equal [] [] e = refl
same_equal [] (y ∷ b) e = clash e refl
same_equal (x ∷ a) [] e = clash e refl
same_equal (x ∷ a) (y ∷ b) e =
    let both = and_true (eqb x y) (same_bytes a b) e in
    ap₂ ◌∷◌ (eqb-true x y both.0) (same_equal a b both.1)

same_itself : (a : List ℕ) → same_bytes a a ≡ true
unfolding same_bytes
same_itself [] = refl
same_itself (x ∷ a) = ap₂ ◌&&◌ (eq-eqb x x refl) (same_itself a)

-- ---- a name among others

-- one that is there has a place
among_at : (names : List (List ℕ)) (bytes : List ℕ) → is_among names bytes ≡ true → (k : ℕ) × (k < length names) × (get_or names k [] ≡ bytes)
unfolding is_among
among_at [] bytes e = clash e refl
among_at (name ∷ names) bytes e =
    by_test (same_bytes name bytes)
    (λ t. (0, omega arith, same_equal name bytes t))
    (λ t. let more = among_at names bytes (or_true (same_bytes name bytes) (is_among names bytes) e t) in let h = more.1 in (suc more.0, omega arith, more.2))

at_among : (names : List (List ℕ)) (bytes : List ℕ) (k : ℕ) → k < length names → get_or names k [] ≡ bytes → is_among names bytes ≡ true
unfolding is_among
at_among [] bytes k h e = absurd (omega arith)
at_among (name ∷ names) bytes zero h e = or_left (same_bytes name bytes) (is_among names bytes) (subst (λ (b : List ℕ). same_bytes name b ≡ true) e (same_itself name))
at_among (name ∷ names) bytes (suc k) h e = or_right (same_bytes name bytes) (is_among names bytes) (at_among names bytes k (omega arith) e)

among_joined : (a b : List (List ℕ)) (bytes : List ℕ) → is_among (a ++ b) bytes ≡ is_among a bytes || is_among b bytes
unfolding is_among
among_joined [] b bytes = refl
among_joined (name ∷ a) b bytes = go (same_bytes name bytes) (among_joined a b bytes)
  where
    go : (t : Bool) → is_among (a ++ b) bytes ≡ is_among a bytes || is_among b bytes → t || is_among (a ++ b) bytes ≡ (t || is_among a bytes) || is_among b bytes
    go true e = refl
    go false e = e

-- ---- names of points

-- eight places hold these bytes, which are a name's
pub record Named (name bytes : List ℕ) : Type 0 where
  pub holds : name ≡ padded bytes
  pub named : all_name_bytes bytes ≡ true
  pub few : length bytes ≤ name_places

-- the first i points have these names
pub record NamesAre (name : ℕ → List ℕ) (i : ℕ) (names : List (List ℕ)) : Type 0 where
  pub long : length names ≡ i
  pub each : (k : ℕ) → k < i → Named (name k) (get_or names k [])

-- none
pub names_none : (name : ℕ → List ℕ) → NamesAre name 0 []
names_none name = record { long = refl; each = λ k h. absurd (omega arith) }

-- one more
pub names_more : (name next : ℕ → List ℕ) (i : ℕ) (names : List (List ℕ)) (bytes : List ℕ) → ((k : ℕ) → k < i → next k ≡ name k) → Named (next i) bytes
    → NamesAre name i names → NamesAre next (i + 1) (names ++ (bytes ∷ []))
names_more name next i names bytes same new so =
    let l = so.long in
    record { long = length-append names (bytes ∷ []) ∙ omega arith; each = λ k h. go k h (ℕ_discrete k i) }
  where
    go : (k : ℕ) → k < i + 1 → Dec (k ≡ i) → Named (next k) (get_or (names ++ (bytes ∷ [])) k [])
    go k h (yes e) =
        subst (λ (j : ℕ). Named (next j) (get_or (names ++ (bytes ∷ [])) j [])) (sym e)
        (subst (Named (next i)) (sym (get_or_at names bytes [] [] i so.long)) new)
    go k h (no e) =
        let l = so.long in
        let w : k < i = omega arith in
        let v : k < length names = omega arith in
        subst (λ (n : List ℕ). Named n (get_or (names ++ (bytes ∷ [])) k [])) (sym (same k w))
        (subst (Named (name k)) (sym (get_or-append names (bytes ∷ []) [] k v)) (so.each k w))

-- bytes of a name are found by its eight places exactly when they are among the names
found_among : (name : ℕ → List ℕ) (i : ℕ) (names : List (List ℕ)) (bytes : List ℕ) (p : ℕ → Bool) → all_name_bytes bytes ≡ true → length bytes ≤ name_places
    → ((k : ℕ) → p k ≡ same_name (name k) (padded bytes)) → NamesAre name i names → ltb (first i p) i ≡ is_among names bytes
found_among name i names bytes p good few same so =
    let s = first_spec i p in
    same_truth (ltb (first i p) i) (is_among names bytes)
    (λ t.
    let k = first i p in
    let h = ltb-true k i t in
    let n = so.each k h in
    let l = so.long in
    let hit : same_name (padded (get_or names k [])) (padded bytes) ≡ true = ap (λ (x : List ℕ). same_name x (padded bytes)) (sym n.holds) ∙ sym (same k) ∙ s.here h in
    let equal = same_name_law _ _ (padded_long (get_or names k []) n.named n.few) (padded_long bytes good few) hit in
    at_among names bytes k (omega arith) (sym (bytes_padded (get_or names k []) n.named n.few) ∙ ap name_bytes equal ∙ bytes_padded bytes good few))
    (λ e.
    let a = among_at names bytes e in
    let k = a.0 in
    let l = so.long in
    let w = a.1 in
    let h : k < i = omega arith in
    let hit : p k ≡ true = same k ∙ ap₂ same_name (so.each k h).holds (ap padded (sym a.2)) ∙ name_same (padded (get_or names k [])) in
    by_test (ltb (first i p) i) (λ t. t) (λ t. let out = ltb-false (first i p) i t in clash hit (s.before k (omega arith))))

-- ---- read points and outputs

abbrev pub name_of_read : List ReadPoint → ℕ → List ℕ
name_of_read reads k = (read_point reads k).name

abbrev pub name_of_output : List OutputPoint → ℕ → List ℕ
name_of_output outputs k = (output_point outputs k).name

-- Bytes of a name are used by a point exactly when they are among the names.
pub used_among : (reads : List ReadPoint) (i : ℕ) (outputs : List OutputPoint) (j : ℕ) (a b : List (List ℕ)) → NamesAre (name_of_read reads) i a → NamesAre (name_of_output outputs) j b
    → (bytes : List ℕ) → all_name_bytes bytes ≡ true → length bytes ≤ name_places → is_used reads i outputs j (padded bytes) ≡ is_among (a ++ b) bytes
unfolding is_used first_read first_output read_has_name output_named
used_among reads i outputs j a b ra rb bytes good few =
    ap₂ ◌||◌ (found_among (name_of_read reads) i a bytes (read_has_name reads (padded bytes)) good few (λ k. refl) ra)
    (found_among (name_of_output outputs) j b bytes (output_named outputs (padded bytes)) good few (λ k. refl) rb)
    ∙ sym (among_joined a b bytes)
