-- The literals that were taken from a body make a well-formed constraint, and the body is the one that is written for it.
-- Assumes nothing.
use mathlib.Core.Path.{◌≡◌, refl, sym, ◌∙◌, ap, ap₂, subst}
use mathlib.Core.Bool.{Bool, true, false, cond, not, ◌&&◌}
use mathlib.Core.List.{List, [], ◌∷◌, ◌++◌, append_assoc, append-nil}
use Prim.Native.Nat.{ℕ, zero, suc, ◌+◌, ◌^◌, ◌≤◌, ◌<◌}
use native.Mathlib.Nat.{lt_of_le_of_lt}
use native.Mathlib.Decide.{ℕ_discrete, dec_lt}
use native.Mathlib.Omega.{arith}
use lib.Dec.{eqb, leb}
use lib.ListN.{length}
use lib.Bits.{bit_and, and_le_r}
use borrow.Author.Tests.{eqb-true, eq-eqb, lt-ltb, leb-true, leb-false}
use Rattle.words.specs.Word.{bit}
use Rattle.words.specs.Loop.{every}
use Rattle.words.proofs.BoolLaws.{by_test, clash, and_true, or_left, or_right, or_false}
use Rattle.words.proofs.BitLaws.{bit_of_and, bit_of_or, bit_zero, no_bits}
use Rattle.words.proofs.LoopLaws.{all_true}
use Rattle.scan.specs.declared.set.Constraint.{Constraint}
use Rattle.scan.specs.Set.{most_reads, most_outputs, rank_end, rank, outs, zero_constraint}
use Rattle.scan.specs.Shape.{rank_ok, constraint_tests}
use Rattle.literal.specs.declared.literal.Said.{Said}
use Rattle.literal.specs.Literal.{Literals, said_by, place, is_literal, with_literal, refused_literals, good_literals, literal_then, literals_from, literals_of}
use Rattle.header.specs.Fault.{Good}
use Rattle.header.specs.Bytes.{Bytes}
use Rattle.header.specs.Tag.{names_high}
use Rattle.writer.specs.Write.{literals_by, literal_body}
use Rattle.literal.proofs.LiteralLaws.{room}
use Rattle.setfile.proofs.LiteralPlaces.{said, said_is, place_of, places_end, mask, added, with_added, alike, alike_true, bit_hit, bit_sign, bit_else, bit_miss, mask_wide, rank_hit, rank_miss}
use Rattle.setfile.proofs.BodyPlaces.{up_to, placed, all_said, upto_same}
use Rattle.setfile.proofs.LiteralBytes.{masks_low, bytes_of, AllClear, AllSized, bytes_back, said_sized, body_said}
use Rattle.setfile.proofs.OneLiteral.{size, Below, below_zero, below_added, blank_place, said_added, literal_is}

-- a rank is a byte, and zero where the output is not named
abbrev Ranked : Constraint → ℕ → Type 0
Ranked c k = (rank c k < rank_end) × (bit k (mask true false c) ≡ false → bit k (mask true true c) ≡ false → rank c k ≡ 0)

-- a constraint that was made of literals below place p, of a wide body or not
record Sound (wide : Bool) (r n p : ℕ) (c : Constraint) : Type 0 where
  below : Below r n p c
  apart : (o : Bool) (k : ℕ) → bit k (mask o false c) ≡ true → bit k (mask o true c) ≡ false
  ranked : (k : ℕ) → k < most_outputs → Ranked c k
  some : most_reads < p → (g : Bool) × (k : ℕ) × (bit k (mask true g c) ≡ true)
  low : wide ≡ false → (g : Bool) → mask false g c < 2 ^ 16

sound_zero : (wide : Bool) (r n : ℕ) → Sound wide r n 0 zero_constraint
sound_zero wide r n =
    let b = below_zero r n in
    record {
      below = b;
      apart = λ o k t. b.none o true k (omega arith);
      ranked = λ k h. let z = b.unranked k (omega arith) h in (omega arith, λ p q. z);
      some = λ h. absurd (omega arith);
      low = λ e g. (below_zero 16 0).small false g;
    }

-- ---- one literal more

module _ (wide : Bool) (r n p : ℕ) (c : Constraint) (s : Sound wide r n p c) (o g : Bool) (k x : ℕ) (h : p ≤ place_of o k) (w : k < size r n o) (room-ok : k < room o) (small : x < rank_end) (four : wide ≡ false → k < 16) where
  apart_added : (q : Bool) (j : ℕ) → bit j (mask q false (added o g k x c)) ≡ true → bit j (mask q true (added o g k x c)) ≡ false
  apart_added q j t =
      by_test (alike o q && eqb j k)
      (λ e. let a = and_true (alike o q) (eqb j k) e in here q j (alike_true o q a.0) (eqb-true j k a.1) t)
      (λ e. bit_else k x c o g q true j e ∙ s.apart q j (sym (bit_else k x c o g q false j e) ∙ t))
    where
      own : (v : Bool) → g ≡ v → bit k (mask o false (added o v k x c)) ≡ true → bit k (mask o true (added o v k x c)) ≡ false
      own true e u = clash u (bit_sign k x c o true ∙ s.below.none o false k h)
      own false e u = bit_sign k x c o false ∙ s.below.none o true k h

      here : (q : Bool) (j : ℕ) → o ≡ q → j ≡ k → bit j (mask q false (added o g k x c)) ≡ true → bit j (mask q true (added o g k x c)) ≡ false
      here q j a b u =
          ap₂ (λ (i : Bool) (y : ℕ). bit y (mask i true (added o g k x c))) (sym a) b
          ∙ own g refl (sym (ap₂ (λ (i : Bool) (y : ℕ). bit y (mask i false (added o g k x c))) (sym a) b) ∙ u)

  ranked_added : (j : ℕ) → j < most_outputs → Ranked (added o g k x c) j
  ranked_added j l = go (ℕ_discrete (most_reads + j) (place_of o k))
    where
      hit : (q v : Bool) (i : ℕ) → k < room q → most_reads + i ≡ place_of q k → k ≡ i → Ranked (added q v k x c) k
      hit true v i m e z =
          let long = s.below.long in
          let r : rank (added true v k x c) k ≡ x = rank_hit k x c v (omega arith) in
          (omega arith, λ p q. clash (bit_hit k x c true v) (off v p q))
        where
          off : (u : Bool) → bit k (mask true false (added true v k x c)) ≡ false → bit k (mask true true (added true v k x c)) ≡ false → bit k (mask true u (added true v k x c)) ≡ false
          off true p q = q
          off false p q = p
      hit false v i m e z = absurd (omega arith)

      inner : (q : Bool) → k < room q → most_reads + j ≡ place_of q k → k ≡ j
      inner true m e = omega arith
      inner false m e = absurd (omega arith)

      go : Dec (most_reads + j ≡ place_of o k) → Ranked (added o g k x c) j
      go (yes e) = let z = inner o room-ok e in subst (Ranked (added o g k x c)) z (hit o g j room-ok e z)
      go (no e) =
          let y = rank_miss k x c o g j e in
          let t = s.ranked j l in (
            subst (λ (i : ℕ). i < rank_end) (sym y) t.0,
            λ u v. y ∙ t.1 (sym (bit_miss k x c o g true false j e) ∙ u) (sym (bit_miss k x c o g true true j e) ∙ v),
          )

  sound_added : Sound wide r n (place_of o k + 1) (added o g k x c)
  sound_added = record {
    below = below_added r n p c s.below o g k x h w;
    apart = apart_added;
    ranked = ranked_added;
    some = some_added o refl;
    low = λ e q. mask_wide k x c o g false q 16 (λ a. four e) (s.low e q);
  }
    where
      some_added : (q : Bool) → o ≡ q → most_reads < place_of q k + 1 → (v : Bool) × (j : ℕ) × (bit j (mask true v (added o g k x c)) ≡ true)
      some_added true e l = (g, k, ap (λ (i : Bool). bit k (mask i g (added o g k x c))) (sym e) ∙ bit_hit k x c o g)
      some_added false e l = let m : k < most_reads = subst (λ (i : Bool). k < room i) e room-ok in absurd (omega arith)

-- ---- the tests of a well-formed constraint

bool_off : (a b : Bool) → (a ≡ true → b ≡ false) → (a && b) ≡ false
bool_off true b h = h refl
bool_off false b h = refl

every_nine : (a b c d e f g h i : Bool) → a ≡ true → b ≡ true → c ≡ true → d ≡ true → e ≡ true → f ≡ true → g ≡ true → h ≡ true → i ≡ true
    → every (a ∷ b ∷ c ∷ d ∷ e ∷ f ∷ g ∷ h ∷ i ∷ []) ≡ true
every_nine a b c d e f g h i a' b' c' d' e' f' g' h' i' = λ j. every (a' j ∷ b' j ∷ c' j ∷ d' j ∷ e' j ∷ f' j ∷ g' j ∷ h' j ∷ i' j ∷ [])

sound_tests : (wide : Bool) (r n p : ℕ) (c : Constraint) → Sound wide r n p c → most_reads < p → every (constraint_tests r n c) ≡ true
unfolding constraint_tests rank_ok
sound_tests wide r n p c s l =
    let b = s.below in
    every_nine _ _ _ _ _ _ _ _ _
    (lt-ltb c.read_plain (2 ^ r) (b.small false false))
    (lt-ltb c.read_negated (2 ^ r) (b.small false true))
    (once false)
    (lt-ltb c.out_plain (2 ^ n) (b.small true false))
    (lt-ltb c.out_negated (2 ^ n) (b.small true true))
    (once true)
    (lt-ltb 0 (outs c) named)
    (eq-eqb (length c.ranks) most_outputs b.long)
    (all_true most_outputs (rank_ok c) (λ k h. rank_ok_law k h))
  where
    once : (o : Bool) → eqb (bit_and (mask o false c) (mask o true c)) 0 ≡ true
    once o =
        eq-eqb (bit_and (mask o false c) (mask o true c)) 0
        (no_bits (size r n o) (bit_and (mask o false c) (mask o true c)) (lt_of_le_of_lt (and_le_r (mask o false c) (mask o true c)) (s.below.small o true))
        (λ k h. bit_of_and k (mask o false c) (mask o true c) ∙ bool_off (bit k (mask o false c)) (bit k (mask o true c)) (s.apart o k)))

    out_bit : (g : Bool) (k : ℕ) → bit k (mask true g c) ≡ true → bit k (outs c) ≡ true
    out_bit true k t = bit_of_or k c.out_plain c.out_negated ∙ or_right (bit k c.out_plain) (bit k c.out_negated) t
    out_bit false k t = bit_of_or k c.out_plain c.out_negated ∙ or_left (bit k c.out_plain) (bit k c.out_negated) t

    named : 0 < outs c
    named = go (dec_lt 0 (outs c))
      where
        go : Dec (0 < outs c) → 0 < outs c
        go (yes h) = h
        go (no h) =
            let t = s.some l in
            let z : outs c ≡ 0 = omega arith in
            clash (out_bit t.0 t.1 t.2) (ap (bit t.1) z ∙ bit_zero t.1)

    rank_ok_law : (k : ℕ) → k < most_outputs → rank_ok c k ≡ true
    rank_ok_law k h =
        let t = s.ranked k h in
        ap₂ ◌&&◌ (lt-ltb (rank c k) rank_end t.0)
        (by_test (bit k (outs c))
        (λ e. or_left (bit k (outs c)) (eqb (rank c k) 0) e)
        (λ e. let u = or_false (bit k c.out_plain) (bit k c.out_negated) (sym (bit_of_or k c.out_plain c.out_negated) ∙ e) in
        or_right (bit k (outs c)) (eqb (rank c k) 0) (eq-eqb (rank c k) 0 (t.1 u.0 u.1))))

-- ---- all literals

-- what was made of a constraint and literals
abbrev Made : Bool → ℕ → ℕ → Constraint → List Said → Constraint → Type 0
Made wide r n c ls made = (every (constraint_tests r n made) ≡ true) × (all_said made ≡ all_said c ++ ls) × AllClear ls × (names_high made ≡ wide)

module _ (wide : Bool) (r n : ℕ) (hr : r ≤ most_reads) (hn : n ≤ most_outputs) where
  fits_room : (o : Bool) (k : ℕ) → k < size r n o → k < room o
  fits_room true k h = omega arith
  fits_room false k h = omega arith

  last : (next : ℕ) (c : Constraint) → Sound wide r n next c → (b d : Bool) → (wide && not (names_high c)) ≡ b → leb next most_reads ≡ d
      → (cond b (refused_literals 59) (cond d (refused_literals 11) (good_literals c))).taken ≡ Good
      → Made wide r n c [] (cond b (refused_literals 59) (cond d (refused_literals 11) (good_literals c))).made
  last next c s true d f e t = let z : ◌≡◌ {A = ℕ} 0 1 = cc in absurd (omega arith)
  last next c s false true f e t = let z : ◌≡◌ {A = ℕ} 0 1 = cc in absurd (omega arith)
  last next c s false false f e t = (sound_tests wide r n next c s (leb-false next most_reads e), sym (append-nil (all_said c)), tt, high wide (names_high c) refl refl f)
    where
      high : (w h : Bool) → wide ≡ w → names_high c ≡ h → (w && not h) ≡ false → h ≡ w
      high true true u v q = refl
      high true false u v q = sym q
      high false h u v q = sym v ∙ masks_low c (s.low u)

  taken : (next : ℕ) (c : Constraint) (ls : List Said) → AllSized wide ls → Sound wide r n next c → (literals_from wide r n next c ls).taken ≡ Good → Made wide r n c ls (literals_from wide r n next c ls).made
  unfolding literals_from
  taken next c [] b s t = last next c s (wide && not (names_high c)) (leb next most_reads) refl refl t
  taken next c (l ∷ rest) b s t =
      go (is_literal l r n) (leb next (place l)) refl refl (λ v u. taken (place l + 1) (with_literal c l) rest b.1 v u) t
    where
      others : Literals
      others = literals_from wide r n (place l + 1) (with_literal c l) rest

      go : (i j : Bool) → is_literal l r n ≡ i → leb next (place l) ≡ j
          → (Sound wide r n (place l + 1) (with_literal c l) → others.taken ≡ Good → Made wide r n (with_literal c l) rest others.made)
          → (literal_then i j others).taken ≡ Good → Made wide r n c (l ∷ rest) (literal_then i j others).made
      go false j e f more u = let z : ◌≡◌ {A = ℕ} 0 1 = cc in absurd (omega arith)
      go true false e f more u = let z : ◌≡◌ {A = ℕ} 0 1 = cc in absurd (omega arith)
      go true true e f more u =
          let o = l.out in
          let g = l.negated in
          let k = l.number in
          let x = l.rank in
          let t = literal_is r n l e in
          let same : l ≡ said o g k x = said_is l t.0 in
          let rises : next ≤ place_of o k = leb-true next (place l) f in
          let inside = fits_room o k t.1 in
          let d = added o g k x c in
          let d_is : d ≡ with_literal c l = sym (ap (with_literal c) same ∙ with_added c o g k x) in
          let m = more (subst (Sound wide r n (place l + 1)) d_is (sound_added wide r n next c s o g k x rises t.1 inside b.0.0 b.0.1)) u in (
            m.0,
            m.1 ∙ ap (λ (v : Constraint). all_said v ++ rest) (sym d_is)
                ∙ ap (λ (v : List Said). v ++ rest) (said_added r n next c s.below o g k x rises t.1 inside t.2 ∙ ap (λ (v : Said). all_said c ++ (v ∷ [])) (sym same))
                ∙ append_assoc (all_said c) (l ∷ []) rest,
            (t.0, m.2),
            m.3,
          )

-- The constraint of zeros has no literals.
zero_said : all_said zero_constraint ≡ []
unfolding up_to
zero_said =
    upto_same (λ k. []) (placed zero_constraint) places_end (λ k h. blank_place 0 0 0 zero_constraint (below_zero 0 0) k (omega arith) h)
    ∙ nothing places_end
  where
    nothing : (n : ℕ) → up_to {A = Said} n (λ k. []) ≡ []
    nothing zero = refl
    nothing (suc n) = append-nil (up_to n (λ k. [])) ∙ nothing n

-- What the literals of a body make is well formed, is wide exactly when the body is, and the body is the one written for it.
pub literals_taken : (wide : Bool) (r n : ℕ) (body : List ℕ) → r ≤ most_reads → n ≤ most_outputs → Bytes body → (literals_of wide r n body).taken ≡ Good
    → let c = (literals_of wide r n body).made in (every (constraint_tests r n c) ≡ true) × (names_high c ≡ wide) × (literal_body c ≡ body)
literals_taken wide r n body hr hn b t =
    let m = taken wide r n hr hn 0 zero_constraint (said_by wide body) (said_sized wide body b) (sound_zero wide r n) t in
    let c = (literals_of wide r n body).made in
    let same : all_said c ≡ said_by wide body = m.1 ∙ ap (λ (l : List Said). l ++ said_by wide body) zero_said in
    (m.0, m.3, ap (λ (w : Bool). literals_by w c) m.3 ∙ body_said wide c ∙ ap (bytes_of wide) same ∙ bytes_back wide body b m.2)
