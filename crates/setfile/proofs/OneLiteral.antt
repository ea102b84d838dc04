-- A constraint with no literal from a place on, and what one literal at that place or later does to it and to its literals.
-- Assumes nothing.
use mathlib.Core.Path.{◌≡◌, refl, sym, ◌∙◌, ap, ap₂, subst}
use mathlib.Core.Bool.{Bool, true, false, cond, not, ◌&&◌}
use mathlib.Core.List.{List, [], ◌∷◌, ◌++◌}
use Prim.Native.Nat.{ℕ, ◌+◌, ◌^◌, ◌≤◌, ◌<◌}
use native.Mathlib.Omega.{arith}
use lib.Dec.{eqb, ltb}
use lib.ListN.{length, get_or-replicate}
use lib.Pow.{pow_pos}
use borrow.Author.Tests.{eqb-true, eq-eqb, ltb-true, lt-ltb}
use Rattle.words.specs.Word.{bit}
use Rattle.words.proofs.BoolLaws.{and_true}
use Rattle.words.proofs.BitLaws.{bit_zero}
use Rattle.scan.specs.declared.set.Constraint.{Constraint}
use Rattle.scan.specs.Set.{most_reads, most_outputs, rank, zero_constraint}
use Rattle.literal.specs.declared.literal.Said.{Said}
use Rattle.literal.specs.Literal.{is_literal, literals_from}
use Rattle.literal.proofs.LiteralLaws.{room, one_more}
use Rattle.setfile.proofs.LiteralPlaces.{by_four, said, place_of, places_end, mask, added, with_added, alike_true, bit_hit, bit_sign, bit_miss, mask_wide, rank_hit, rank_miss, ranks_added}
use Rattle.setfile.proofs.BodyPlaces.{worth, said_if, said_of, placed, all_said, placed_at, by_place, upto_add}

-- how many outputs or read points a set has
abbrev pub size : ℕ → ℕ → Bool → ℕ
size r n true = n
size r n false = r

-- no literal from place p on, none of points that the set has not, and no rank from there on
pub record Below (r n p : ℕ) (c : Constraint) : Type 0 where
  pub none : (o g : Bool) (k : ℕ) → p ≤ place_of o k → bit k (mask o g c) ≡ false
  pub small : (o g : Bool) → mask o g c < 2 ^ size r n o
  pub long : length c.ranks ≡ most_outputs
  pub unranked : (k : ℕ) → p ≤ most_reads + k → k < most_outputs → rank c k ≡ 0

-- The constraint of zeros has none.
pub below_zero : (r n : ℕ) → Below r n 0 zero_constraint
below_zero r n = record {
  none = λ o g k h. ap (bit k) (empty o g) ∙ bit_zero k;
  small = λ o g. subst (λ (m : ℕ). m < 2 ^ size r n o) (sym (empty o g)) (pow_pos (size r n o));
  long = refl;
  unranked = λ k h l. get_or-replicate most_outputs k 0 0 l;
}
  where
    empty : (o g : Bool) → mask o g zero_constraint ≡ 0
    empty = by_four (λ (o g : Bool). mask o g zero_constraint ≡ 0) refl refl refl refl

-- One more literal, at place p or later.
module _ (r n p : ℕ) (c : Constraint) (b : Below r n p c) (o g : Bool) (k x : ℕ) (h : p ≤ place_of o k) (s : k < size r n o) where
  pub below_added : Below r n (place_of o k + 1) (added o g k x c)
  below_added = record {
    none = λ q t j l. bit_miss k x c o g q t j (λ e. omega arith) ∙ b.none q t j (omega arith);
    small = λ q t. mask_wide k x c o g q t (size r n q) (λ e. subst (λ (a : Bool). k < size r n a) (alike_true o q e) s) (b.small q t);
    long = ranks_added k x c o g ∙ b.long;
    unranked = λ j l m. rank_miss k x c o g j (λ e. omega arith) ∙ b.unranked j (omega arith) m;
  }

  -- the other sign's bit there is not set
  other_none : bit k (mask o (not g) (added o g k x c)) ≡ false
  other_none = bit_sign k x c o g ∙ b.none o (not g) k h

  module _ (w : k < room o) (z : o ≡ false → x ≡ 0) where
    carried : worth o (added o g k x c) k ≡ x
    carried = go o refl
      where
        go : (a : Bool) → o ≡ a → worth a (added o g k x c) k ≡ x
        go true e =
            let l = b.long in
            let v : k < most_outputs = subst (λ (a : Bool). k < room a) e w in
            ap (λ (a : Bool). rank (added a g k x c) k) e ∙ rank_hit k x c g (omega arith)
        go false e = sym (z e)

    literal_hit : said_of (added o g k x c) o k ≡ said o g k x ∷ []
    literal_hit = go g refl
      where
        go : (t : Bool) → g ≡ t → said_of (added o g k x c) o k ≡ said o t k x ∷ []
        go true e =
            ap₂ (λ (u v : Bool). said_if o u v k (worth o (added o g k x c) k))
            (ap (λ (u : Bool). bit k (mask o u (added o g k x c))) (sym (ap not e)) ∙ other_none)
            (ap (λ (u : Bool). bit k (mask o u (added o g k x c))) (sym e) ∙ bit_hit k x c o g)
            ∙ ap (λ (y : ℕ). said o true k y ∷ []) carried
        go false e =
            ap (λ (u : Bool). said_if o u (bit k (mask o true (added o g k x c))) k (worth o (added o g k x c) k))
            (ap (λ (u : Bool). bit k (mask o u (added o g k x c))) (sym e) ∙ bit_hit k x c o g)
            ∙ ap (λ (y : ℕ). said o false k y ∷ []) carried

-- A place from p on has no literal.
pub blank_place : (r n p : ℕ) (c : Constraint) → Below r n p c → (j : ℕ) → p ≤ j → j < places_end → placed c j ≡ []
blank_place r n p c b j h l =
    by_place (λ (i : ℕ). p ≤ i → placed c i ≡ [])
    (λ o k w m. placed_at c o k w ∙ ap₂ (λ (u v : Bool). said_if o u v k (worth o c k)) (b.none o false k m) (b.none o true k m)) j l h

-- The literals at other places are as they were.
other_place : (c : Constraint) (o g : Bool) (k x : ℕ) (j : ℕ) → j < place_of o k → j < places_end → placed (added o g k x c) j ≡ placed c j
other_place c o g k x j h l =
    by_place (λ (i : ℕ). i < place_of o k → placed (added o g k x c) i ≡ placed c i)
    (λ q i w m. let ne : place_of q i ≡ place_of o k → ⊥ = λ e. omega arith in
    placed_at (added o g k x c) q i w
    ∙ ap₂ (λ (u v : Bool). said_if q u v i (worth q (added o g k x c) i)) (bit_miss k x c o g q false i ne) (bit_miss k x c o g q true i ne)
    ∙ ap (said_if q (bit i (mask q false c)) (bit i (mask q true c)) i) (kept q i ne)
    ∙ sym (placed_at c q i w)) j l h
  where
    kept : (q : Bool) (i : ℕ) → (place_of q i ≡ place_of o k → ⊥) → worth q (added o g k x c) i ≡ worth q c i
    kept true i ne = rank_miss k x c o g i ne
    kept false i ne = refl

-- The literals of a constraint with a literal more are its literals and that one.
pub said_added : (r n p : ℕ) (c : Constraint) → Below r n p c → (o g : Bool) (k x : ℕ) → p ≤ place_of o k → k < size r n o → k < room o → (o ≡ false → x ≡ 0)
    → all_said (added o g k x c) ≡ all_said c ++ (said o g k x ∷ [])
said_added r n p c b o g k x h s w z =
    let d = added o g k x c in
    let within = inside o k w in
    upto_add (placed c) (placed d) (place_of o k) places_end within (λ j l. other_place c o g k x j l (omega arith))
    (λ j l m. blank_place r n p c b j (omega arith) m)
    (λ j l m. blank_place r n (place_of o k + 1) d (below_added r n p c b o g k x h s) j (omega arith) m)
    ∙ ap (λ (ls : List Said). all_said c ++ ls) (placed_at d o k w ∙ literal_hit r n p c b o g k x h s w z)
  where
    inside : (a : Bool) (i : ℕ) → i < room a → place_of a i < places_end
    inside true i l = omega arith
    inside false i l = omega arith

-- ---- the loader's tests

-- What is said of a point of the set is a literal.
is_literal_law : (r n : ℕ) (o g : Bool) (k x : ℕ) → k < size r n o → (o ≡ false → x ≡ 0) → is_literal (said o g k x) r n ≡ true
is_literal_law r n true g k x h z = lt-ltb k n h
is_literal_law r n false g k x h z = rw (eq-eqb x 0 (z refl)) (lt-ltb k r h)

-- A literal has the bits zero that have to be and is of a point of the set, and one of a read point has no rank.
pub literal_is : (r n : ℕ) (l : Said) → is_literal l r n ≡ true → (l.clear ≡ true) × (l.number < size r n l.out) × (l.out ≡ false → l.rank ≡ 0)
literal_is r n l e =
    let a = and_true l.clear (cond l.out (ltb l.number n) (eqb l.rank 0 && ltb l.number r)) e in
    let t = go l.out a.1 in
    (a.0, t.0, t.1)
  where
    k : ℕ
    k = l.number

    go : (o : Bool) → cond o (ltb k n) (eqb l.rank 0 && ltb k r) ≡ true → (k < size r n o) × (o ≡ false → l.rank ≡ 0)
    go true t = (ltb-true k n t, λ z. let q : ◌≡◌ {A = ℕ} 0 1 = cc in absurd (omega arith))
    go false t = let u = and_true (eqb l.rank 0) (ltb k r) t in (ltb-true k r u.1, λ z. eqb-true l.rank 0 u.0)

-- A literal that is one, and rises, is taken.
pub literal_taken : (wide : Bool) (r n next : ℕ) (c : Constraint) (o g : Bool) (k x : ℕ) (rest : List Said) → k < size r n o → (o ≡ false → x ≡ 0) → next ≤ place_of o k
    → literals_from wide r n next c (said o g k x ∷ rest) ≡ literals_from wide r n (place_of o k + 1) (added o g k x c) rest
literal_taken wide r n next c o g k x rest h z l =
    one_more wide r n next c (said o g k x) rest (is_literal_law r n o g k x h z) l
    ∙ ap (λ (d : Constraint). literals_from wide r n (place_of o k + 1) d rest) (with_added c o g k x)
