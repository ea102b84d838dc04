-- The literals of a well-formed constraint, written and read back.
-- Assumes nothing.
use mathlib.Core.Path.{◌≡◌, refl, sym, ◌∙◌, ap, ap₂, subst}
use mathlib.Core.Bool.{Bool, true, false, not, ◌&&◌}
use mathlib.Core.List.{List, [], ◌∷◌, ◌++◌, append_assoc, append-nil}
use Prim.Native.Nat.{ℕ, zero, suc, ◌+◌, ◌≤◌, ◌<◌}
use native.Mathlib.Numerals.{add-one}
use native.Mathlib.Decide.{ℕ_discrete}
use native.Mathlib.Omega.{arith}
use lib.Seq.{ext_get_or}
use borrow.Author.Tests.{lt-leb}
use Rattle.words.specs.Word.{bit}
use Rattle.words.proofs.BoolLaws.{by_test, clash}
use Rattle.words.proofs.BitLaws.{bit_below, same_bits}
use Rattle.scan.specs.declared.set.Constraint.{Constraint}
use Rattle.scan.specs.Set.{most_reads, most_outputs, rank, zero_constraint}
use Rattle.scan.proofs.ShapeLaws.{Masks}
use Rattle.literal.specs.declared.literal.Said.{Said}
use Rattle.header.specs.Tag.{names_high}
use Rattle.literal.specs.Literal.{said_by, good_literals, literals_from, literals_of}
use Rattle.writer.specs.Write.{literal_body}
use Rattle.literal.proofs.LiteralLaws.{room}
use Rattle.setfile.proofs.LiteralPlaces.{said, place_of, places_end, mask, added, alike, alike_true, unlike, bit_hit, bit_sign, bit_miss, rank_hit, rank_miss}
use Rattle.setfile.proofs.BodyPlaces.{up_to, worth, said_if, said_of, placed, all_said, placed_at, by_place}
use Rattle.setfile.proofs.LiteralBytes.{said_back, body_said}
use Rattle.setfile.proofs.ConstraintBits.{Fine, fine}
use Rattle.setfile.proofs.OneLiteral.{size, Below, below_zero, below_added, literal_taken}

-- ---- the places one by one

-- two points at one place are one point
one_point : (o q : Bool) (k j : ℕ) → k < room o → j < room q → place_of q j ≡ place_of o k → (o ≡ q) × (k ≡ j)
one_point true true k j h l e = (refl, omega arith)
one_point true false k j h l e = absurd (omega arith)
one_point false true k j h l e = absurd (omega arith)
one_point false false k j h l e = (refl, sym e)

size_room : (r n : ℕ) → r ≤ most_reads → n ≤ most_outputs → (o : Bool) → size r n o ≤ room o
size_room r n hr hn true = hn
size_room r n hr hn false = hr

-- the literals below place p have been taken: what was made of them, and the next one's least place
record Came (wide : Bool) (r n : ℕ) (c : Constraint) (p : ℕ) : Type 0 where
  next : ℕ
  made : Constraint
  rises : next ≤ p
  below : Below r n p made
  same : (o g : Bool) (k : ℕ) → k < room o → place_of o k < p → bit k (mask o g made) ≡ bit k (mask o g c)
  ranked : (k : ℕ) → k < most_outputs → most_reads + k < p → rank made k ≡ rank c k
  output : (g : Bool) (k : ℕ) → most_reads + k < p → bit k (mask true g c) ≡ true → most_reads < next
  on : (t : List Said) → literals_from wide r n 0 zero_constraint (up_to p (placed c) ++ t) ≡ literals_from wide r n next made t

module _ (wide : Bool) (r n : ℕ) (c : Constraint) (hr : r ≤ most_reads) (hn : n ≤ most_outputs) (f : Fine r n c) where
  came_first : Came wide r n c 0
  unfolding up_to
  came_first = record {
    next = 0;
    made = zero_constraint;
    rises = omega arith;
    below = below_zero r n;
    same = λ o g k w h. absurd (omega arith);
    ranked = λ k w h. absurd (omega arith);
    output = λ g k h e. absurd (omega arith);
    on = λ t. refl;
  }

  module _ (o : Bool) (k : ℕ) (w : k < room o) (a : Came wide r n c (place_of o k)) where
    -- the literal of the point is there, with sign g
    came_literal : (g : Bool) → bit k (mask o g c) ≡ true → bit k (mask o (not g) c) ≡ false → said_of c o k ≡ said o g k (worth o c k) ∷ [] → Came wide r n c (suc (place_of o k))
    unfolding up_to
    came_literal g t u e =
        let p = place_of o k in
        let x = worth o c k in
        let d = a.made in
        let s : k < size r n o = bit_below (size r n o) k (mask o g c) (f.small o g) t in
        let b = below_added r n p d a.below o g k x (omega arith) s in
        record {
          next = p + 1;
          made = added o g k x d;
          rises = omega arith;
          below = subst (λ (i : ℕ). Below r n i (added o g k x d)) (add-one p) b;
          same = λ q v j l h. shown q v j l h (ℕ_discrete (place_of q j) p);
          ranked = λ j l h. kept j l h (ℕ_discrete (most_reads + j) p);
          output = λ v j h z. past j h;
          on =
              λ y.
              ap (literals_from wide r n 0 zero_constraint) (append_assoc (up_to p (placed c)) (placed c p) y)
              ∙ a.on (placed c p ++ y)
              ∙ ap (λ (z : List Said). literals_from wide r n a.next d (z ++ y)) (placed_at c o k w ∙ e)
              ∙ literal_taken wide r n a.next d o g k x y s (plain o) a.rises;
        }
      where
        plain : (q : Bool) → q ≡ false → worth q c k ≡ 0
        plain true z = let y : ◌≡◌ {A = ℕ} 0 1 = cc in absurd (omega arith)
        plain false z = refl

        past : (j : ℕ) → most_reads + j < suc (place_of o k) → most_reads < place_of o k + 1
        past j h = omega arith

        own : (v : Bool) → bit k (mask o v (added o g k (worth o c k) a.made)) ≡ bit k (mask o v c)
        own v =
            by_test (alike g v)
            (λ y. subst (λ (i : Bool). bit k (mask o i (added o g k (worth o c k) a.made)) ≡ bit k (mask o i c)) (alike_true g v y)
            (bit_hit k (worth o c k) a.made o g ∙ sym t))
            (λ y. subst (λ (i : Bool). bit k (mask o i (added o g k (worth o c k) a.made)) ≡ bit k (mask o i c)) (unlike g v y)
            (bit_sign k (worth o c k) a.made o g ∙ a.below.none o (not g) k (omega arith) ∙ sym u))

        shown : (q v : Bool) (j : ℕ) → j < room q → place_of q j < suc (place_of o k) → Dec (place_of q j ≡ place_of o k)
            → bit j (mask q v (added o g k (worth o c k) a.made)) ≡ bit j (mask q v c)
        shown q v j l h (yes z) =
            let i = one_point o q k j w l z in
            subst (λ (y : Bool). bit j (mask y v (added o g k (worth o c k) a.made)) ≡ bit j (mask y v c)) i.0
            (subst (λ (y : ℕ). bit y (mask o v (added o g k (worth o c k) a.made)) ≡ bit y (mask o v c)) i.1 (own v))
        shown q v j l h (no z) = bit_miss k (worth o c k) a.made o g q v j z ∙ a.same q v j l (omega arith)

        hit : (q : Bool) → q ≡ true → k < most_outputs → rank (added q g k (worth q c k) a.made) k ≡ rank c k
        hit true z l = let y = a.below.long in rank_hit k (rank c k) a.made g (omega arith)
        hit false z l = let y : ◌≡◌ {A = ℕ} 0 1 = cc in absurd (omega arith)

        kept : (j : ℕ) → j < most_outputs → most_reads + j < suc (place_of o k) → Dec (most_reads + j ≡ place_of o k) → rank (added o g k (worth o c k) a.made) j ≡ rank c j
        kept j l h (yes z) =
            let i = one_point o true k j w l z in
            subst (λ (y : ℕ). rank (added o g k (worth o c k) a.made) y ≡ rank c y) i.1 (hit o i.0 (subst (λ (y : ℕ). y < most_outputs) (sym i.1) l))
        kept j l h (no z) = rank_miss k (worth o c k) a.made o g j z ∙ a.ranked j l (omega arith)

    -- it is not there
    came_none : bit k (mask o false c) ≡ false → bit k (mask o true c) ≡ false → Came wide r n c (suc (place_of o k))
    unfolding up_to
    came_none t u =
        let p = place_of o k in
        let b = a.below in
        record {
          next = a.next;
          made = a.made;
          rises = let y = a.rises in omega arith;
          below = record { none = λ q v j h. b.none q v j (omega arith); small = b.small; long = b.long; unranked = λ j h l. b.unranked j (omega arith) l };
          same = λ q v j l h. shown q v j l h (ℕ_discrete (place_of q j) p);
          ranked = λ j l h. kept j l h (ℕ_discrete (most_reads + j) p);
          output = λ v j h z. told_out v j h z (ℕ_discrete (most_reads + j) p);
          on =
              λ y.
              ap (literals_from wide r n 0 zero_constraint) (append_assoc (up_to p (placed c)) (placed c p) y)
              ∙ a.on (placed c p ++ y)
              ∙ ap (λ (z : List Said). literals_from wide r n a.next a.made (z ++ y)) (placed_at c o k w ∙ ap₂ (λ (i j : Bool). said_if o i j k (worth o c k)) t u);
        }
      where
        off : (v : Bool) → bit k (mask o v c) ≡ false
        off true = u
        off false = t

        shown : (q v : Bool) (j : ℕ) → j < room q → place_of q j < suc (place_of o k) → Dec (place_of q j ≡ place_of o k) → bit j (mask q v a.made) ≡ bit j (mask q v c)
        shown q v j l h (yes z) =
            let i = one_point o q k j w l z in
            a.below.none q v j (omega arith) ∙ sym (ap₂ (λ (x : Bool) (y : ℕ). bit y (mask x v c)) (sym i.0) (sym i.1) ∙ off v)
        shown q v j l h (no z) = a.same q v j l (omega arith)

        bare : (v : Bool) (j : ℕ) → (o ≡ true) × (k ≡ j) → bit j (mask true v c) ≡ false
        bare v j i = ap₂ (λ (x : Bool) (y : ℕ). bit y (mask x v c)) (sym i.0) (sym i.1) ∙ off v

        kept : (j : ℕ) → j < most_outputs → most_reads + j < suc (place_of o k) → Dec (most_reads + j ≡ place_of o k) → rank a.made j ≡ rank c j
        kept j l h (yes z) =
            let i = one_point o true k j w l z in
            a.below.unranked j (omega arith) l ∙ sym (f.unnamed j l (bare false j i) (bare true j i))
        kept j l h (no z) = a.ranked j l (omega arith)

        told_out : (v : Bool) (j : ℕ) → most_reads + j < suc (place_of o k) → bit j (mask true v c) ≡ true → Dec (most_reads + j ≡ place_of o k) → most_reads < a.next
        told_out v j h z (yes y) =
            let l = bit_below n j (mask true v c) (f.small true v) z in
            clash z (bare v j (one_point o true k j w (omega arith) y))
        told_out v j h z (no y) = a.output v j (omega arith) z

    came_more : Came wide r n c (suc (place_of o k))
    came_more =
        by_test (bit k (mask o false c))
        (λ t. came_literal false t (f.apart o k t) (ap (λ (i : Bool). said_if o i (bit k (mask o true c)) k (worth o c k)) t))
        (λ t. by_test (bit k (mask o true c))
        (λ u. came_literal true u t (ap₂ (λ (i j : Bool). said_if o i j k (worth o c k)) t u))
        (λ u. came_none t u))

  came : (p : ℕ) → p ≤ places_end → Came wide r n c p
  came zero h = came_first
  came (suc p) h = by_place (λ (i : ℕ). Came wide r n c i → Came wide r n c (suc i)) (λ o k w a. came_more o k w a) p h (came p (omega arith))

  -- after the last place the constraint itself has been made
  made_all : (a : Came wide r n c places_end) → a.made ≡ c
  made_all a =
      let p = whole true false in
      let q = whole true true in
      let u = whole false false in
      let v = whole false true in
      let l = a.below.long in
      let m = f.long in
      let k = ext_get_or 0 a.made.ranks c.ranks (omega arith) (λ i h. a.ranked i (omega arith) (omega arith)) in
      λ i. record { read_plain = u i; read_negated = v i; out_plain = p i; out_negated = q i; ranks = k i }
    where
      last : (o : Bool) (k : ℕ) → k < room o → place_of o k < places_end
      last true k h = omega arith
      last false k h = omega arith

      whole : (o g : Bool) → mask o g a.made ≡ mask o g c
      whole o g =
          let s = size_room r n hr hn o in
          same_bits (size r n o) (mask o g a.made) (mask o g c) (a.below.small o g) (f.small o g) (λ k h. a.same o g k (omega arith) (last o k (omega arith)))

  ended : (wide && not (names_high c)) ≡ false → (next : ℕ) → most_reads < next → literals_from wide r n next c [] ≡ good_literals c
  unfolding literals_from
  ended e next h = rw (e, lt-leb next most_reads h)

  back : (wide && not (names_high c)) ≡ false → literals_from wide r n 0 zero_constraint (all_said c) ≡ good_literals c
  back e =
      let a = came places_end (omega arith) in
      let s = f.some in
      let l = s.2 in
      let past = a.output s.0 s.1 (omega arith) s.3 in
      ap (literals_from wide r n 0 zero_constraint) (sym (append-nil (all_said c))) ∙ a.on []
      ∙ ap (λ (d : Constraint). literals_from wide r n a.next d []) (made_all a) ∙ ended e a.next past

-- The literals of a well-formed constraint are read back.
pub literals_back : (r n : ℕ) (c : Constraint) → r ≤ most_reads → n ≤ most_outputs → Masks r n c → literals_of (names_high c) r n (literal_body c) ≡ good_literals c
literals_back r n c hr hn m =
    let wide = names_high c in
    ap (literals_from wide r n 0 zero_constraint) (ap (said_by wide) (body_said wide c) ∙ said_back wide c (λ e. e)) ∙ back wide r n c hr hn (fine r n c m) (never wide)
  where
    never : (b : Bool) → (b && not b) ≡ false
    never true = refl
    never false = refl
