-- What a constraint's field says, literal by literal: its masks, its tag, when it is true, its ranks, and the numbers of its points.
-- Assumes nothing.
use mathlib.Core.Path.{◌≡◌, refl, sym, ap, subst, ◌∙◌}
use mathlib.Core.Bool.{Bool, true, false, cond, not, ◌&&◌, ◌||◌}
use mathlib.Core.Logic.{◌↔◌, ◌⊎◌, inl, inr, ⊎_elim}
use Prim.Native.Nat.{ℕ, ◌+◌, ◌/◌, ◌%◌, ◌^◌, ◌≤◌, ◌<◌}
use native.Mathlib.Nat.{lt_of_lt_of_le}
use native.Mathlib.Omega.{arith}
use lib.Bits.{bit_and, bit_or, or_lt}
use lib.Dec.{eqb}
use lib.Pow.{pow_mono, shr-shr}
use borrow.Author.Tests.{leb-true}
use Rattle.words.specs.Word.{odd, bit}
use Rattle.words.proofs.BoolLaws.{by_test, clash, or_true}
use Rattle.words.proofs.BitLaws.{bit_of_and, bit_of_or, bit_below, bit_zero}
use Rattle.words.proofs.LoopLaws.{some_bit}
use Rattle.scan.specs.declared.set.Constraint.{Constraint}
use Rattle.scan.specs.Set.{most_reads, most_outputs, rank}
use Rattle.scan.proofs.ShapeLaws.{Masks}
use Rattle.header.specs.Tag.{tag_by, names_high}
use Rattle.literal.proofs.LiteralLaws.{room}
use Rattle.writer.specs.Write.{constraint_tag}
use Rattle.setfile.proofs.LiteralPlaces.{mask}
use Rattle.setfile.proofs.BodyPlaces.{worth}
use Rattle.setfile.proofs.LiteralBytes.{low_masks}
use Rattle.promise.specs.Terms.{Bit, IsTrue}
use Rattle.promise.specs.FileSays.{HasLiteral, first_byte, point_number, rank_byte, LiteralTrue, Says}
use Rattle.promise.proofs.Bits.{bit_set, set_bit, clear_bit}
use Rattle.promise.proofs.BodyLiterals.{field_for, Literal, body_literal, literal_body_law}
use Rattle.promise.proofs.FirstBytes.{code, code_out, code_negated, PointTrue, said_true}

-- of two tests that do not both pass
not_first : (a b : Bool) → (a && b) ≡ false → b ≡ true → a ≡ false
not_first true b e t = clash t e
not_first false b e t = refl

not_second : (a b : Bool) → (a && b) ≡ false → a ≡ true → b ≡ false
not_second true b e t = e
not_second false b e t = clash t refl

-- no bit is in both of two masks that have none in common
apart : (p q k : ℕ) → bit_and p q ≡ 0 → (bit k p && bit k q) ≡ false
apart p q k e = sym (bit_of_and k p q) ∙ ap (bit k) e ∙ bit_zero k

-- a word of 2 ^ 16 or more has a bit above 15
high_bit : (w : ℕ) → w < 2 ^ most_reads → 2 ^ 16 ≤ w → (k : ℕ) × (15 < k) × (bit k w ≡ true)
unfolding bit odd
high_bit w h l =
    let b = some_bit 4 (w / 2 ^ 16) (omega arith) (omega arith) in
    (16 + b.0, omega arith, ap (λ (x : ℕ). eqb (x % 2) 1) (sym (shr-shr w 16 b.0)) ∙ b.2)

high_word : (c : Constraint) → names_high c ≡ true → 2 ^ 16 ≤ bit_or c.read_plain c.read_negated
unfolding names_high
high_word c e = leb-true (2 ^ 16) (bit_or c.read_plain c.read_negated) e

-- a constraint of r read points and n outputs
module _ (r n : ℕ) (few-reads : r ≤ most_reads) (few-outputs : n ≤ most_outputs) (c : Constraint) (ms : Masks r n c) where
  mask_lt : (o g : Bool) → mask o g c < 2 ^ cond o n r
  mask_lt true true = ms.out_negated
  mask_lt true false = ms.out_plain
  mask_lt false true = ms.read_negated
  mask_lt false false = ms.read_plain

  -- the points in a mask are of the set
  point_of : (o g : Bool) (k : ℕ) → bit k (mask o g c) ≡ true → k < cond o n r
  point_of o g k e = bit_below (cond o n r) k (mask o g c) (mask_lt o g) e

  point_room : (o : Bool) (k : ℕ) → k < cond o n r → k < room o
  point_room true k h = omega arith
  point_room false k h = omega arith

  -- a point that is in one mask is not in the one of the other sign
  one_sign : (o g : Bool) (k : ℕ) → bit k (mask o g c) ≡ true → bit k (mask o (not g) c) ≡ false
  one_sign true true k e = not_first (bit k c.out_plain) (bit k c.out_negated) (apart c.out_plain c.out_negated k ms.out_once) e
  one_sign true false k e = not_second (bit k c.out_plain) (bit k c.out_negated) (apart c.out_plain c.out_negated k ms.out_once) e
  one_sign false true k e = not_first (bit k c.read_plain) (bit k c.read_negated) (apart c.read_plain c.read_negated k ms.read_once) e
  one_sign false false k e = not_second (bit k c.read_plain) (bit k c.read_negated) (apart c.read_plain c.read_negated k ms.read_once) e

  -- ---- masks

  -- A mask has a bit for each literal of its kind, and no other.
  pub mask_says : (o g : Bool) (k : ℕ) → Bit k (mask o g c) ↔ Says (field_for c) (code o g) k
  mask_says o g k = (
    λ b.
        let e = set_bit k (mask o g c) b in
        literal_body_law c o g k (point_room o k (point_of o g k e)) e (one_sign o g k e),
    λ s.
        let l = body_literal c s.0 s.1 in
        let first = first_byte (field_for c) s.0 in
        let same_out : l.out ≡ o = sym (code_out l.out l.negated first l.flags_are) ∙ code_out o g first s.2 in
        let same_sign : l.negated ≡ g = sym (code_negated l.out l.negated first l.flags_are) ∙ code_negated o g first s.2 in
        let same_number : l.number ≡ k = sym l.number_is ∙ s.3 in
        bit_set k (mask o g c) ((λ i. bit (sym same_number i) (mask (sym same_out i) (sym same_sign i) c)) ∙ l.has),
  )

  -- ---- the tag

  -- A read point above 15 is named exactly where the tag is 0x07.
  pub wide_says : (constraint_tag c ≡ 7) ↔ ((k : ℕ) × (15 < k) × (Bit k c.read_plain ⊎ Bit k c.read_negated))
  wide_says = (λ e. there (names_high c) refl e, λ x. back (names_high c) refl x)
    where
      named : ℕ
      named = bit_or c.read_plain c.read_negated

      there : (b : Bool) → names_high c ≡ b → tag_by b ≡ 7 → (k : ℕ) × (15 < k) × (Bit k c.read_plain ⊎ Bit k c.read_negated)
      there true e t =
          let h = high_bit named (lt_of_lt_of_le (or_lt r c.read_plain c.read_negated ms.read_plain ms.read_negated) (pow_mono {i = r} {j = most_reads} few-reads)) (high_word c e) in
          let k = h.0 in
          let either : (bit k c.read_plain || bit k c.read_negated) ≡ true = sym (bit_of_or k c.read_plain c.read_negated) ∙ h.2 in
          (k, h.1, by_test (bit k c.read_plain) (λ u. inl (bit_set k c.read_plain u)) (λ u. inr (bit_set k c.read_negated (or_true (bit k c.read_plain) (bit k c.read_negated) either u))))
      there false e t = absurd (omega arith)

      low : names_high c ≡ false → (g : Bool) (k : ℕ) → 15 < k → Bit k (mask false g c) → ⊥
      low e g k h b = let l = bit_below 16 k (mask false g c) (low_masks c e g) (set_bit k (mask false g c) b) in omega arith

      back : (b : Bool) → names_high c ≡ b → ((k : ℕ) × (15 < k) × (Bit k c.read_plain ⊎ Bit k c.read_negated)) → tag_by b ≡ 7
      back true e x = refl
      back false e x = absurd (⊎_elim (low e false x.0 x.1) (low e true x.0 x.1) x.2)

  -- ---- truth

  module _ (w v : ℕ) where
    is_point : IsTrue c w v → (o g : Bool) (k : ℕ) → Bit k (mask o g c) → PointTrue o g k w v
    is_point t true true = t.1.1
    is_point t true false = t.1.0
    is_point t false true = t.0.1
    is_point t false false = t.0.0

    -- a literal of the field is true exactly when its point is as it says
    literal_true : (j : ℕ) (o g : Bool) (k : ℕ) → first_byte (field_for c) j / 64 ≡ code o g → point_number (field_for c) j ≡ k
        → LiteralTrue (first_byte (field_for c) j) (point_number (field_for c) j) w v ↔ PointTrue o g k w v
    literal_true j o g k e f =
        let first = first_byte (field_for c) j in
        subst (λ (x : ℕ). LiteralTrue first (point_number (field_for c) j) w v ↔ PointTrue o g x w v) f
        (said_true first (point_number (field_for c) j) w v o g (code_out o g first e) (code_negated o g first e))

    -- The constraint is true exactly when every literal of its field is.
    pub true_says : IsTrue c w v ↔ ((j : ℕ) → HasLiteral (field_for c) j → LiteralTrue (first_byte (field_for c) j) (point_number (field_for c) j) w v)
    true_says = (
      λ t j h.
          let l = body_literal c j h in
          let p = is_point t l.out l.negated l.number (bit_set l.number (mask l.out l.negated c) l.has) in
          (literal_true j l.out l.negated l.number l.flags_are l.number_is).1 p,
      λ all. ((point all false false, point all false true), (point all true false, point all true true)),
    )
      where
        point : ((j : ℕ) → HasLiteral (field_for c) j → LiteralTrue (first_byte (field_for c) j) (point_number (field_for c) j) w v) → (o g : Bool) (k : ℕ) → Bit k (mask o g c) → PointTrue o g k w v
        point all o g k b = let s = (mask_says o g k).0 b in (literal_true s.0 o g k s.2 s.3).0 (all s.0 s.1)

  -- ---- ranks and numbers

  module _ (j : ℕ) (h : HasLiteral (field_for c) j) where
    abbrev first : ℕ
    first = first_byte (field_for c) j

    abbrev number : ℕ
    number = point_number (field_for c) j

    here : Literal c (field_for c) j
    here = body_literal c j h

    out_is : bit 6 first ≡ here.out
    out_is = code_out here.out here.negated first here.flags_are

    -- The last byte of an output's literal is its rank.
    pub rank_says : Bit 6 first → rank c number ≡ rank_byte (field_for c) j
    rank_says b =
        let o : here.out ≡ true = sym out_is ∙ set_bit 6 first b in
        ap (rank c) here.number_is ∙ sym (here.rank_is ∙ ap (λ (x : Bool). worth x c here.number) o)

    number_below : number < cond here.out n r
    number_below = subst (λ (k : ℕ). k < cond here.out n r) (sym here.number_is) (point_of here.out here.negated here.number here.has)

    -- The point of a literal is one of the set's.
    pub output_says : Bit 6 first → number < n
    output_says b = subst (λ (x : Bool). number < cond x n r) (sym out_is ∙ set_bit 6 first b) number_below

    pub read_says : ¬ Bit 6 first → number < r
    read_says b = subst (λ (x : Bool). number < cond x n r) (sym out_is ∙ clear_bit 6 first b) number_below
