-- Literals by what they say: an output or a read point, negated or plain, the point's number and the rank. Outputs stand at the places from most_reads on, read points below.
-- Assumes nothing.
use mathlib.Core.Path.{◌≡◌, refl, sym, ◌∙◌, ap, ap₂}
use mathlib.Core.Bool.{Bool, true, false, cond, not, ◌&&◌, ◌||◌}
use Prim.Native.Nat.{ℕ, ◌+◌, ◌^◌, ◌<◌}
use lib.Dec.{eqb}
use lib.ListN.{length, set, length-set}
use lib.Seq.{get_or-set_same, get_or-set_other}
use lib.Bits.{or_lt}
use lib.Pow.{pow-lt}
use borrow.Author.Tests.{eqb-true, eq-eqb}
use Rattle.words.specs.Word.{bit}
use Rattle.words.proofs.BoolLaws.{by_test, and_true, or_right}
use Rattle.words.proofs.BitLaws.{bit_of_or, bit_pow}
use Rattle.scan.specs.declared.set.Constraint.{Constraint}
use Rattle.scan.specs.Set.{most_reads, most_outputs, rank}
use Rattle.literal.specs.declared.literal.Said.{Said}
use Rattle.literal.specs.Literal.{with_bit, with_literal}

-- a statement about two truth values
pub by_four : (P : Bool → Bool → Type 0) → P true true → P true false → P false true → P false false → (a b : Bool) → P a b
by_four P tt' tf ft ff true true = tt'
by_four P tt' tf ft ff true false = tf
by_four P tt' tf ft ff false true = ft
by_four P tt' tf ft ff false false = ff

-- ---- what literals say

-- the literal of a point, an output or a read point, with its sign and rank
abbrev pub said : Bool → Bool → ℕ → ℕ → Said
said o g k x = record { clear = true; out = o; negated = g; number = k; rank = x }

-- the place of a point
abbrev pub place_of : Bool → ℕ → ℕ
place_of o k = cond o (most_reads + k) k

-- the places of literals are below this
abbrev pub places_end : ℕ
places_end = most_reads + most_outputs

-- A literal whose bits are zero that have to be is the one of what it says.
pub said_is : (l : Said) → l.clear ≡ true → l ≡ said l.out l.negated l.number l.rank
said_is l e = λ i. record { clear = e i; out = l.out; negated = l.negated; number = l.number; rank = l.rank }

-- ---- a constraint with a literal more

-- the mask of the outputs or read points that are negated or plain
abbrev pub mask : Bool → Bool → Constraint → ℕ
mask true true c = c.out_negated
mask true false c = c.out_plain
mask false true c = c.read_negated
mask false false c = c.read_plain

-- the constraint with a literal more
abbrev pub added : Bool → Bool → ℕ → ℕ → Constraint → Constraint
added true true k x c =
    record { read_plain = c.read_plain; read_negated = c.read_negated; out_plain = c.out_plain; out_negated = with_bit c.out_negated k; ranks = set c.ranks k x }
added true false k x c =
    record { read_plain = c.read_plain; read_negated = c.read_negated; out_plain = with_bit c.out_plain k; out_negated = c.out_negated; ranks = set c.ranks k x }
added false true k x c =
    record { read_plain = c.read_plain; read_negated = with_bit c.read_negated k; out_plain = c.out_plain; out_negated = c.out_negated; ranks = c.ranks }
added false false k x c =
    record { read_plain = with_bit c.read_plain k; read_negated = c.read_negated; out_plain = c.out_plain; out_negated = c.out_negated; ranks = c.ranks }

-- The loader adds what is said.
pub with_added : (c : Constraint) (o g : Bool) (k x : ℕ) → with_literal c (said o g k x) ≡ added o g k x c
unfolding with_literal
with_added c o g k x = by_four (λ (o g : Bool). with_literal c (said o g k x) ≡ added o g k x c) refl refl refl refl o g

-- both or neither
abbrev pub alike : Bool → Bool → Bool
alike true b = b
alike false b = not b

alike_self : (b : Bool) → alike b b ≡ true
alike_self true = refl
alike_self false = refl

alike_not : (b : Bool) → alike b (not b) ≡ false
alike_not true = refl
alike_not false = refl

pub alike_true : (a b : Bool) → alike a b ≡ true → a ≡ b
alike_true true true e = refl
alike_true true false e = sym e
alike_true false true e = e
alike_true false false e = refl

pub unlike : (a b : Bool) → alike a b ≡ false → not a ≡ b
unlike true b e = sym e
unlike false true e = refl
unlike false false e = e

or_none : (b : Bool) → (b || false) ≡ b
or_none true = refl
or_none false = refl

module _ (k x : ℕ) (c : Constraint) where
  -- the masks of the constraint with a literal more
  mask_added : (o g p q : Bool) → mask p q (added o g k x c) ≡ cond (alike o p && alike g q) (with_bit (mask p q c) k) (mask p q c)
  mask_added =
      by_four (λ (o g : Bool). (p q : Bool) → mask p q (added o g k x c) ≡ cond (alike o p && alike g q) (with_bit (mask p q c) k) (mask p q c))
      (by_four (λ (p q : Bool). mask p q (added true true k x c) ≡ cond (p && q) (with_bit (mask p q c) k) (mask p q c)) refl refl refl refl)
      (by_four (λ (p q : Bool). mask p q (added true false k x c) ≡ cond (p && not q) (with_bit (mask p q c) k) (mask p q c)) refl refl refl refl)
      (by_four (λ (p q : Bool). mask p q (added false true k x c) ≡ cond (not p && q) (with_bit (mask p q c) k) (mask p q c)) refl refl refl refl)
      (by_four (λ (p q : Bool). mask p q (added false false k x c) ≡ cond (not p && not q) (with_bit (mask p q c) k) (mask p q c)) refl refl refl refl)

  with_bit_law : (b : Bool) (m j : ℕ) → bit j (cond b (with_bit m k) m) ≡ (bit j m || (b && eqb j k))
  with_bit_law true m j = bit_of_or j m (2 ^ k) ∙ ap (λ (t : Bool). bit j m || t) (bit_pow j k)
  with_bit_law false m j = sym (or_none (bit j m))

  bit_added : (o g p q : Bool) (j : ℕ) → bit j (mask p q (added o g k x c)) ≡ (bit j (mask p q c) || ((alike o p && alike g q) && eqb j k))
  bit_added o g p q j = ap (bit j) (mask_added o g p q) ∙ with_bit_law (alike o p && alike g q) (mask p q c) j

  -- The bit of the literal added is set.
  pub bit_hit : (o g : Bool) → bit k (mask o g (added o g k x c)) ≡ true
  bit_hit o g =
      bit_added o g o g k
      ∙ ap₂ (λ (s t : Bool). bit k (mask o g c) || ((s && t) && eqb k k)) (alike_self o) (alike_self g)
      ∙ or_right (bit k (mask o g c)) (eqb k k) (eq-eqb k k refl)

  bit_off : (o g p q : Bool) (j : ℕ) → ((alike o p && alike g q) && eqb j k) ≡ false → bit j (mask p q (added o g k x c)) ≡ bit j (mask p q c)
  bit_off o g p q j e = bit_added o g p q j ∙ ap (λ (t : Bool). bit j (mask p q c) || t) e ∙ or_none (bit j (mask p q c))

  -- That of the other sign is as it was.
  pub bit_sign : (o g : Bool) → bit k (mask o (not g) (added o g k x c)) ≡ bit k (mask o (not g) c)
  bit_sign o g = bit_off o g o (not g) k (ap₂ (λ (s t : Bool). (s && t) && eqb k k) (alike_self o) (alike_not g))

  -- Those of other points are as they were.
  pub bit_else : (o g p q : Bool) (j : ℕ) → (alike o p && eqb j k) ≡ false → bit j (mask p q (added o g k x c)) ≡ bit j (mask p q c)
  bit_else o g p q j e = bit_off o g p q j (go (alike o p) (alike g q) (eqb j k) e)
    where
      go : (a b d : Bool) → (a && d) ≡ false → ((a && b) && d) ≡ false
      go true true d t = t
      go true false d t = refl
      go false b d t = refl

  -- So are those at other places.
  pub bit_miss : (o g p q : Bool) (j : ℕ) → (place_of p j ≡ place_of o k → ⊥) → bit j (mask p q (added o g k x c)) ≡ bit j (mask p q c)
  bit_miss o g p q j n =
      bit_else o g p q j
      (by_test (alike o p && eqb j k)
      (λ t. let a = and_true (alike o p) (eqb j k) t in absurd (n (ap₂ place_of (sym (alike_true o p a.0)) (eqb-true j k a.1))))
      (λ t. t))

  -- The masks stay as wide as they were.
  pub mask_wide : (o g p q : Bool) (w : ℕ) → (alike o p ≡ true → k < w) → mask p q c < 2 ^ w → mask p q (added o g k x c) < 2 ^ w
  mask_wide o g p q w h l = rw (mask_added o g p q) (go (alike o p && alike g q) refl)
    where
      go : (b : Bool) → (alike o p && alike g q) ≡ b → cond b (with_bit (mask p q c) k) (mask p q c) < 2 ^ w
      go true e = or_lt w (mask p q c) (2 ^ k) l (pow-lt (h (and_true (alike o p) (alike g q) e).0))
      go false e = l

  -- The rank added.
  pub rank_hit : (g : Bool) → k < length c.ranks → rank (added true g k x c) k ≡ x
  rank_hit true h = get_or-set_same c.ranks k x 0 h
  rank_hit false h = get_or-set_same c.ranks k x 0 h

  -- Ranks at other places are as they were.
  pub rank_miss : (o g : Bool) (j : ℕ) → (place_of true j ≡ place_of o k → ⊥) → rank (added o g k x c) j ≡ rank c j
  rank_miss true true j n = get_or-set_other c.ranks k j x 0 (λ e. n (ap (λ (i : ℕ). most_reads + i) e))
  rank_miss true false j n = get_or-set_other c.ranks k j x 0 (λ e. n (ap (λ (i : ℕ). most_reads + i) e))
  rank_miss false true j n = refl
  rank_miss false false j n = refl

  pub ranks_added : (o g : Bool) → length (added o g k x c).ranks ≡ length c.ranks
  ranks_added =
      by_four (λ (o g : Bool). length (added o g k x c).ranks ≡ length c.ranks)
      (length-set c.ranks k x) (length-set c.ranks k x) refl refl
