-- What a well-formed constraint is, bit by bit.
-- Assumes nothing.
use mathlib.Core.Path.{◌≡◌, sym, ◌∙◌, ap, ap₂}
use mathlib.Core.Bool.{Bool, true, false, ◌&&◌, ◌||◌}
use Prim.Native.Nat.{ℕ, ◌^◌, ◌<◌}
use lib.Dec.{eqb, ltb}
use lib.ListN.{length}
use lib.Bits.{bit_and}
use borrow.Author.Tests.{eqb-true}
use Rattle.words.specs.Word.{bit}
use Rattle.words.proofs.BoolLaws.{by_test, and_true, or_true}
use Rattle.words.proofs.BitLaws.{bit_of_and, bit_of_or, bit_zero}
use Rattle.words.proofs.LoopLaws.{some_bit}
use Rattle.scan.specs.declared.set.Constraint.{Constraint}
use Rattle.scan.specs.Set.{most_outputs, rank_end, rank, outs}
use Rattle.scan.specs.Shape.{rank_ok}
use Rattle.scan.proofs.ShapeLaws.{Masks, outs_lt}
use Rattle.setfile.proofs.LiteralPlaces.{by_four, mask}
use Rattle.setfile.proofs.OneLiteral.{size}

-- its masks are within the set's points, no point is in two of them, ranks are of outputs named, and an output is named
pub record Fine (r n : ℕ) (c : Constraint) : Type 0 where
  pub small : (o g : Bool) → mask o g c < 2 ^ size r n o
  pub apart : (o : Bool) (k : ℕ) → bit k (mask o false c) ≡ true → bit k (mask o true c) ≡ false
  pub long : length c.ranks ≡ most_outputs
  pub unnamed : (k : ℕ) → k < most_outputs → bit k (mask true false c) ≡ false → bit k (mask true true c) ≡ false → rank c k ≡ 0
  pub some : (g : Bool) × (k : ℕ) × (k < n) × (bit k (mask true g c) ≡ true)

-- masks with no bit in common
bits_apart : (a b k : ℕ) → bit_and a b ≡ 0 → bit k a ≡ true → bit k b ≡ false
bits_apart a b k e t = sym (ap (λ (u : Bool). u && bit k b) t) ∙ sym (bit_of_and k a b) ∙ ap (bit k) e ∙ bit_zero k

-- A well-formed constraint is.
pub fine : (r n : ℕ) (c : Constraint) → Masks r n c → Fine r n c
unfolding rank_ok
fine r n c m = record {
  small = by_four (λ (o g : Bool). mask o g c < 2 ^ size r n o) m.out_negated m.out_plain m.read_negated m.read_plain;
  apart = λ o k. parts o k;
  long = m.ranks_long;
  unnamed =
      λ k h p q.
      eqb-true (rank c k) 0
      (or_true (bit k (outs c)) (eqb (rank c k) 0) (and_true (ltb (rank c k) rank_end) (bit k (outs c) || eqb (rank c k) 0) (m.ranks_ok k h)).1
      (bit_of_or k c.out_plain c.out_negated ∙ ap₂ ◌||◌ p q));
  some =
      let b = some_bit n (outs c) (outs_lt r n c m) m.has_out in
      by_test (bit b.0 c.out_plain)
      (λ t. (false, b.0, b.1, t))
      (λ t. (true, b.0, b.1, or_true (bit b.0 c.out_plain) (bit b.0 c.out_negated) (sym (bit_of_or b.0 c.out_plain c.out_negated) ∙ b.2) t));
}
  where
    parts : (o : Bool) (k : ℕ) → bit k (mask o false c) ≡ true → bit k (mask o true c) ≡ false
    parts true k t = bits_apart c.out_plain c.out_negated k m.out_once t
    parts false k t = bits_apart c.read_plain c.read_negated k m.read_once t
