-- The first byte of a literal: what bits 7 and 6 say, and when the literal is true.
-- Assumes nothing.
use mathlib.Core.Path.{◌≡◌}
use mathlib.Core.Bool.{Bool, true, false, cond}
use mathlib.Core.Logic.{◌↔◌}
use Prim.Native.Nat.{ℕ, ◌+◌, ◌/◌, ◌%◌, ◌^◌, ◌<◌}
use native.Mathlib.Omega.{arith}
use borrow.Author.Tests.{eq-eqb, ne_eqb}
use Rattle.words.specs.Word.{odd, bit}
use Rattle.setfile.proofs.LiteralBytes.{flags}
use Rattle.promise.specs.Terms.{Bit}
use Rattle.promise.specs.FileSays.{LiteralTrue}
use Rattle.promise.proofs.Bits.{bit_set, bit_clear}

-- ---- what its bits say

-- bits 7 and 6 as a number
abbrev pub code : Bool → Bool → ℕ
code true true = 3
code true false = 1
code false true = 2
code false false = 0

-- They stand above a number of four bits.
pub narrow_code : (o g : Bool) (k : ℕ) → k < 16 → (flags o g + k) / 64 ≡ code o g
narrow_code true true k h = omega arith
narrow_code true false k h = omega arith
narrow_code false true k h = omega arith
narrow_code false false k h = omega arith

-- Which leaves that number.
pub narrow_number : (o g : Bool) (k : ℕ) → k < 16 → (flags o g + k) % 16 ≡ k
narrow_number true true k h = omega arith
narrow_number true false k h = omega arith
narrow_number false true k h = omega arith
narrow_number false false k h = omega arith

-- Or alone.
pub wide_code : (o g : Bool) → flags o g / 64 ≡ code o g
wide_code true true = omega arith
wide_code true false = omega arith
wide_code false true = omega arith
wide_code false false = omega arith

-- Bit 6 marks an output.
pub code_out : (o g : Bool) (first : ℕ) → first / 64 ≡ code o g → bit 6 first ≡ o
unfolding bit odd
code_out true true first e = eq-eqb (first / 2 ^ 6 % 2) 1 (omega arith)
code_out true false first e = eq-eqb (first / 2 ^ 6 % 2) 1 (omega arith)
code_out false true first e = ne_eqb (first / 2 ^ 6 % 2) 1 (omega arith)
code_out false false first e = ne_eqb (first / 2 ^ 6 % 2) 1 (omega arith)

-- Bit 7 marks a negated literal.
pub code_negated : (o g : Bool) (first : ℕ) → first / 64 ≡ code o g → bit 7 first ≡ g
unfolding bit odd
code_negated true true first e = eq-eqb (first / 2 ^ 7 % 2) 1 (omega arith)
code_negated true false first e = ne_eqb (first / 2 ^ 7 % 2) 1 (omega arith)
code_negated false true first e = eq-eqb (first / 2 ^ 7 % 2) 1 (omega arith)
code_negated false false first e = ne_eqb (first / 2 ^ 7 % 2) 1 (omega arith)

-- ---- when the literal is true

-- output or read point k is set, or, negated, is not
abbrev pub PointTrue : Bool → Bool → ℕ → ℕ → ℕ → Type 0
PointTrue o true k w v = ¬ Bit k (cond o v w)
PointTrue o false k w v = Bit k (cond o v w)

-- The literal of a first byte is true exactly when its point is as it says.
module _ (b k w v : ℕ) where
  pub said_true : (o g : Bool) → bit 6 b ≡ o → bit 7 b ≡ g → LiteralTrue b k w v ↔ PointTrue o g k w v
  said_true true true e f = (
    λ t. (t.1 (bit_set 6 b e)).1 (bit_set 7 b f),
    λ p. (λ n. absurd (n (bit_set 6 b e)), λ s. (λ n. absurd (n (bit_set 7 b f)), λ u. p)),
  )
  said_true true false e f = (
    λ t. (t.1 (bit_set 6 b e)).0 (bit_clear 7 b f),
    λ p. (λ n. absurd (n (bit_set 6 b e)), λ s. (λ n. p, λ u. absurd (bit_clear 7 b f u))),
  )
  said_true false true e f = (
    λ t. (t.0 (bit_clear 6 b e)).1 (bit_set 7 b f),
    λ p. (λ n. (λ m. absurd (m (bit_set 7 b f)), λ u. p), λ s. absurd (bit_clear 6 b e s)),
  )
  said_true false false e f = (
    λ t. (t.0 (bit_clear 6 b e)).0 (bit_clear 7 b f),
    λ p. (λ n. (λ m. p, λ u. absurd (bit_clear 7 b f u)), λ s. absurd (bit_clear 6 b e s)),
  )
