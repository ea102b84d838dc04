-- `Bit k w`, which the promise speaks of, is `bit k w`, which the definitions speak of.
-- Assumes nothing.
use mathlib.Core.Path.{◌≡◌}
use mathlib.Core.Bool.{true, false}
use mathlib.Core.Logic.{◌↔◌}
use Prim.Native.Nat.{ℕ, ◌/◌, ◌%◌, ◌^◌}
use borrow.Author.Tests.{eqb-true, eq-eqb}
use Rattle.words.specs.Word.{odd, bit}
use Rattle.words.proofs.BoolLaws.{by_test, clash}
use Rattle.promise.specs.Terms.{Bit}

pub bit_set : (k w : ℕ) → bit k w ≡ true → Bit k w
unfolding bit odd
bit_set k w e = eqb-true (w / 2 ^ k % 2) 1 e

pub set_bit : (k w : ℕ) → Bit k w → bit k w ≡ true
unfolding bit odd
set_bit k w e = eq-eqb (w / 2 ^ k % 2) 1 e

pub bit_clear : (k w : ℕ) → bit k w ≡ false → ¬ Bit k w
bit_clear k w e b = clash (set_bit k w b) e

pub clear_bit : (k w : ℕ) → ¬ Bit k w → bit k w ≡ false
clear_bit k w n = by_test (bit k w) (λ e. absurd (n (bit_set k w e))) (λ e. e)

pub bit_iff : (k w : ℕ) → (bit k w ≡ true) ↔ Bit k w
bit_iff k w = (bit_set k w, set_bit k w)
