-- `decimal::digits_of` meets its contract. The loop's invariant: what is left of the number, written before the bytes from `at` on, gives the digits.
-- Assumes nothing.
use Prim.Native.Nat.{◌≤◌}
use mathlib.Core.Path.{◌≡◌}
use mathlib.Core.List.{◌++◌}
use lib.ListN.{length, take, drop, replicate}
use Rattle.decimal.specs.Decimal.{leading, decimal}
use Rattle.decimal.proofs.digits_of.Given as goal

abbrev pub invariant-loop-at : goal.invariant-loop-at
invariant-loop-at l = (l.at ≤ 19) × (length l.bytes ≡ 20) × (leading l.at l.rest ++ drop l.at l.bytes ≡ decimal l.n) × (take l.at l.bytes ≡ replicate l.at 0)
