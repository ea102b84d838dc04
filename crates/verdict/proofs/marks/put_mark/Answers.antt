-- `verdict::marks::put_mark` meets its contract: a store past the end of a list leaves it. Assumes nothing.
use mathlib.Core.Path.{◌≡◌, sym, ap}
use mathlib.Core.List.{List}
use Prim.Native.Nat.{ℕ, ◌*◌, ◌/◌, ◌%◌, ◌^◌, ◌≤◌}
use native.Mathlib.Omega.{arith}
use lib.ListN.{length, get_or, set}
use lib.Bits.{bit_or}
use lib.Seq.{set_out}
use Rattle.words.proofs.ShiftLaws.{one_shl}
use Rattle.verdict.specs.way.Marks.{with_mark}
use Rattle.verdict.proofs.marks.put_mark.Goals as goal

module _ (marks : List ℕ) (v : ℕ) where
  -- the bit as code makes it
  put : set marks (v / 8) (bit_or (get_or marks (v / 8) 0) ((1 * 2 ^ (v % 8)) % 2 ^ 8)) ≡ with_mark marks v
  unfolding with_mark
  put = ap (λ (x : ℕ). set marks (v / 8) (bit_or (get_or marks (v / 8) 0) x)) (one_shl 8 (v % 8) (omega arith))

  past : length marks ≤ v / 8 → marks ≡ with_mark marks v
  unfolding with_mark
  past h = sym (set_out marks (v / 8) _ h)

pub returns-then-i-marks : goal.returns-then-i-marks
returns-then-i-marks c = let a = c.args in put a.marks.now a.v

pub returns-else-i-marks : goal.returns-else-i-marks
returns-else-i-marks c = let a = c.args in past a.marks.now a.v c.if-i-marks.false
