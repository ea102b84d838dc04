-- `verdict::marks::is_marked` meets its contract. Assumes nothing.
use mathlib.Core.Path.{◌≡◌, sym, ap, ◌∙◌}
use mathlib.Core.Bool.{Bool, false}
use mathlib.Core.List.{List}
use Prim.Native.Nat.{ℕ, ◌/◌, ◌%◌, ◌≤◌}
use native.Mathlib.Omega.{arith}
use lib.ListN.{length, get_or, get_or-eq_default}
use Rattle.words.specs.Word.{bit}
use Rattle.words.proofs.BitLaws.{bit_zero}
use Rattle.verdict.specs.way.Marks.{marked}
use Rattle.verdict.proofs.marks.is_marked.Goals as goal

module _ (marks : List ℕ) (v : ℕ) where
  there : (b : Bool) → b ≡ bit (v % 8) (get_or marks (v / 8) 0) → b ≡ marked marks v
  unfolding marked
  there b e = e

  past : length marks ≤ v / 8 → false ≡ marked marks v
  unfolding marked
  past h = sym (ap (bit (v % 8)) (get_or-eq_default marks 0 h) ∙ bit_zero (v % 8))

pub overflow_cast-marks : goal.overflow_cast-marks
overflow_cast-marks c = omega (arith, c.shared_slice_known-then-i-marks-1.given (c.args.v / 8))

pub returns-then-i-marks : goal.returns-then-i-marks
returns-then-i-marks c =
    let a = c.args in
    let told : c.bit16.result ≡ bit (a.v % 8) (get_or a.marks.now (a.v / 8) 0) = c.bit16.ensures in
    there a.marks.now a.v c.bit16.result told

pub returns-else-i-marks : goal.returns-else-i-marks
returns-else-i-marks c = let a = c.args in past a.marks.now a.v c.if-i-marks.false
