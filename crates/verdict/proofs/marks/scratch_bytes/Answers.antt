-- `verdict::marks::scratch_bytes` meets its contract. Assumes nothing.
use mathlib.Core.Path.{◌≡◌, ap, ◌∙◌}
use Prim.Native.Nat.{ℕ, ◌*◌, ◌/◌, ◌%◌, ◌^◌, ◌≤◌, ◌<◌, min}
use native.Mathlib.Omega.{arith}
use borrow.Author.Tests.{lt-ltb, le-ltb}
use Rattle.words.proofs.ShiftLaws.{one_shl}
use Rattle.words.proofs.BoolLaws.{cond_true, cond_false}
use Rattle.scan.specs.Set.{most_outputs}
use Rattle.verdict.specs.Judge.{scratch_bytes}
use Rattle.verdict.proofs.marks.scratch_bytes.Goals as goal

module _ (n : ℕ) where
  one : n < 3 → 1 ≡ scratch_bytes n
  unfolding scratch_bytes
  one h = cond_true _ 1 (2 ^ n / 8) (lt-ltb n 3 h)

  eighth : 3 ≤ n → n < 64 → (1 * 2 ^ n) % 2 ^ 64 / 8 ≡ scratch_bytes n
  unfolding scratch_bytes
  eighth h l = ap (λ (x : ℕ). x / 8) (one_shl 64 n l) ∙ cond_false _ 1 (2 ^ n / 8) (le-ltb n 3 h)

pub returns-then-outputs-lt3 : goal.returns-then-outputs-lt3
returns-then-outputs-lt3 c =
    let l = c in
    let least : l.min-outputs.result ≡ min l.args.n most_outputs = l.min-outputs.ensures in
    one l.min-outputs.result c.if-outputs-lt3.true ∙ ap scratch_bytes least

pub returns-else-outputs-lt3 : goal.returns-else-outputs-lt3
returns-else-outputs-lt3 c =
    let l = c in
    let least : l.min-outputs.result ≡ min l.args.n most_outputs = l.min-outputs.ensures in
    eighth l.min-outputs.result (omega (arith, c.if-outputs-lt3.false)) (omega (arith, least)) ∙ ap scratch_bytes least
