-- `verdict::marks::first_vectors` meets its contract. Assumes nothing.
use mathlib.Core.Path.{◌≡◌, ap, ◌∙◌}
use Prim.Native.Nat.{ℕ, ◌-◌, ◌*◌, ◌%◌, ◌^◌, ◌≤◌, ◌<◌}
use native.Mathlib.Omega.{arith}
use lib.Pow.{pow_mono}
use borrow.Author.Tests.{lt-ltb, le-ltb}
use Rattle.words.specs.Word.{low}
use Rattle.words.proofs.ShiftLaws.{one_shl, one_shl_pos, one_shl_sub}
use Rattle.words.proofs.BoolLaws.{cond_true, cond_false}
use Rattle.verdict.specs.way.Marks.{first_vectors}
use Rattle.verdict.proofs.marks.first_vectors.Goals as goal

module _ (n : ℕ) where
  -- below 3 outputs there are at most 4 vectors
  vectors : n < 3 → (1 * 2 ^ n) % 2 ^ 16 ≡ 2 ^ n
  vectors h = one_shl 16 n (omega arith)

  few : n < 3 → (1 * 2 ^ n) % 2 ^ 16 < 16
  few h = omega (arith, vectors h, pow_mono {i = n} {j = 2} (omega arith))

  some : n < 3 → (1 * 2 ^ ((1 * 2 ^ n) % 2 ^ 16)) % 2 ^ 16 - 1 ≡ first_vectors n
  unfolding first_vectors
  some h = one_shl_sub 16 _ (few h) ∙ ap low (vectors h) ∙ cond_true _ (low (2 ^ n)) 255 (lt-ltb n 3 h)

  all : 3 ≤ n → 255 ≡ first_vectors n
  unfolding first_vectors
  all h = cond_false _ (low (2 ^ n)) 255 (le-ltb n 3 h)

pub overflow_shl-result-then-n-lt3 : goal.overflow_shl-result-then-n-lt3
overflow_shl-result-then-n-lt3 c = few c.args.n c.if-n-lt3.true

pub overflow_sub-result : goal.overflow_sub-result
overflow_sub-result c = one_shl_pos 16 _ (few c.args.n c.if-n-lt3.true)

pub returns-then-n-lt3 : goal.returns-then-n-lt3
returns-then-n-lt3 c = some c.args.n c.if-n-lt3.true

pub returns-else-n-lt3 : goal.returns-else-n-lt3
returns-else-n-lt3 c = all c.args.n (omega (arith, c.if-n-lt3.false))
