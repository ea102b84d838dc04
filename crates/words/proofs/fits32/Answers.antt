-- `words::fits32` meets its contract. Assumes nothing.
use mathlib.Core.Path.{sym, ap}
use Prim.Native.Nat.{◌^◌}
use native.Mathlib.Omega.{arith}
use lib.Dec.{ltb}
use lib.Pow.{pow_mono}
use borrow.Author.Tests.{lt-ltb}
use Rattle.words.proofs.ShiftLaws.{one_shl}
use Rattle.words.proofs.fits32.Goals as goal

pub returns-then-n-lt32 : goal.returns-then-n-lt32
returns-then-n-lt32 c = ap (ltb c.args.x) (one_shl 32 c.args.n c.if-n-lt32.true)

pub returns-else-n-lt32 : goal.returns-else-n-lt32
returns-else-n-lt32 c =
    let a = c.args in
    sym (lt-ltb a.x (2 ^ a.n) (omega (arith, pow_mono {i = 32} {j = a.n} c.if-n-lt32.false, c.ranges.x.fits)))
