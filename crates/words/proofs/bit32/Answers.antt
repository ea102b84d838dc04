-- `words::bit32` meets its contract. Assumes nothing.
use mathlib.Core.Path.{sym}
use Rattle.words.proofs.BitLaws.{bit_shifted, bit_above}
use Rattle.words.proofs.bit32.Goals as goal

pub returns-then-k-lt32 : goal.returns-then-k-lt32
returns-then-k-lt32 c = bit_shifted c.args.k c.args.x

pub returns-else-k-lt32 : goal.returns-else-k-lt32
returns-else-k-lt32 c = sym (bit_above 32 c.args.k c.args.x c.ranges.x.fits c.if-k-lt32.false)
