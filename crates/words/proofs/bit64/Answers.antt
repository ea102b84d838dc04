-- `words::bit64` meets its contract. Assumes nothing.
use mathlib.Core.Path.{sym}
use Rattle.words.proofs.BitLaws.{bit_shifted, bit_above}
use Rattle.words.proofs.bit64.Goals as goal

pub returns-then-k-lt64 : goal.returns-then-k-lt64
returns-then-k-lt64 c = bit_shifted c.args.k c.args.x

pub returns-else-k-lt64 : goal.returns-else-k-lt64
returns-else-k-lt64 c = sym (bit_above 64 c.args.k c.args.x c.ranges.x.fits c.if-k-lt64.false)
