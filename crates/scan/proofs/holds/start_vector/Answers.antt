-- `scan::holds::start_vector` meets its contract. Assumes nothing.
use mathlib.Core.Path.{ap}
use Prim.Native.Nat.{ℕ}
use lib.Bits.{bit_or}
use Rattle.scan.specs.Holds.{start_from}
use Rattle.scan.proofs.holds.start_vector.Goals as goal

pub returns : goal.returns
unfolding start_from
returns c = ap (λ (x : ℕ). bit_or x c.args.f1) c.without16.ensures
