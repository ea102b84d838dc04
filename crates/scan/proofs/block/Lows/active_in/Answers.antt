-- `scan::block::Lows::active_in` meets its contract. Assumes nothing.
use mathlib.Core.Path.{refl}
use Rattle.scan.specs.way.Block.{active_in}
use Rattle.scan.proofs.block.Lows.active_in.Goals as goal

pub returns : goal.returns
unfolding active_in
returns c = refl
