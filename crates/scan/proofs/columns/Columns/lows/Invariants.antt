-- `scan::columns::Columns::lows` meets its contract. The invariant: the masks of the values passed are made. Assumes nothing.
use mathlib.Core.Path.{◌≡◌}
use mathlib.Core.List.{◌++◌}
use lib.ListN.{drop, replicate}
use Rattle.words.specs.Loop.{listed}
use Rattle.scan.specs.way.Block.{active_low}
use Rattle.scan.proofs.columns.Columns.lows.Given as goal

abbrev pub invariant-loop-w : goal.invariant-loop-w
invariant-loop-w l = (l.of ≡ listed l.w (active_low l.self.read_plain l.self.read_named l.self.m) ++ drop l.w (replicate 8 0))
