-- `scan::columns::Columns::active_low` meets its contract. The invariant: `active` has those of the constraints passed whose literals of read points 0 to 2 are true. Assumes nothing.
use mathlib.Core.Path.{◌≡◌}
use Rattle.words.specs.Loop.{word}
use Rattle.scan.specs.way.Block.{low_asked}
use Rattle.scan.proofs.columns.Columns.active_low.Given as goal

abbrev pub invariant-loop-i : goal.invariant-loop-i
invariant-loop-i l = (l.active ≡ word l.i (low_asked l.self.read_plain l.self.read_named l.w))
