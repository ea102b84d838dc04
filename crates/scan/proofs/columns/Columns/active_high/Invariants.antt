-- `scan::columns::Columns::active_high` meets its contract. The invariant: `active` has those of the constraints passed whose other read literals are true. Assumes nothing.
use mathlib.Core.Path.{◌≡◌}
use Rattle.words.specs.Loop.{word}
use Rattle.scan.specs.way.Block.{high_asked}
use Rattle.scan.proofs.columns.Columns.active_high.Given as goal

abbrev pub invariant-loop-i : goal.invariant-loop-i
invariant-loop-i l = (l.active ≡ word l.i (high_asked l.self.read_plain l.self.read_named l.w))
