-- `scan::columns::Columns::active_at` meets its contract. The invariant: `active` has the active ones of the constraints passed. Assumes nothing.
use mathlib.Core.Path.{◌≡◌}
use Rattle.words.specs.Loop.{word}
use Rattle.scan.specs.way.Columns.{entry_true}
use Rattle.scan.proofs.columns.Columns.active_at.Given as goal

abbrev pub invariant-loop-i : goal.invariant-loop-i
invariant-loop-i l = (l.active ≡ word l.i (entry_true l.self.read_plain l.self.read_named l.w))
