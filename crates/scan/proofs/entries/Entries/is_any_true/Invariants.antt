-- `scan::entries::Entries::is_any_true` meets its contract. The invariant: `found` tells whether one of the entries passed is true. Assumes nothing.
use mathlib.Core.Path.{◌≡◌}
use Rattle.words.specs.Loop.{some}
use Rattle.scan.specs.way.Columns.{entry_true}
use Rattle.scan.proofs.entries.Entries.is_any_true.Given as goal

abbrev pub invariant-loop-i : goal.invariant-loop-i
invariant-loop-i l = (l.found ≡ some l.i (entry_true l.self.plain l.self.named l.v))
