-- `scan::entries::Entries::flips` meets its contract. The invariant: `flips` has what the entries passed flip. Assumes nothing.
use mathlib.Core.Path.{◌≡◌}
use Rattle.words.specs.Loop.{gather}
use Rattle.scan.specs.way.Table.{entry_flips}
use Rattle.scan.proofs.entries.Entries.flips.Given as goal

abbrev pub invariant-loop-i : goal.invariant-loop-i
invariant-loop-i l = (l.flips ≡ gather l.i (entry_flips l.self.plain l.self.named l.flip l.v))
