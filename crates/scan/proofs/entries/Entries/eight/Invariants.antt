-- `scan::entries::Entries::eight` meets its contract. The invariant: each list has the parts of the entries passed, and then zeros. Assumes nothing.
use mathlib.Core.Path.{◌≡◌}
use Rattle.scan.specs.way.Columns.{places_upto}
use Rattle.scan.specs.way.Eight.{high_part, low_part}
use Rattle.scan.proofs.entries.Entries.eight.Given as goal

abbrev pub invariant-loop-i : goal.invariant-loop-i
invariant-loop-i l =
    (l.plain ≡ places_upto (high_part l.self.plain) l.i) × (l.named ≡ places_upto (high_part l.self.named) l.i) × (l.low ≡ places_upto (low_part l.self.plain l.self.named) l.i)
