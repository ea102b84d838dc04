-- `scan::columns::Columns::hold_by` meets its contract. The invariant: the two masks are those of the constraints passed. Assumes nothing.
use mathlib.Core.Path.{◌≡◌}
use Rattle.words.specs.Loop.{gather}
use Rattle.scan.specs.way.Holds.{kept_at}
use Rattle.scan.proofs.columns.Columns.hold_by.Given as goal

abbrev pub invariant-loop-i : goal.invariant-loop-i
invariant-loop-i l = (l.f0 ≡ gather l.i (kept_at l.self.out_plain l.holding)) × (l.f1 ≡ gather l.i (kept_at l.self.out_negated l.holding))
