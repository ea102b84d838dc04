-- `verdict::paths::passes_to_mark` meets its contract. The invariant: the vectors passed are not marked, the last of them are in the trail. Assumes nothing.
use mathlib.Core.Path.{◌≡◌}
use mathlib.Core.Bool.{false}
use Rattle.words.specs.Loop.{some, iterate}
use Rattle.scan.specs.way.Table.{pass_in}
use Rattle.verdict.specs.way.Paths.{Trail}
use Rattle.verdict.proofs.PathsLaws.{marked_after}
use Rattle.verdict.proofs.paths.passes_to_mark.Given as goal

abbrev pub invariant-loop-made : goal.invariant-loop-made
invariant-loop-made l =
    (l.v ≡ iterate (pass_in l.table) l.made l.from) × (some l.made (marked_after (pass_in l.table) l.marks l.from) ≡ false)
    × Trail (pass_in l.table) l.from l.made l.trail
