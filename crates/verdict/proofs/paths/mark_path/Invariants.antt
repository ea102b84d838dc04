-- `verdict::paths::mark_path` meets its contract. The invariant: the vectors passed are marked. Assumes nothing.
use mathlib.Core.Path.{◌≡◌}
use Rattle.words.specs.Loop.{iterate}
use Rattle.scan.specs.way.Table.{pass_in}
use Rattle.verdict.specs.way.Paths.{path_marked}
use Rattle.verdict.proofs.paths.mark_path.Given as goal

abbrev pub invariant-loop : goal.invariant-loop
invariant-loop l =
    (l.v ≡ iterate (pass_in l.table) l.counter l.from) × (l.marks ≡ path_marked (pass_in l.table) l.counter l.from l.initial.marks)
