-- `loader::loader::outputs_at` meets its contract. The loop's invariant: the fields from here on, behind the outputs so far, give what all of them give,
-- whichever read points have the names; the list of names is that of the outputs so far. Assumes nothing.
use mathlib.Core.Path.{◌≡◌}
use mathlib.Core.List.{List}
use Prim.Native.Nat.{◌-◌}
use Rattle.scan.specs.declared.set.ReadPoint.{ReadPoint}
use Rattle.scan.specs.Set.{with_reads}
use Rattle.shape.specs.way.Names.{ReadNames}
use Rattle.loader.specs.Load.{of_counts, outputs_from}
use Rattle.loader.specs.way.Load.{points_set}
use Rattle.loader.proofs.LoadWayLaws.{OutputsKnown}
use Rattle.loader.proofs.loader.outputs_at.Given as goal

abbrev pub invariant-loop-j : goal.invariant-loop-j
invariant-loop-j l =
    OutputsKnown l.own l.outputs
    × ((reads : List ReadPoint) → ReadNames l.names reads → outputs_from l.s l.counts.n 0 l.at (with_reads (of_counts l.counts.r l.counts.n) reads) ≡ outputs_from l.s (l.counts.n - l.j) l.j l.next (points_set l.counts.r l.counts.n reads l.outputs))
