-- `loader::loader::reads_at` meets its contract. The loop's invariant: the fields from here on, behind the read points so far, give what all of them
-- give; the names and the list of pasts are those of the read points so far. Assumes nothing.
use mathlib.Core.Path.{◌≡◌}
use Prim.Native.Nat.{◌-◌}
use Rattle.scan.specs.Set.{with_reads}
use Rattle.loader.specs.Load.{of_counts, reads_from}
use Rattle.loader.proofs.LoadWayLaws.{ReadsKnown}
use Rattle.loader.proofs.loader.reads_at.Given as goal

abbrev pub invariant-loop-i : goal.invariant-loop-i
invariant-loop-i l =
    ReadsKnown l.names l.pasts l.reads × (reads_from l.s l.counts.r 0 l.at (of_counts l.counts.r l.counts.n) ≡ reads_from l.s (l.counts.r - l.i) l.i l.next (with_reads (of_counts l.counts.r l.counts.n) l.reads))
