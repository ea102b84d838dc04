-- `prepared::said::reads_in` meets its contract. The invariant: the read points passed are made, with zeros behind them. Assumes nothing.
use mathlib.Core.Path.{◌≡◌}
use Prim.Native.Nat.{◌≤◌}
use Rattle.scan.specs.Set.{most_reads, zero_read}
use Rattle.prepared.specs.Filled.{filled}
use Rattle.prepared.specs.Said.{read_in}
use Rattle.prepared.proofs.said.reads_in.Given as goal

abbrev pub invariant-loop-k : goal.invariant-loop-k
invariant-loop-k l = (l.k ≤ l.end) × (l.end ≤ most_reads) × (l.reads ≡ filled most_reads zero_read (read_in l.b) l.k)
