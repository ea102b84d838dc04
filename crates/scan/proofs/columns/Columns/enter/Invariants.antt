-- `scan::columns::Columns::enter` meets its contract. The invariant: the entries are those of the constraints passed. Assumes nothing.
use mathlib.Core.Path.{◌≡◌}
use mathlib.Core.List.{List}
use Prim.Native.Nat.{ℕ, ◌≤◌}
use Rattle.scan.specs.declared.entries.Entries.{Entries}
use Rattle.scan.specs.way.Entries.{entries_upto}
use Rattle.scan.proofs.columns.Columns.enter.Given as goal

-- so many entries, with these outputs
abbrev pub reached : ℕ → List ℕ → List ℕ → Entries
reached count asked named = record { count = count; plain = asked; named = named }

abbrev pub invariant-loop-i : goal.invariant-loop-i
invariant-loop-i l =
    (l.count ≤ l.i) × (reached l.count l.plain l.named ≡ entries_upto l.self.out_plain l.self.out_negated l.entered l.i)
