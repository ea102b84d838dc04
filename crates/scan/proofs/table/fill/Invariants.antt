-- `scan::table::fill` meets its contract. The invariant: the entries are those of the constraints passed. Assumes nothing.
use mathlib.Core.Path.{◌≡◌}
use mathlib.Core.List.{List}
use Prim.Native.Nat.{ℕ, ◌≤◌}
use Rattle.scan.specs.declared.set.Set.{Set}
use Rattle.scan.specs.declared.holds.Holds.{Holds}
use Rattle.scan.specs.declared.table.Table.{Table}
use Rattle.scan.specs.way.Holds.{limit_by}
use Rattle.scan.specs.way.Table.{unheld_in, table_upto}
use Rattle.scan.proofs.table.fill.Given as goal

-- a table with this pass limit and these entries
abbrev pub table : Holds → ℕ → ℕ → List ℕ → List ℕ → List ℕ → Table
table h limit count plain named flip =
    record { holds = h; limit = limit; entries = record { count = count; plain = plain; named = named }; flip = flip }

-- with the limit that its holds leave
abbrev pub reached : Set → Holds → ℕ → List ℕ → List ℕ → List ℕ → Table
reached s h = table h (limit_by (unheld_in s h))

abbrev pub invariant-loop-i : goal.invariant-loop-i
invariant-loop-i l =
    (l.count ≤ l.i) × (reached l.s l.h l.count l.plain l.named l.flip ≡ table_upto l.s l.h l.entered l.i)
