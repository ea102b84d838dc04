-- `scan::table::Table::walk` meets its contract. The invariant: what is left of the walk gives what the whole walk gives. Assumes nothing.
use mathlib.Core.Path.{◌≡◌}
use Prim.Native.Nat.{ℕ, ◌-◌}
use Rattle.scan.specs.declared.table.Table.{Table}
use Rattle.scan.specs.declared.walk.Walk.{Walk}
use Rattle.scan.specs.way.Table.{safe_over, pass_over}
use Rattle.scan.specs.Walk.{walk_by}
use Rattle.scan.proofs.table.Table.walk.Given as goal

-- the walk over the table's entries, with these holds
abbrev pub walk : ℕ → ℕ → Table → ℕ → ℕ → ℕ → Walk
walk f0 f1 t = walk_by (safe_over f0 f1 t.entries.plain t.entries.named t.entries.count) (pass_over t.entries.plain t.entries.named t.flip t.entries.count)

abbrev pub invariant-loop-made : goal.invariant-loop-made
invariant-loop-made l = (walk l.f0 l.f1 l.self (l.self.limit - l.made) l.v l.made ≡ walk l.f0 l.f1 l.self l.self.limit l.from 0)
