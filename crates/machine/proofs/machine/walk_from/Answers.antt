-- `machine::machine::walk_from` meets its contract: the walk over the table of the active constraints is the set's walk. Assumes nothing.
use mathlib.Core.Path.{◌≡◌, sym, ap, ◌∙◌}
use Prim.Native.Nat.{ℕ}
use Rattle.scan.specs.declared.holds.Holds.{Holds}
use Rattle.scan.specs.declared.holds.Holds.TheVariants.{Forced, Clash}
use Rattle.scan.specs.declared.columns.Columns.{Columns}
use Rattle.scan.specs.declared.set.Set.{Set}
use Rattle.scan.specs.declared.table.Table.{Table}
use Rattle.scan.specs.Shape.{well_formed}
use Rattle.words.specs.Word.{without}
use lib.Bits.{bit_and}
use mathlib.Core.Bool.{true}
use Rattle.scan.specs.way.Columns.{columns_of, active_by}
use Rattle.scan.specs.way.Holds.{holds_by}
use Rattle.scan.specs.declared.walk.Walk.{Walk}
use Rattle.scan.specs.declared.walk.Walk.TheVariants.{Never}
use Rattle.scan.specs.Holds.{start_from}
use Rattle.scan.specs.Walk.{walk_by, walk_held, walk}
use Rattle.scan.specs.way.Table.{table_by, table_of, safe_over, safe_held, pass_in, walk_in}
use Rattle.scan.proofs.ActiveLaws.{made_active}
use Rattle.scan.proofs.TableLaws.{made_table, table_walk}
use Rattle.machine.proofs.machine.walk_from.Goals as goal

-- the walk over a table, by what its holds are
module _ (t : Table) (request : ℕ) where
  by_holds : (h : Holds) → t.holds ≡ h → walk_held (safe_held h t.entries.plain t.entries.named t.entries.count) (pass_in t) t.limit request h ≡ walk_in t request
  by_holds h e = sym (ap (λ (x : Holds). walk_held (safe_held x t.entries.plain t.entries.named t.entries.count) (pass_in t) t.limit request x) e)

  by_forced : (f0 f1 from : ℕ) (r : Walk) → t.holds ≡ Forced f0 f1 → from ≡ start_from f0 f1 request
      → r ≡ walk_by (safe_over f0 f1 t.entries.plain t.entries.named t.entries.count) (pass_in t) t.limit from 0 → r ≡ walk_in t request
  by_forced f0 f1 from r eh ef er =
      er ∙ ap (λ (v : ℕ). walk_by (safe_over f0 f1 t.entries.plain t.entries.named t.entries.count) (pass_in t) t.limit v 0) ef ∙ by_holds (Forced f0 f1) eh

-- what was built is the word's table, and the walk over it is the set's
module _ (s : Set) (ok : well_formed s ≡ true) (w request : ℕ) (l : Columns) (el : l ≡ columns_of s) (active : ℕ) (ea : active ≡ active_by l.read_plain l.read_named l.m w)
    (t : Table) (et : t ≡ table_by s (holds_by l.out_plain l.out_negated l.m (bit_and active l.simple)) (without active l.simple)) where
  walk_told : (r : Walk) → r ≡ walk_in t request → r ≡ walk s w request
  walk_told r e =
      e
      ∙ ap (λ (x : Table). walk_in x request) (made_table s l el active t et ∙ ap (table_of s) (made_active s ok w l el active ea))
      ∙ table_walk s w ok request

pub returns-in-Forced : goal.returns-in-Forced
returns-in-Forced c =
    let a = c.args in
    let l = c.columns_of-by in
    walk_told a.s.now c.requires a.w a.request l.result l.ensures c.active_at.result c.active_at.ensures c.table-t.result c.table-t.ensures c.walk.result
    (by_forced c.table-t.result a.request c.in-Forced.f0 c.in-Forced.f1 c.start_vector.result c.walk.result c.in-Forced.is c.start_vector.ensures c.walk.ensures)

pub returns-in-Clash : goal.returns-in-Clash
returns-in-Clash c =
    let a = c.args in
    let l = c.columns_of-by in
    walk_told a.s.now c.requires a.w a.request l.result l.ensures c.active_at.result c.active_at.ensures c.table-t.result c.table-t.ensures Never
    (by_holds c.table-t.result a.request (Clash c.in-Clash.output) c.in-Clash.is)
