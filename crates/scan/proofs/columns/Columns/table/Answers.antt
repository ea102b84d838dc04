-- `scan::columns::Columns::table` meets its contract. Assumes nothing.
use mathlib.Core.Path.{◌≡◌, refl, ap, ◌∙◌}
use mathlib.Core.List.{List}
use Prim.Native.Nat.{ℕ}
use lib.Bits.{bit_and, bit_xor}
use Rattle.words.specs.Word.{without}
use Rattle.scan.specs.declared.set.Set.{Set}
use Rattle.scan.specs.declared.holds.Holds.{Holds}
use Rattle.scan.specs.declared.table.Table.{Table}
use Rattle.scan.specs.way.Holds.{holds_by}
use Rattle.scan.specs.way.Table.{table_by}
use Rattle.scan.proofs.columns.Columns.table.Goals as goal

-- the active simple constraints hold, and the other active ones are entered
built : (s : Set) (plain negated : List ℕ) (m simple active holding entered : ℕ) (h : Holds) (t : Table)
    → holding ≡ bit_and active simple → entered ≡ bit_xor active holding
    → h ≡ holds_by plain negated m holding → t ≡ table_by s h entered
    → t ≡ table_by s (holds_by plain negated m (bit_and active simple)) (without active simple)
unfolding without
built s plain negated m simple active holding entered h t em ee eh et =
    et
    ∙ (λ i. table_by s ((eh ∙ ap (holds_by plain negated m) em) i) ((ee ∙ ap (bit_xor active) em) i))

pub returns : goal.returns
returns c =
    let a = c.args in
    let holding : ℕ = bit_and a.active a.self.now.simple in
    built a.set.now a.self.now.out_plain a.self.now.out_negated a.self.now.m a.self.now.simple a.active holding (bit_xor a.active holding) c.hold_by.result c.fill.result
    refl refl c.hold_by.ensures c.fill.ensures
