-- `scan::entries::Entries::is_safe` meets its contract. Assumes nothing.
use mathlib.Core.Path.{◌≡◌, sym, ap, ap₂, ◌∙◌}
use mathlib.Core.Bool.{Bool, true, false, not, ◌&&◌}
use mathlib.Core.List.{List}
use Prim.Native.Nat.{ℕ}
use Rattle.words.specs.Word.{meets}
use Rattle.scan.specs.way.Table.{any_true, safe_over}
use Rattle.scan.proofs.entries.Entries.is_safe.Goals as goal

module _ (f0 f1 : ℕ) (plain named : List ℕ) (count v : ℕ) where
  -- by the way that the test of the holds went
  kept : (b : Bool) → b ≡ any_true plain named count v → meets f1 f0 v ≡ true → not b ≡ safe_over f0 f1 plain named count v
  unfolding safe_over
  kept b e h = ap₂ (λ (x y : Bool). x && not y) (sym h) e

  off : meets f1 f0 v ≡ false → false ≡ safe_over f0 f1 plain named count v
  unfolding safe_over
  off h = ap (λ (x : Bool). x && not (any_true plain named count v)) (sym h)

pub returns-then-meets16 : goal.returns-then-meets16
returns-then-meets16 c =
    let m = c in
    let a = m.args in
    kept a.f0 a.f1 a.self.now.plain a.self.now.named a.self.now.count a.v c.is_any_true.result c.is_any_true.ensures
    (sym m.meets16.ensures ∙ c.if-meets16.true)

pub returns-else-meets16 : goal.returns-else-meets16
returns-else-meets16 c =
    let a = c.args in
    off a.f0 a.f1 a.self.now.plain a.self.now.named a.self.now.count a.v (sym c.meets16.ensures ∙ c.if-meets16.false)
