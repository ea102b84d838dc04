-- `scan::eight::Eight::safe_byte` meets its contract. Assumes nothing.
use mathlib.Core.Path.{◌≡◌, sym, ap, ◌∙◌}
use mathlib.Core.Bool.{true, false}
use mathlib.Core.List.{List}
use Prim.Native.Nat.{ℕ, ◌/◌}
use Rattle.words.specs.Word.{without, meets}
use Rattle.words.proofs.BoolLaws.{cond_true, cond_false}
use Rattle.scan.specs.way.Table.{flips_over}
use Rattle.scan.specs.way.Eight.{safe_byte}
use Rattle.scan.proofs.eight.Eight.safe_byte.Goals as goal

module _ (held f0 f1 : ℕ) (plain named low : List ℕ) (count b : ℕ) where
  -- by the way that the test of the holds went
  kept : (hit r : ℕ) → hit ≡ flips_over plain named low count b → r ≡ without held hit → meets (f1 / 8) (f0 / 8) b ≡ true
      → r ≡ safe_byte held f0 f1 plain named low count b
  unfolding safe_byte
  kept hit r e er h =
      er ∙ ap (without held) e ∙ cond_true (meets (f1 / 8) (f0 / 8) b) (without held (flips_over plain named low count b)) 0 h

  off : meets (f1 / 8) (f0 / 8) b ≡ false → 0 ≡ safe_byte held f0 f1 plain named low count b
  unfolding safe_byte
  off h = cond_false (meets (f1 / 8) (f0 / 8) b) (without held (flips_over plain named low count b)) 0 h

pub returns-then-meets16 : goal.returns-then-meets16
returns-then-meets16 c =
    let f = c in
    let m = f in
    let a = m.args in
    let held : m.meets16.result ≡ meets (a.f1 / 8) (a.f0 / 8) a.b = m.meets16.ensures in
    kept a.held a.f0 a.f1 a.self.now.high.plain a.self.now.high.named a.self.now.low a.self.now.high.count a.b f.flips.result c.without16.result
    f.flips.ensures c.without16.ensures (sym held ∙ f.if-meets16.true)

pub returns-else-meets16 : goal.returns-else-meets16
returns-else-meets16 c =
    let m = c in
    let a = m.args in
    let held : m.meets16.result ≡ meets (a.f1 / 8) (a.f0 / 8) a.b = m.meets16.ensures in
    off a.held a.f0 a.f1 a.self.now.high.plain a.self.now.high.named a.self.now.low a.self.now.high.count a.b (sym held ∙ c.if-meets16.false)
