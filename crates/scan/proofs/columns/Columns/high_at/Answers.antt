-- `scan::columns::Columns::high_at` meets its contract. Assumes nothing.
use mathlib.Core.Path.{◌≡◌, ◌∙◌}
use mathlib.Core.List.{List}
use Prim.Native.Nat.{ℕ, ◌%◌}
use borrow.Author.Tests.{eq-eqb, ne_eqb}
use Rattle.words.proofs.BoolLaws.{cond_true, cond_false}
use Rattle.scan.specs.way.Block.{active_high, high_at}
use Rattle.scan.proofs.columns.Columns.high_at.Goals as goal

module _ (plain named : List ℕ) (m w kept : ℕ) where
  -- by the way that the test of the word went
  anew : (x : ℕ) → x ≡ active_high plain named m w → w % 8 ≡ 0 → x ≡ high_at plain named m w kept
  unfolding high_at
  anew x e h = e ∙ cond_true _ (active_high plain named m w) kept (eq-eqb (w % 8) 0 h)

  as_kept : (w % 8 ≡ 0 → ⊥) → kept ≡ high_at plain named m w kept
  unfolding high_at
  as_kept h = cond_false _ (active_high plain named m w) kept (ne_eqb (w % 8) 0 h)

pub returns-then-w-eq0 : goal.returns-then-w-eq0
returns-then-w-eq0 c =
    let i = c in
    let a = i.args in
    let made : c.active_high.result ≡ active_high a.self.now.read_plain a.self.now.read_named a.self.now.m a.w = c.active_high.ensures in
    anew a.self.now.read_plain a.self.now.read_named a.self.now.m a.w a.kept c.active_high.result made i.if-w-eq0.true

pub returns-else-w-eq0 : goal.returns-else-w-eq0
returns-else-w-eq0 c =
    let a = c.args in
    as_kept a.self.now.read_plain a.self.now.read_named a.self.now.m a.w a.kept c.if-w-eq0.false
