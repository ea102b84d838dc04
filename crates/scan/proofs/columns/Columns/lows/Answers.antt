-- `scan::columns::Columns::lows` meets its contract. The invariant: the masks of the values passed are made. Assumes nothing.
use mathlib.Core.Path.{◌≡◌, sym, ap, subst, ◌∙◌}
use mathlib.Core.List.{List, ◌++◌, append-nil}
use Prim.Native.Nat.{ℕ, ◌<◌}
use native.Mathlib.Omega.{arith}
use lib.ListN.{set, drop, replicate, length-replicate}
use Rattle.words.specs.Loop.{listed}
use Rattle.words.proofs.LoopLaws.{listed_none, listed_store}
use Rattle.scan.specs.way.Block.{active_low, lows_of}
use Rattle.scan.proofs.columns.Columns.lows.Goals as goal

pub loop-w-init : goal.loop-w-init
loop-w-init c = ap (λ (l : List ℕ). l ++ replicate 8 0) (listed_none _)

pub loop-w-preserved : goal.loop-w-preserved
loop-w-preserved c =
    let l = c.loop-w in
    let a = c.args in
    let low : c.active_low.result ≡ active_low a.self.now.read_plain a.self.now.read_named a.self.now.m l.w = c.active_low.ensures in
    ap (λ (k : List ℕ). set k l.w c.active_low.result) l.invariant
    ∙ listed_store (active_low a.self.now.read_plain a.self.now.read_named a.self.now.m) 0 l.w c.active_low.result (replicate 8 0)
    (subst (λ (n : ℕ). l.w < n) (sym (length-replicate {A = ℕ} 8 0)) (omega arith)) low

pub returns : goal.returns
unfolding lows_of
returns c =
    let l = c.loop-w in
    let a = c.args in
    let e : l.w ≡ 8 = omega arith in
    l.invariant ∙ ap (λ (n : ℕ). listed n (active_low a.self.now.read_plain a.self.now.read_named a.self.now.m) ++ drop n (replicate 8 0)) e ∙ append-nil _
