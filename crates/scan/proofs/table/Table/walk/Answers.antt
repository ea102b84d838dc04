-- `scan::table::Table::walk` meets its contract. The invariant: what is left of the walk gives what the whole walk gives. Assumes nothing.
use mathlib.Core.Path.{◌≡◌, sym, ap, ◌∙◌}
use mathlib.Core.Bool.{Bool, true, false}
use Prim.Native.Nat.{ℕ, ◌+◌, ◌-◌, ◌≤◌, ◌<◌}
use native.Mathlib.Omega.{arith}
use native.Mathlib.Nat.{sub-zero}
use Rattle.scan.specs.declared.walk.Walk.{Walk}
use Rattle.scan.specs.declared.walk.Walk.TheVariants.{Safe, Never}
use Rattle.scan.specs.Walk.{walk_by}
use Rattle.scan.proofs.WalkLaws.{by_stop, by_on, by_never}
use Rattle.scan.proofs.table.Table.walk.Goals as goal
use Rattle.scan.proofs.table.Table.walk.Invariants.{walk}

-- the ways on from the vector v after `made` passes, where b tells whether it is safe
module _ (ok : ℕ → Bool) (next : ℕ → ℕ) (limit v made : ℕ) (all : Walk)
    (inv : walk_by ok next (limit - made) v made ≡ all) (b : Bool) (eb : b ≡ ok v) where
  stop : b ≡ true → Safe v made ≡ all
  stop e = by_stop ok next (limit - made) v made (sym eb ∙ e) ∙ inv

  on : b ≡ false → made < limit → (x : ℕ) → x ≡ next v → walk_by ok next (limit - (made + 1)) x (made + 1) ≡ all
  on e l x ex =
      ap (λ (y : ℕ). walk_by ok next (limit - (made + 1)) y (made + 1)) ex ∙ sym (by_on ok next limit v made l (sym eb ∙ e)) ∙ inv

  never : b ≡ false → limit ≤ made → Never ≡ all
  never e l = by_never ok next (limit - made) v made (omega arith) (sym eb ∙ e) ∙ inv

pub loop-made-init : goal.loop-made-init
loop-made-init c =
    let a = c.args in
    ap (λ (k : ℕ). walk a.f0 a.f1 a.self.now k a.from 0) (sub-zero a.self.now.limit)

pub returns-then-is_safe : goal.returns-then-is_safe
returns-then-is_safe c =
    let s = c in
    let h = s in
    let l = h.loop-made in
    stop _ _ h.args.self.now.limit l.v l.made _ l.invariant s.is_safe.result s.is_safe.ensures c.if-is_safe.true

pub loop-made-preserved : goal.loop-made-preserved
loop-made-preserved c =
    let e = c in
    let s = e in
    let h = c in
    let l = h.loop-made in
    on _ _ h.before.args.self.now.limit l.v l.made _ l.invariant s.is_safe.result s.is_safe.ensures e.if-is_safe.false (omega arith)
    c.pass-v.result c.pass-v.ensures

pub returns-then-is_safe-2 : goal.returns-then-is_safe-2
returns-then-is_safe-2 c =
    let l = c.loop-made in
    ap (Safe l.v) (omega arith) ∙ stop _ _ c.args.self.now.limit l.v l.made _ l.invariant c.is_safe-2.result c.is_safe-2.ensures c.if-is_safe-2.true

pub returns : goal.returns
returns c =
    let s = c in
    let h = s in
    let l = h.loop-made in
    never _ _ h.args.self.now.limit l.v l.made _ l.invariant s.is_safe-2.result s.is_safe-2.ensures c.if-is_safe-2.false (omega arith)
