-- `scan::holds::hold` meets its contract. Assumes nothing.
use mathlib.Core.Path.{◌≡◌, ap, ◌∙◌}
use Prim.Native.Nat.{ℕ}
use lib.Bits.{bit_and}
use Rattle.scan.specs.declared.set.Set.{Set}
use Rattle.scan.specs.declared.columns.Columns.{Columns}
use Rattle.scan.specs.declared.holds.Holds.{Holds}
use Rattle.scan.specs.way.Columns.{columns_of, active_by}
use Rattle.scan.specs.way.Holds.{holds_by, holds_at}
use Rattle.scan.proofs.holds.hold.Goals as goal

-- the active simple constraints hold
held : (s : Set) (w : ℕ) (l : Columns) (active : ℕ) (h : Holds) → l ≡ columns_of s → active ≡ active_by l.read_plain l.read_named l.m w
    → h ≡ holds_by l.out_plain l.out_negated l.m (bit_and active l.simple) → h ≡ holds_at s w
unfolding holds_at columns_of
held s w l active h el ea eh =
    eh
    ∙ ap (λ (a : ℕ). holds_by l.out_plain l.out_negated l.m (bit_and a l.simple)) ea
    ∙ ap (λ (x : Columns). holds_by x.out_plain x.out_negated x.m (bit_and (active_by x.read_plain x.read_named x.m w) x.simple)) el

pub returns : goal.returns
returns c =
    let a = c.args in
    held a.set a.w c.columns_of-by.result c.active_at.result c.hold_by.result c.columns_of-by.ensures c.active_at.ensures c.hold_by.ensures
