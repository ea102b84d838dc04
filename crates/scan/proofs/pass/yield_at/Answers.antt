-- `scan::pass::yield_at` meets its contract. Assumes nothing.
use mathlib.Core.Path.{ap, ◌∙◌}
use mathlib.Core.Bool.{Bool, cond, ◌&&◌}
use native.Mathlib.Omega.{arith}
use lib.Dec.{eqb}
use Rattle.words.proofs.ShiftLaws.{one_shl}
use Rattle.scan.specs.Set.{rank}
use Rattle.scan.specs.Pass.{has_rank}
use Rattle.scan.proofs.pass.yield_at.Goals as goal

pub returns : goal.returns
unfolding has_rank
returns c =
    let d = c in
    let e = d in
    let a = e.args in
    c.pick.ensures
    ∙ (λ i. cond ((d.both.ensures ∙ ap (λ (x : Bool). x && eqb (rank a.c a.k) a.low) e.bit16.ensures) i) (one_shl 16 a.k (omega arith) i) 0)
