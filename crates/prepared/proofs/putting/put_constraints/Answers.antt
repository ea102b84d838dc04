-- `prepared::putting::put_constraints` meets its contract. The invariant: the bytes passed are put, whatever the other parts of the set are. Assumes nothing.
use mathlib.Core.Path.{◌≡◌, ap, ◌∙◌}
use native.Mathlib.Omega.{arith}
use Rattle.prepared.specs.Put.{up_to}
use Rattle.prepared.proofs.PutLaws.{put_more, constraint_at}
use Rattle.prepared.proofs.putting.put_constraints.Goals as goal
use Rattle.prepared.proofs.putting.put_constraints.Invariants.{With}

pub loop-i-init : goal.loop-i-init
loop-i-init c = (omega arith, omega arith, λ s p e. e)

pub loop-i-preserved : goal.loop-i-preserved
loop-i-preserved c =
    let l = c.loop-i in
    let a = c in (
      omega arith,
      omega arith,
      put_more (With a.args.constraints) 301 l.i _ a.args.out.now l.out (omega arith) l.invariant.2
          (λ s p. c.constraint_byte.ensures ∙ constraint_at s l.i a.args.constraints p (omega arith)),
    )

pub returns : goal.returns
returns c =
    let l = c.loop-i in
    let e : l.i ≡ 1837 = omega arith in
    λ s p b. l.invariant.2 s p b ∙ ap (up_to s) e
