-- `prepared::putting::put_outputs` meets its contract. The invariant: the bytes passed are put, whatever the other parts of the set are. Assumes nothing.
use mathlib.Core.Path.{◌≡◌, ap, ◌∙◌}
use native.Mathlib.Omega.{arith}
use Rattle.prepared.specs.Put.{up_to}
use Rattle.prepared.proofs.PutLaws.{put_more, output_at_law}
use Rattle.prepared.proofs.putting.put_outputs.Goals as goal
use Rattle.prepared.proofs.putting.put_outputs.Invariants.{With}

pub loop-i-init : goal.loop-i-init
loop-i-init c = (omega arith, omega arith, λ s p e. e)

pub loop-i-preserved : goal.loop-i-preserved
loop-i-preserved c =
    let l = c.loop-i in
    let a = c in (
      omega arith,
      omega arith,
      put_more (With a.args.outputs) 205 l.i _ a.args.out.now l.out (omega arith) l.invariant.2
          (λ s p. output_at_law s l.i a.args.outputs p (omega arith) (omega arith)),
    )

pub returns : goal.returns
returns c =
    let l = c.loop-i in
    let e : l.i ≡ 301 = omega arith in
    λ s p b. l.invariant.2 s p b ∙ ap (up_to s) e
