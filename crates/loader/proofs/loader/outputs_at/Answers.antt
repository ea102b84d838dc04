-- `loader::loader::outputs_at` meets its contract. The loop's invariant: the fields from here on, behind the outputs so far, give what all of them give,
-- whichever read points have the names; the list of names is that of the outputs so far. Assumes nothing.
use mathlib.Core.Path.{◌≡◌, ◌∙◌, ap}
use mathlib.Core.List.{List}
use Prim.Native.Nat.{◌<◌}
use native.Mathlib.Nat.{sub-zero}
use native.Mathlib.Omega.{arith}
use Rattle.std.specs.Prelude.{Err}
use Rattle.scan.specs.declared.set.ReadPoint.{ReadPoint}
use Rattle.scan.specs.Set.{most_outputs, zero_set, with_reads, with_outputs}
use Rattle.shape.specs.way.Names.{ReadNames}
use Rattle.loader.specs.Load.{of_counts, with_output, output_at, outputs_from}
use Rattle.loader.specs.way.Load.{points_set, reached_by}
use Rattle.loader.proofs.LoadTurns.{output_row, row_end, row_stays, row_goes}
use Rattle.loader.proofs.LoadWayLaws.{outputs_none, outputs_more, output_stepped}
use Rattle.loader.proofs.loader.outputs_at.Goals as goal
use Rattle.loader.proofs.loader.outputs_at.Goals.{After-output_at}

-- where the step stands in the loop, and what it brings the load to
module _ (c : After-output_at) where
  below : c.loop-j.j < most_outputs
  below = omega (arith, c.loop-j-test.true, c.args.counts.in_range.1)

  stepped : (reads : List ReadPoint) → let l = c.loop-j in
      let so_far = points_set c.args.counts.r c.args.counts.n reads l.outputs in
      ReadNames c.args.names.now reads → output_at c.args.s.now l.next so_far l.j ≡ reached_by c.output_at.result (with_output so_far l.j)
  stepped reads named =
      let l = c.loop-j in
      let a = c.args in
      output_stepped a.s.now l.next (points_set a.counts.r a.counts.n reads l.outputs) a.names.now l.own l.j c.output_at.result
      named l.invariant.0.named c.args.counts.in_range.0 (omega (arith, below)) c.output_at.ensures

pub loop-j-init : goal.loop-j-init
unfolding zero_set
loop-j-init c = (outputs_none, λ reads named. rw sub-zero)

pub returns-in_err-name : goal.returns-in_err-name
returns-in_err-name c reads named =
    let l = c.loop-j in
    let s = c.args.s.now in
    let r = c.in_err-name.field-0.0 in
    let refused : c.from_residual.result ≡ Err r = grind arith in
    ap (λ x. reached_by x (with_outputs (with_reads (of_counts c.args.counts.r c.args.counts.n) reads))) refused
    ∙ row_stays (output_at s) (outputs_from s) (output_row s) _ _ l.j l.next _ (l.invariant.1 reads named) c.loop-j-test.true _ c.output_at.result (stepped (goal.at.returns-in_err-name c).After-output_at reads named) r c.in_err-name.was

pub loop-j-preserved : goal.loop-j-preserved
loop-j-preserved c =
    let l = c.loop-j in
    let s = c.args.s.now in
    let p = (goal.at.loop-j-preserved c).After-output_at in (
      outputs_more l.own l.outputs l.j (record { name = c.in_ok-name.name }) (below p) l.invariant.0,
      λ reads named. row_goes (output_at s) (outputs_from s) (output_row s) _ _ l.j l.next _ (l.invariant.1 reads named) c.loop-j-test.true _ c.output_at.result (stepped p reads named) _ c.in_ok-name.was,
    )

pub returns : goal.returns
returns c reads named =
    let l = c.loop-j in
    let s = c.args.s.now in
    row_end (output_at s) (outputs_from s) (output_row s) _ _ l.j l.next _ (l.invariant.1 reads named) c.loop-j-test.false
