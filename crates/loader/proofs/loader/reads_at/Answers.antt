-- `loader::loader::reads_at` meets its contract. The loop's invariant: the fields from here on, behind the read points so far, give what all of them
-- give; the names and the list of pasts are those of the read points so far. Assumes nothing.
use mathlib.Core.Path.{◌≡◌, refl, sym, ◌∙◌, ap, subst}
use Prim.Native.Nat.{◌<◌}
use native.Mathlib.Nat.{sub-zero}
use native.Mathlib.Omega.{arith}
use lib.ListN.{replicate}
use Rattle.std.specs.Prelude.{Err, IfOk}
use Rattle.scan.specs.Set.{most_reads, most_outputs, zero_name, zero_set, with_reads}
use Rattle.shape.specs.way.Names.{ReadNames}
use Rattle.loader.specs.Load.{of_counts, read_at, reads_from, with_read}
use Rattle.loader.specs.way.Load.{reached_by}
use Rattle.loader.proofs.LoadTurns.{read_row, row_end, row_stays, row_goes}
use Rattle.loader.proofs.LoadWayLaws.{ReadsKnown, reads_none, reads_more, read_stepped}
use Rattle.loader.proofs.loader.reads_at.Goals as goal
use Rattle.loader.proofs.loader.reads_at.Goals.{After-read_at}

-- where the step stands in the loop, and what it brings the load to
module _ (c : After-read_at) where
  below : c.loop-i.i < most_reads
  below = omega (arith, c.loop-i-test.true, c.args.counts.in_range.0)

  stepped : let l = c.loop-i in
      let so_far = with_reads (of_counts c.args.counts.r c.args.counts.n) l.reads in
      read_at c.args.s.now l.next so_far l.i ≡ reached_by c.read_at.result (with_read so_far l.i)
  stepped =
      let l = c.loop-i in
      let a = c.args in
      let k = l.invariant.0 in
      read_stepped a.s.now l.next (with_reads (of_counts a.counts.r a.counts.n) l.reads) l.names (replicate most_outputs zero_name) l.pasts l.i c.read_at.result
      k.named k.past refl (omega (arith, below)) c.read_at.ensures

pub loop-i-init : goal.loop-i-init
unfolding zero_set
loop-i-init c = let n = c.requires in (subst (λ names. ReadsKnown names _ _) (sym n) reads_none, rw sub-zero)

pub returns-in_err-read : goal.returns-in_err-read
returns-in_err-read c =
    let l = c.loop-i in
    let s = c.args.s.now in
    let r = c.in_err-read.field-0.0 in
    let refused : c.from_residual.result ≡ Err r = grind arith in (
      ap (λ x. reached_by x (with_reads (of_counts c.args.counts.r c.args.counts.n))) refused
          ∙ row_stays (read_at s) (reads_from s) (read_row s) _ _ l.i l.next _ l.invariant.1 c.loop-i-test.true _ c.read_at.result (stepped (goal.at.returns-in_err-read c).After-read_at) r c.in_err-read.was,
      subst (λ x. IfOk x (λ y. ReadNames l.names y.0)) (sym refused) tt,
    )

pub loop-i-preserved : goal.loop-i-preserved
loop-i-preserved c =
    let l = c.loop-i in
    let s = c.args.s.now in
    let p = (goal.at.loop-i-preserved c).After-read_at in (
      reads_more l.names l.pasts l.reads l.i c.in_ok-read.read c.is_sensor.result (below p) c.is_sensor.ensures l.invariant.0,
      row_goes (read_at s) (reads_from s) (read_row s) _ _ l.i l.next _ l.invariant.1 c.loop-i-test.true _ c.read_at.result (stepped p) _ c.in_ok-read.was,
    )

pub returns : goal.returns
returns c =
    let l = c.loop-i in
    let s = c.args.s.now in
    (row_end (read_at s) (reads_from s) (read_row s) _ _ l.i l.next _ l.invariant.1 c.loop-i-test.false, l.invariant.0.named)
