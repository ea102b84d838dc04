-- `text::page::Page::put_reads` meets its contract. The loop's invariant: the lines of the first k read points are put. Assumes nothing.
use borrow.Author.Rules.{rules}
use mathlib.Core.Path.{◌≡◌}
use mathlib.Core.List.{map}
use Prim.Native.Nat.{◌≤◌}
use native.Mathlib.Omega.{arith}
use lib.ListN.{length, get_or, take}
use Rattle.words.proofs.ListLaws.{mapped_long}
use Rattle.words.proofs.LoopTurns.{Grows}
use Rattle.scan.specs.Set.{most_reads, no_read}
use Rattle.text.specs.Text.{lines_text}
use Rattle.text.specs.way.Place.{line_bytes, read_line_by}
use Rattle.text.proofs.PlaceLaws.{lines_grow}
use Rattle.text.proofs.PageLaws.{put_first, put_more, put_all}
use Rattle.text.proofs.page.Page.put_reads.Goals as goal
use Rattle.text.proofs.page.Page.put_reads.Goals.{Start}

few : (s : Start) → s.args.r ≤ most_reads
few s = s.requires

grows : (s : Start) → let a = s.args in
    Grows (λ j. lines_text (map (read_line_by a.reads.now a.outputs.now) (take j a.points))) (λ j. line_bytes ((read_line_by a.reads.now a.outputs.now) (get_or a.points j no_read))) a.r
grows s =
    let a = s.args in
    let long : length a.points ≡ most_reads = search (rules, mapped_long) in
    lines_grow (read_line_by a.reads.now a.outputs.now) a.points a.r no_read (omega (arith, long, s.requires))

pub loop-k-init : goal.loop-k-init
loop-k-init c = put_first (grows (goal.at.loop-k-init c).Start) _

pub offset_bounds-points-k : goal.offset_bounds-points-k
offset_bounds-points-k c = omega (arith, few (goal.at.offset_bounds-points-k c).Start)

pub bounds-points-k : goal.bounds-points-k
bounds-points-k c = omega (arith, few (goal.at.bounds-points-k c).Start)

pub loop-k-preserved : goal.loop-k-preserved
loop-k-preserved c = put_more (grows (goal.at.loop-k-preserved c).Start) _ _ _ c.loop-k.k c.loop-k-test.true c.loop-k.invariant c.put_read.ensures

pub returns : goal.returns
returns c = put_all (grows (goal.at.returns c).Start) _ c.loop-k.self c.loop-k.k (omega (arith, c.loop-k-test.false)) c.loop-k.invariant
