-- `text::page::Page::put_rests` meets its contract. The loop's invariant: the lines of those of the first k outputs that are on at rest are put. Assumes nothing.
use Prim.Native.Nat.{◌<◌}
use native.Mathlib.Omega.{arith}
use Rattle.words.specs.Loop.{joined}
use Rattle.words.proofs.LoopTurns.{Grows}
use Rattle.scan.specs.Set.{most_outputs}
use Rattle.text.specs.Text.{lines_text}
use Rattle.text.specs.way.Place.{rest_line_by}
use Rattle.text.proofs.PlaceLaws.{joined_lines_grow}
use Rattle.text.proofs.PageLaws.{put_same, put_first, put_more, put_all}
use Rattle.text.proofs.LinesLaws.{rest_turn}
use Rattle.text.proofs.page.Page.put_rests.Goals as goal
use Rattle.text.proofs.page.Page.put_rests.Goals.{Start}

grows : (s : Start) → let a = s.args in
    Grows (λ j. lines_text (joined j (rest_line_by a.outputs.now a.rest))) (λ j. lines_text (rest_line_by a.outputs.now a.rest j)) most_outputs
grows s = let a = s.args in joined_lines_grow (rest_line_by a.outputs.now a.rest) most_outputs

pub loop-k-init : goal.loop-k-init
loop-k-init c = put_first (grows (goal.at.loop-k-init c).Start) _

pub loop-k-preserved : goal.loop-k-preserved
loop-k-preserved c =
    let l = c.loop-k in
    let a = c.args in
    let below : l.k < most_outputs = omega (arith, c.loop-k-test.true) in
    put_more (grows (goal.at.loop-k-preserved c).Start) _ _ _ l.k below l.invariant
    (put_same _ c.put_rest.new.self _ _ (rest_turn a.outputs.now a.rest l.k c.bit16.result c.bit16.ensures) c.put_rest.ensures)

pub returns : goal.returns
returns c = put_all (grows (goal.at.returns c).Start) _ c.loop-k.self c.loop-k.k (omega (arith, c.loop-k-test.false)) c.loop-k.invariant
