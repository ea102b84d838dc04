-- `text::page::Page::put_outputs` meets its contract. The loop's invariant: the lines of the first j outputs are put. Assumes nothing.
use borrow.Author.Rules.{rules}
use mathlib.Core.Path.{◌≡◌}
use mathlib.Core.List.{map}
use Prim.Native.Nat.{◌≤◌}
use native.Mathlib.Omega.{arith}
use lib.ListN.{length, get_or, take}
use Rattle.words.proofs.ListLaws.{mapped_long}
use Rattle.words.proofs.LoopTurns.{Grows}
use Rattle.scan.specs.Set.{most_outputs, no_output}
use Rattle.text.specs.Text.{output_line, lines_text}
use Rattle.text.specs.way.Place.{line_bytes}
use Rattle.text.proofs.PlaceLaws.{lines_grow}
use Rattle.text.proofs.PageLaws.{put_first, put_more, put_all}
use Rattle.text.proofs.page.Page.put_outputs.Goals as goal
use Rattle.text.proofs.page.Page.put_outputs.Goals.{Start}

few : (s : Start) → s.args.n ≤ most_outputs
few s = s.requires

grows : (s : Start) → let a = s.args in
    Grows (λ j. lines_text (map output_line (take j a.outputs))) (λ j. line_bytes (output_line (get_or a.outputs j no_output))) a.n
grows s =
    let a = s.args in
    let long : length a.outputs ≡ most_outputs = search (rules, mapped_long) in
    lines_grow output_line a.outputs a.n no_output (omega (arith, long, s.requires))

pub loop-j-init : goal.loop-j-init
loop-j-init c = put_first (grows (goal.at.loop-j-init c).Start) _

pub offset_bounds-outputs-j : goal.offset_bounds-outputs-j
offset_bounds-outputs-j c = omega (arith, few (goal.at.offset_bounds-outputs-j c).Start)

pub bounds-outputs-j : goal.bounds-outputs-j
bounds-outputs-j c = omega (arith, few (goal.at.bounds-outputs-j c).Start)

pub loop-j-preserved : goal.loop-j-preserved
loop-j-preserved c = put_more (grows (goal.at.loop-j-preserved c).Start) _ _ _ c.loop-j.j c.loop-j-test.true c.loop-j.invariant c.put_output.ensures

pub returns : goal.returns
returns c = put_all (grows (goal.at.returns c).Start) _ c.loop-j.self c.loop-j.j (omega (arith, c.loop-j-test.false)) c.loop-j.invariant
