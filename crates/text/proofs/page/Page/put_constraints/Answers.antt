-- `text::page::Page::put_constraints` meets its contract. The loop's invariant: the lines of the first i constraints are put. Assumes nothing.
use borrow.Author.Rules.{rules}
use mathlib.Core.Path.{◌≡◌}
use mathlib.Core.List.{map}
use Prim.Native.Nat.{◌≤◌}
use native.Mathlib.Omega.{arith}
use lib.ListN.{length, get_or, take}
use Rattle.words.proofs.ListLaws.{mapped_long}
use Rattle.words.proofs.LoopTurns.{Grows}
use Rattle.scan.specs.Set.{most_constraints, no_constraint}
use Rattle.text.specs.Text.{lines_text}
use Rattle.text.specs.way.Place.{line_bytes, never_line_by}
use Rattle.text.proofs.PlaceLaws.{lines_grow}
use Rattle.text.proofs.PageLaws.{put_first, put_more, put_all}
use Rattle.text.proofs.page.Page.put_constraints.Goals as goal
use Rattle.text.proofs.page.Page.put_constraints.Goals.{Start}

few : (s : Start) → s.args.m ≤ most_constraints
few s = s.requires.0

grows : (s : Start) → let a = s.args in
    Grows (λ j. lines_text (map (never_line_by a.reads.now a.outputs.now) (take j a.constraints))) (λ j. line_bytes ((never_line_by a.reads.now a.outputs.now) (get_or a.constraints j no_constraint))) a.m
grows s =
    let a = s.args in
    let long : length a.constraints ≡ most_constraints = search (rules, mapped_long) in
    lines_grow (never_line_by a.reads.now a.outputs.now) a.constraints a.m no_constraint (omega (arith, long, s.requires.0))

pub loop-i-init : goal.loop-i-init
loop-i-init c = put_first (grows (goal.at.loop-i-init c).Start) _

pub offset_bounds-constraints-i : goal.offset_bounds-constraints-i
offset_bounds-constraints-i c = omega (arith, few (goal.at.offset_bounds-constraints-i c).Start)

pub bounds-constraints-i : goal.bounds-constraints-i
bounds-constraints-i c = omega (arith, few (goal.at.bounds-constraints-i c).Start)

pub put_constraint-requires : goal.put_constraint-requires
put_constraint-requires c =
    c.requires.1 c.loop-i.i c.loop-i-test.true

pub loop-i-preserved : goal.loop-i-preserved
loop-i-preserved c = put_more (grows (goal.at.loop-i-preserved c).Start) _ _ _ c.loop-i.i c.loop-i-test.true c.loop-i.invariant c.put_constraint.ensures

pub returns : goal.returns
returns c = put_all (grows (goal.at.returns c).Start) _ c.loop-i.self c.loop-i.i (omega (arith, c.loop-i-test.false)) c.loop-i.invariant
