-- `text::page::Page::put_constraints` meets its contract. The loop's invariant: the lines of the first i constraints are put. Assumes nothing.
use mathlib.Core.List.{map}
use lib.ListN.{take}
use Rattle.text.specs.Text.{lines_text}
use Rattle.text.specs.way.Page.{Put}
use Rattle.text.specs.way.Place.{never_line_by}
use Rattle.text.proofs.page.Page.put_constraints.Given as goal

abbrev pub invariant-loop-i : goal.invariant-loop-i
invariant-loop-i l = Put l.initial.self (lines_text (map (never_line_by l.reads l.outputs) (take l.i l.constraints))) l.self
