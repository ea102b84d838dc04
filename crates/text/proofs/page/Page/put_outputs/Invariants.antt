-- `text::page::Page::put_outputs` meets its contract. The loop's invariant: the lines of the first j outputs are put. Assumes nothing.
use mathlib.Core.List.{map}
use lib.ListN.{take}
use Rattle.text.specs.Text.{output_line, lines_text}
use Rattle.text.specs.way.Page.{Put}
use Rattle.text.proofs.page.Page.put_outputs.Given as goal

abbrev pub invariant-loop-j : goal.invariant-loop-j
invariant-loop-j l = Put l.initial.self (lines_text (map output_line (take l.j l.outputs))) l.self
