-- `text::page::Page::put_reads` meets its contract. The loop's invariant: the lines of the first k read points are put. Assumes nothing.
use mathlib.Core.List.{map}
use lib.ListN.{take}
use Rattle.text.specs.Text.{lines_text}
use Rattle.text.specs.way.Page.{Put}
use Rattle.text.specs.way.Place.{read_line_by}
use Rattle.text.proofs.page.Page.put_reads.Given as goal

abbrev pub invariant-loop-k : goal.invariant-loop-k
invariant-loop-k l = Put l.initial.self (lines_text (map (read_line_by l.reads l.outputs) (take l.k l.points))) l.self
