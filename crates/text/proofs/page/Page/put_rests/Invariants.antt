-- `text::page::Page::put_rests` meets its contract. The loop's invariant: the lines of those of the first k outputs that are on at rest are put. Assumes nothing.
use Rattle.words.specs.Loop.{joined}
use Rattle.text.specs.Text.{lines_text}
use Rattle.text.specs.way.Page.{Put}
use Rattle.text.specs.way.Place.{rest_line_by}
use Rattle.text.proofs.page.Page.put_rests.Given as goal

abbrev pub invariant-loop-k : goal.invariant-loop-k
invariant-loop-k l = Put l.initial.self (lines_text (joined l.k (rest_line_by l.outputs l.rest))) l.self
