-- `text::page::Page::put_literals` meets its contract. The loop's invariant: the literals of the first k points are put, and `others` says whether there are any before. Assumes nothing.
use mathlib.Core.Path.{◌≡◌}
use mathlib.Core.Bool.{◌||◌}
use Rattle.words.specs.Loop.{joined}
use Rattle.text.specs.Text.{named_below, spaced_words}
use Rattle.text.specs.way.Page.{Put}
use Rattle.text.specs.way.Place.{literal_at}
use Rattle.text.proofs.page.Page.put_literals.Given as goal

abbrev pub invariant-loop-k : goal.invariant-loop-k
invariant-loop-k l =
    Put l.initial.page (spaced_words (joined l.k (literal_at l.begun l.names l.plain l.named l.ranks l.several))) l.page × (l.others ≡ (l.begun || named_below l.named l.k))
