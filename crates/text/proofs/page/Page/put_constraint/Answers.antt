-- `text::page::Page::put_constraint` meets its contract. Assumes nothing.
use mathlib.Core.List.{◌++◌}
use Rattle.text.specs.Grammar.{never_word}
use Rattle.text.specs.way.Place.{read_literals_by, output_literals_by}
use Rattle.text.proofs.PageLaws.{put_words, put_line}
use Rattle.text.proofs.page.Page.put_constraint.Goals as goal

pub returns : goal.returns
returns c =
    let a = c.args in
    let reads = read_literals_by a.reads.now a.c in
    let outputs = output_literals_by a.outputs.now a.c in
    put_line _ _ _ _ never_word (reads ++ outputs) c.put_bytes.ensures
    (put_words _ _ _ reads outputs c.put_read_literals.ensures c.put_output_literals.ensures) c.put_byte.ensures
