-- `text::page::Page::put_rest` meets its contract. Assumes nothing.
use mathlib.Core.List.{[], ◌∷◌}
use lib.ListN.{get_or}
use Rattle.scan.specs.Names.{name_bytes}
use Rattle.text.specs.Grammar.{rest_word}
use Rattle.text.proofs.PageLaws.{put_none, put_same, put_line}
use Rattle.text.proofs.LinesLaws.{rest_made, rest_none}
use Rattle.text.proofs.page.Page.put_rest.Goals as goal

pub returns-then-on : goal.returns-then-on
returns-then-on c =
    let a = c.args in
    let name = name_bytes (get_or a.outputs.now a.k []) in
    put_same _ c.put_byte.new.self _ _ (rest_made a.on name c.if-on.true)
    (put_line _ _ _ _ rest_word (name ∷ []) c.put_bytes.ensures c.put_name_at.ensures c.put_byte.ensures)

pub returns-else-on : goal.returns-else-on
returns-else-on c =
    let a = c.args in
    put_same _ a.self.now _ _ (rest_none a.on (name_bytes (get_or a.outputs.now a.k [])) c.if-on.false) (put_none _)
