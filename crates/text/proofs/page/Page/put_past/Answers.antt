-- `text::page::Page::put_past` meets its contract. Assumes nothing.
use mathlib.Core.List.{[], ◌∷◌}
use lib.ListN.{get_or}
use Rattle.scan.specs.Names.{name_bytes}
use Rattle.text.specs.Grammar.{past_word, of_word}
use Rattle.text.specs.Text.{spaced_words}
use Rattle.text.proofs.PageLaws.{put_then, put_words}
use Rattle.text.proofs.page.Page.put_past.Goals as goal

pub returns : goal.returns
returns c =
    let a = c.args in
    let name = name_bytes a.name in
    let other = name_bytes (get_or a.names.now a.k []) in
    put_then _ _ _ past_word (spaced_words (name ∷ of_word ∷ other ∷ [])) c.put_bytes.ensures
    (put_words _ _ _ (name ∷ []) (of_word ∷ other ∷ []) c.put_name.ensures
    (put_words _ _ _ (of_word ∷ []) (other ∷ []) c.put_word.ensures c.put_name_at.ensures))
