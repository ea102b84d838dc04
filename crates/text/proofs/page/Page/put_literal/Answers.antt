-- `text::page::Page::put_literal` meets its contract. Assumes nothing.
use mathlib.Core.Bool.{cond}
use mathlib.Core.List.{[], ◌∷◌, ◌++◌}
use lib.ListN.{get_or}
use Rattle.words.proofs.BoolLaws.{cond_false}
use Rattle.scan.specs.Names.{name_bytes}
use Rattle.text.specs.Grammar.{and_word}
use Rattle.text.specs.Text.{state_word, rank_words, behind}
use Rattle.text.proofs.PageLaws.{put_same_words, put_wordless, put_words}
use Rattle.text.proofs.LiteralLaws.{literal_made}
use Rattle.text.proofs.page.Page.put_literal.Goals as goal

pub returns-then-there : goal.returns-then-there
returns-then-there c =
    let a = c.args in
    let name = name_bytes (get_or a.names.now a.k []) in
    let state = state_word a.plain ∷ [] in
    let ranks = rank_words a.several a.rank in
    put_same_words _ c.put_rank.new.self _ _ (literal_made a.there a.others name a.plain a.several a.rank c.if-there.true)
    (put_words _ _ _ (cond a.others (and_word ∷ []) []) ((name ∷ []) ++ (state ++ ranks)) c.put_and.ensures
    (put_words _ _ _ (name ∷ []) (state ++ ranks) c.put_name_at.ensures
    (put_words _ _ _ state ranks c.put_state.ensures c.put_rank.ensures)))

pub returns-else-there : goal.returns-else-there
returns-else-there c =
    let a = c.args in
    let name = name_bytes (get_or a.names.now a.k []) in
    put_same_words _ a.self.now _ _ (cond_false a.there (behind a.others (name ∷ state_word a.plain ∷ rank_words a.several a.rank)) [] c.if-there.false) (put_wordless _)
