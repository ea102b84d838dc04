-- `text::page::Page::put_rank` meets its contract. Assumes nothing.
use mathlib.Core.Path.{sym, ◌∙◌}
use mathlib.Core.Bool.{not, ◌||◌}
use mathlib.Core.List.{[], ◌∷◌}
use lib.Dec.{eqb}
use Rattle.words.proofs.BoolLaws.{cond_true, cond_false}
use Rattle.decimal.specs.Decimal.{decimal}
use Rattle.text.specs.Grammar.{rank_word}
use Rattle.text.proofs.PageLaws.{put_same_words, put_wordless, put_words}
use Rattle.text.proofs.page.Page.put_rank.Goals as goal

pub returns-then-either : goal.returns-then-either
returns-then-either c =
    let a = c.args in
    put_same_words _ c.put_number.new.self _ _
    (cond_true (a.several || not (eqb a.rank 0)) (rank_word ∷ decimal a.rank ∷ []) [] (sym c.either.ensures ∙ c.if-either.true))
    (put_words _ _ _ (rank_word ∷ []) (decimal a.rank ∷ []) c.put_word.ensures c.put_number.ensures)

pub returns-else-either : goal.returns-else-either
returns-else-either c =
    let a = c.args in
    put_same_words _ a.self.now _ _
    (cond_false (a.several || not (eqb a.rank 0)) (rank_word ∷ decimal a.rank ∷ []) [] (sym c.either.ensures ∙ c.if-either.false))
    (put_wordless _)
