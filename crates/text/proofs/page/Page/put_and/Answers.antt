-- `text::page::Page::put_and` meets its contract. Assumes nothing.
use mathlib.Core.List.{[], ◌∷◌}
use Rattle.words.proofs.BoolLaws.{cond_true, cond_false}
use Rattle.text.specs.Grammar.{and_word}
use Rattle.text.proofs.PageLaws.{put_same_words, put_wordless}
use Rattle.text.proofs.page.Page.put_and.Goals as goal

pub returns-then-others : goal.returns-then-others
returns-then-others c = put_same_words _ c.put_word.new.self _ _ (cond_true c.args.others (and_word ∷ []) [] c.if-others.true) c.put_word.ensures

pub returns-else-others : goal.returns-else-others
returns-else-others c = put_same_words _ c.args.self.now _ _ (cond_false c.args.others (and_word ∷ []) [] c.if-others.false) (put_wordless _)
