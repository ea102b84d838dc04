-- `text::page::Page::put_state` meets its contract. Assumes nothing.
use mathlib.Core.Path.{ap}
use mathlib.Core.List.{List, [], ◌∷◌}
use Prim.Native.Nat.{ℕ}
use Rattle.words.proofs.BoolLaws.{cond_true, cond_false}
use Rattle.text.specs.Grammar.{on_word, off_word}
use Rattle.text.proofs.PageLaws.{put_same_words}
use Rattle.text.proofs.page.Page.put_state.Goals as goal

pub returns-then-plain : goal.returns-then-plain
returns-then-plain c = put_same_words _ c.put_word.new.self _ _ (ap (λ (x : List ℕ). x ∷ []) (cond_true c.args.plain on_word off_word c.if-plain.true)) c.put_word.ensures

pub returns-else-plain : goal.returns-else-plain
returns-else-plain c = put_same_words _ c.put_word-else-plain.new.self _ _ (ap (λ (x : List ℕ). x ∷ []) (cond_false c.args.plain on_word off_word c.if-plain.false)) c.put_word-else-plain.ensures
