-- `text::page::Page::put_number` meets its contract: the word is the digits. Assumes nothing.
use mathlib.Core.Path.{ap, ◌∙◌}
use mathlib.Core.List.{List, [], ◌∷◌}
use Prim.Native.Nat.{ℕ}
use Rattle.text.proofs.PageLaws.{put_same_words}
use Rattle.text.proofs.page.Page.put_number.Goals as goal

pub returns : goal.returns
returns c = put_same_words _ c.put_word.new.self _ _ (ap (λ (x : List ℕ). x ∷ []) (c.as_slice.ensures ∙ c.digits_of-digits.ensures.1)) c.put_word.ensures
