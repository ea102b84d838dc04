-- `text::page::Page::put_name_at` meets its contract: past the end of the list a name has no bytes. Assumes nothing.
use mathlib.Core.Path.{◌≡◌, sym, ap, ◌∙◌}
use mathlib.Core.List.{List, [], ◌∷◌}
use Prim.Native.Nat.{ℕ}
use native.Mathlib.Omega.{arith}
use lib.ListN.{get_or, get_or-eq_default}
use lib.Seq.{take_all}
use Rattle.scan.specs.Names.{name_bytes, name_length}
use Rattle.text.specs.Text.{spaced_words}
use Rattle.text.proofs.PageLaws.{put_same}
use Rattle.text.proofs.page.Page.put_name_at.Goals as goal

no_bytes : name_bytes [] ≡ []
unfolding name_bytes
no_bytes = take_all (name_length []) [] (omega arith)

no_word : (w : List ℕ) → w ≡ [] → spaced_words (w ∷ []) ≡ 0x20 ∷ []
unfolding spaced_words
no_word w e = ap (λ (v : List ℕ). spaced_words (v ∷ [])) e

pub returns-else-k-names : goal.returns-else-k-names
returns-else-k-names c =
    let a = c.args in
    let none : name_bytes (get_or a.names.now a.k []) ≡ [] = ap name_bytes (get_or-eq_default a.names.now [] (omega (arith, c.if-k-names.false))) ∙ no_bytes in
    put_same _ c.put_byte.new.self (0x20 ∷ []) _ (sym (no_word (name_bytes (get_or a.names.now a.k [])) none)) c.put_byte.ensures
