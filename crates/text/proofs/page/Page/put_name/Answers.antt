-- `text::page::Page::put_name` meets its contract. Assumes nothing.
use mathlib.Core.Path.{◌≡◌, ap, ◌∙◌}
use mathlib.Core.List.{List, [], ◌∷◌}
use Prim.Native.Nat.{ℕ, ◌-◌}
use native.Mathlib.Omega.{arith}
use lib.ListN.{take}
use Rattle.scan.proofs.NamesLaws.{name_taken}
use Rattle.text.proofs.PageLaws.{put_same_words}
use Rattle.text.proofs.page.Page.put_name.Goals as goal

pub returns : goal.returns
returns c =
    let name = c.args.name in
    let len = c.name_length-len.result in
    let all : len - 0 ≡ len = omega arith in
    put_same_words _ c.put_word.new.self _ _ (ap (λ (w : List ℕ). w ∷ []) (ap (λ (k : ℕ). take k name) all ∙ name_taken name len c.name_length-len.ensures.0)) c.put_word.ensures
