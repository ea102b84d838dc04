-- `text::printing::text_length` meets its contract: the place behind the text. Assumes nothing.
use mathlib.Core.Path.{◌∙◌}
use native.Mathlib.Nat.{zero-add}
use native.Mathlib.Omega.{arith}
use lib.ListN.{length}
use Rattle.text.specs.Text.{text_of}
use Rattle.text.proofs.PlaceLaws.{after_is}
use Rattle.text.proofs.TextLaws.{text_fits}
use Rattle.text.proofs.printing.text_length.Goals as goal

pub returns : goal.returns
returns c =
    let p = c in
    let s = p in
    let text = text_of s.args.set in
    let fits = text_fits s.args.set s.requires in
    p.put_lines.ensures.1 ∙ after_is 0 text (omega arith) ∙ zero-add (length text)
