-- `text::printing::put_text` meets its contract. Assumes nothing.
use mathlib.Core.Path.{◌≡◌, sym, ◌∙◌}
use mathlib.Core.Bool.{true}
use native.Mathlib.Omega.{arith}
use Rattle.scan.specs.Shape.{well_formed}
use Rattle.text.proofs.TextLaws.{bad_set, too_short, put_whole}
use Rattle.text.proofs.printing.put_text.Goals as goal
use Rattle.text.proofs.printing.put_text.Goals.{Else-not-well_formed}

good : (c : Else-not-well_formed) → well_formed c.args.set ≡ true
good c = sym c.well_formed-2.ensures ∙ c.if-not-well_formed.false

pub returns-then-not-well_formed : goal.returns-then-not-well_formed
returns-then-not-well_formed c =
    let a = c.args in
    let r = bad_set a.set a.buf.now (sym c.well_formed-2.ensures ∙ c.if-not-well_formed.true) in
    record { value = r.0; buf_after = r.1 }

pub text_length-needed-requires : goal.text_length-needed-requires
text_length-needed-requires c = good (goal.at.text_length-needed-requires c).Else-not-well_formed

pub returns-then-buf-needed : goal.returns-then-buf-needed
returns-then-buf-needed c =
    let a = c.args in
    let r = too_short a.set a.buf.now (good (goal.at.returns-then-buf-needed c).Else-not-well_formed) c.text_length-needed.result c.text_length-needed.ensures c.if-buf-needed.true in
    record { value = r.0; buf_after = r.1 }

pub put_lines-requires : goal.put_lines-requires
put_lines-requires c = good (goal.at.put_lines-requires c).Else-not-well_formed

pub returns : goal.returns
returns c =
    let e = c in
    let a = e.args in
    let r = put_whole a.set a.buf.now (good (goal.at.returns c).Else-not-well_formed) e.text_length-needed.result e.text_length-needed.ensures (omega (arith, e.if-buf-needed.false)) _ c.put_lines.ensures.0 in
    record { value = r.0; buf_after = r.1 }
