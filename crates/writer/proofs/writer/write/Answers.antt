-- `writer::writer::write` meets its contract: a set that is not well formed, a buffer too short, or the file in the buffer. Assumes nothing.
use mathlib.Core.Path.{◌≡◌, sym, ◌∙◌}
use mathlib.Core.Bool.{true}
use native.Mathlib.Omega.{arith}
use Rattle.scan.specs.Shape.{well_formed}
use Rattle.writer.proofs.WriteLaws.{bad_set, too_short, written}
use Rattle.writer.proofs.writer.write.Goals as goal
use Rattle.writer.proofs.writer.write.Goals.{Else-not-well_formed}

good : (c : Else-not-well_formed) → well_formed c.args.set ≡ true
good c = sym c.well_formed-2.ensures ∙ c.if-not-well_formed.false

pub returns-then-not-well_formed : goal.returns-then-not-well_formed
returns-then-not-well_formed c =
    let a = c.args in
    let r = bad_set a.set a.buf.now (sym c.well_formed-2.ensures ∙ c.if-not-well_formed.true) in record { value = r.0; buf_after = r.1 }

pub file_length-needed-requires : goal.file_length-needed-requires
file_length-needed-requires c = good (goal.at.file_length-needed-requires c).Else-not-well_formed

pub returns-then-buf-needed : goal.returns-then-buf-needed
returns-then-buf-needed c =
    let a = c.args in
    let r = too_short a.set a.buf.now (good (goal.at.returns-then-buf-needed c).Else-not-well_formed) c.file_length-needed.result c.file_length-needed.ensures c.if-buf-needed.true in record { value = r.0; buf_after = r.1 }

pub put_file-requires : goal.put_file-requires
put_file-requires c = (good (goal.at.put_file-requires c).Else-not-well_formed, omega (arith, c.file_length-needed.ensures, c.if-buf-needed.false))

pub returns : goal.returns
returns c =
    let e = c in
    let a = e.args in
    let r = written a.set a.buf.now (good (goal.at.returns c).Else-not-well_formed) e.file_length-needed.result e.file_length-needed.ensures e.if-buf-needed.false _ c.put_file.ensures in record { value = r.0; buf_after = r.1 }
