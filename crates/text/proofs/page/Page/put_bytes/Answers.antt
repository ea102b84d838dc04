-- `text::page::Page::put_bytes` meets its contract: a byte is stored where the buffer has the place. The loop's invariant: the first k bytes are put.
-- Assumes nothing.
use mathlib.Core.Path.{◌≡◌, refl, sym, ◌∙◌}
use native.Mathlib.Omega.{arith}
use lib.ListN.{get_or, set}
use lib.Seq.{set_out, take_all}
use Rattle.text.proofs.PlaceLaws.{within_none, within_one, within_same, within_more, bytes_grow}
use Rattle.text.proofs.PageLaws.{put_made}
use Rattle.text.proofs.page.Page.put_bytes.Goals as goal
use Rattle.text.proofs.page.Page.put_bytes.Goals.{then-at-buf, else-at-buf}

pub loop-b-init : goal.loop-b-init
loop-b-init c = within_none c.args.self.now.buf.now c.args.self.now.at

pub loop-b-preserved : goal.loop-b-preserved
loop-b-preserved c =
    let l = c.loop-b in
    let page = c.args.self.now in
    let b = get_or c.args.bytes.now l.b-index 0 in
    let stored : c.if-at-buf.buf ≡ set l.buf l.at b = elim c.if-at-buf.branch [
      | then-at-buf w ↦ w.buf-is
      | else-at-buf w ↦ w.buf-is ∙ sym (set_out l.buf l.at b (omega (arith, w.if-at-buf.false)))
    ] in
    within_more (bytes_grow c.args.bytes.now) page.buf.now page.at l.buf l.at l.b-index _ _ c.loop-b-test.true l.invariant (within_one l.buf l.at b _ _ stored c.next_place-at.ensures)

pub returns : goal.returns
returns c =
    let l = c.loop-b in
    let page = c.args.self.now in
    put_made _ _ _ refl (within_same page.buf.now page.at _ _ l.buf l.at (take_all l.b-index c.args.bytes.now c.loop-b-test.false) l.invariant)
