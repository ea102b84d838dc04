-- `text::page::Page::put_bytes` meets its contract. The loop's invariant: the first k bytes are put. Assumes nothing.
use lib.ListN.{take}
use Rattle.text.specs.way.Place.{Within}
use Rattle.text.proofs.page.Page.put_bytes.Given as goal

abbrev pub invariant-loop-b : goal.invariant-loop-b
invariant-loop-b l = Within l.initial.buf l.fn.self.at (take l.b-index l.bytes) l.buf l.at
