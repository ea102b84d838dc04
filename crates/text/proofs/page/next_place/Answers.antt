-- `text::page::next_place` meets its contract. Assumes nothing.
use mathlib.Core.Path.{ap, sym}
use mathlib.Core.Bool.{Bool, cond}
use Prim.Native.Nat.{◌+◌}
use borrow.Author.Tests.{lt-ltb, le-ltb}
use native.Mathlib.Omega.{arith}
use Rattle.text.specs.way.Place.{text_end, next}
use Rattle.text.proofs.page.next_place.Goals as goal

pub returns-then-at-lt-TEXT_END : goal.returns-then-at-lt-TEXT_END
unfolding next
returns-then-at-lt-TEXT_END c = let at = c.args.at in sym (ap (λ (b : Bool). cond b (at + 1) at) (lt-ltb at text_end c.if-at-lt-TEXT_END.true))

pub returns-else-at-lt-TEXT_END : goal.returns-else-at-lt-TEXT_END
unfolding next
returns-else-at-lt-TEXT_END c = let at = c.args.at in sym (ap (λ (b : Bool). cond b (at + 1) at) (le-ltb at text_end (omega (arith, c.if-at-lt-TEXT_END.false))))
