-- `writer::field::put_literals` meets its contract. The loop's invariant: for some k the literals of the first k points are in place, and `left` has the
-- bits from k on. Assumes nothing.
use Prim.Native.Nat.{ℕ, ◌^◌, ◌<◌}
use lib.ListN.{length}
use Rattle.words.specs.Loop.{joined}
use Rattle.writer.specs.way.Write.{literal_at}
use Rattle.writer.proofs.LowestBit.{Rest}
use Rattle.writer.proofs.WriteLaws.{Puts}
use Rattle.writer.proofs.field.put_literals.Given as goal

abbrev pub invariant-loop-left : goal.invariant-loop-left
invariant-loop-left l =
    (k : ℕ) × Puts (λ j. joined j (literal_at l.wide l.flags l.plain l.named l.ranks)) (length l.ranks) l.initial.buf l.at l.buf l.next k × Rest l.named l.left k × (l.left < 2 ^ 32)

abbrev pub decreases-loop-left : goal.decreases-loop-left
decreases-loop-left l = l.left
