-- `literal::literal::literals_in` meets its contract. The loop's invariant: the literals from place i on, added to the constraint so far, give what the whole body gives. Assumes nothing.
use mathlib.Core.Path.{◌≡◌}
use Prim.Native.Nat.{◌-◌}
use lib.ListN.{length, drop}
use Rattle.literal.specs.Literal.{said_by, literals_of, literals_from}
use Rattle.literal.specs.way.Literal.{of_word}
use Rattle.literal.proofs.literal.literals_in.Given as goal

abbrev pub invariant-loop-i : goal.invariant-loop-i
invariant-loop-i l =
    literals_of l.wide l.reads l.outputs l.body ≡ literals_from l.wide l.reads l.outputs l.next (of_word l.word l.ranks) (said_by l.wide (drop l.i l.body))

abbrev pub decreases-loop-i : goal.decreases-loop-i
decreases-loop-i l = length l.body - l.i
