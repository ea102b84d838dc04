-- `line::printer::written` meets its contract. The loop's invariant: the numbers passed stand behind the word. Assumes nothing.
use mathlib.Core.Path.{◌≡◌}
use Prim.Native.Nat.{◌+◌, ◌*◌, ◌≤◌}
use lib.ListN.{length, drop}
use Rattle.line.specs.way.Draft.{numbered}
use Rattle.line.proofs.printer.written.Given as goal

abbrev pub invariant-loop-n : goal.invariant-loop-n
invariant-loop-n l = (length l.draft ≤ 8 + 21 * l.n-index) × (numbered l.draft (drop l.n-index l.numbers) ≡ numbered l.initial.draft l.numbers)
