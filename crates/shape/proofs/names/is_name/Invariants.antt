-- `shape::names::is_name` meets its contract. The loop's invariant: `ok` tells whether the first place is no zero and the places before k are right. Assumes nothing.
use mathlib.Core.Path.{◌≡◌}
use mathlib.Core.Bool.{not, ◌&&◌}
use Prim.Native.Nat.{◌-◌}
use lib.ListN.{get_or}
use Rattle.words.specs.Loop.{all}
use Rattle.scan.specs.Names.{zero_at}
use Rattle.shape.proofs.NamesWayLaws.{follows_ok}
use Rattle.shape.proofs.names.is_name.Given as goal

abbrev pub invariant-loop-b : goal.invariant-loop-b
invariant-loop-b l = (l.before ≡ get_or l.b-items (l.b-index - 1) 0) × (l.ok ≡ (not (zero_at l.b-items 0) && all l.b-index (follows_ok l.b-items)))
