-- `text::literal::names_several` meets its contract. Assumes nothing.
use mathlib.Core.Path.{ap}
use Prim.Native.Nat.{ℕ}
use lib.Dec.{ltb}
use Rattle.text.proofs.literal.names_several.Goals as goal

pub returns : goal.returns
returns c = ap (λ (x : ℕ). ltb 1 x) c.ones16.ensures
