-- `verdict::seen::is_seen` meets its contract. Assumes nothing.
use mathlib.Core.Path.{ap}
use Prim.Native.Nat.{ℕ}
use lib.Dec.{eqb}
use lib.ListN.{get_or}
use Rattle.verdict.proofs.seen.is_seen.Goals as goal

pub returns : goal.returns
returns c =
    let a = c.args in
    ap (λ (k : ℕ). eqb (get_or a.seen.now k 0) a.active) c.place_of-k.ensures
