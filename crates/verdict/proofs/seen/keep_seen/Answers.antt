-- `verdict::seen::keep_seen` meets its contract. Assumes nothing.
use mathlib.Core.Path.{ap}
use Prim.Native.Nat.{ℕ}
use lib.ListN.{set}
use Rattle.verdict.proofs.seen.keep_seen.Goals as goal

pub returns : goal.returns
returns c =
    let a = c.args in
    ap (λ (k : ℕ). set a.seen.now k a.active) c.place_of-k.ensures
