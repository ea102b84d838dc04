-- `shape::shape::is_read_ok` meets its contract. Assumes nothing.
use mathlib.Core.Path.{ap}
use Prim.Native.Nat.{ℕ}
use lib.Dec.{eqb}
use Rattle.shape.specs.way.Shape.{read_by}
use Rattle.words.proofs.BoolLaws.{three}
use Rattle.shape.proofs.shape.is_read_ok.Goals as goal

pub returns : goal.returns
unfolding read_by
returns c =
    let f = c in
    let n = f in
    let k = n in
    let at = k.args.k in
    three k.is_kind_ok.result n.is_name.result (eqb f.first_of.result at) _ _ _ c.both.result c.both-2.result
    k.is_kind_ok.ensures n.is_name.ensures (ap (λ (x : ℕ). eqb x at) f.first_of.ensures) c.both.ensures c.both-2.ensures
