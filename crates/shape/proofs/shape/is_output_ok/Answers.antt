-- `shape::shape::is_output_ok` meets its contract. Assumes nothing.
use mathlib.Core.Path.{ap}
use Prim.Native.Nat.{ℕ}
use lib.Dec.{eqb}
use Rattle.shape.specs.way.Shape.{output_by}
use Rattle.words.proofs.BoolLaws.{three}
use Rattle.shape.proofs.shape.is_output_ok.Goals as goal

pub returns : goal.returns
unfolding output_by
returns c =
    let o = c in
    let f = o in
    let n = f in
    let a = n.args in
    three n.is_name.result (eqb f.first_of.result a.r) (eqb o.first_of-2.result a.j) _ _ _ c.both.result c.both-2.result
    n.is_name.ensures (ap (λ (x : ℕ). eqb x a.r) f.first_of.ensures) (ap (λ (x : ℕ). eqb x a.j) o.first_of-2.ensures)
    c.both.ensures c.both-2.ensures
