-- `shape::names::is_next_ok` meets its contract. Assumes nothing.
use mathlib.Core.Path.{ap, ◌∙◌}
use mathlib.Core.Bool.{Bool, not, ◌&&◌, ◌||◌}
use lib.Dec.{eqb}
use Rattle.shape.specs.way.Names.{next_ok}
use Rattle.shape.proofs.names.is_next_ok.Goals as goal

pub returns : goal.returns
unfolding next_ok
returns c =
    let o = c in
    let n = o in
    let a = n.args in
    c.either.ensures ∙ ap (λ (x : Bool). eqb a.b 0 || x) (o.both.ensures ∙ ap (λ (x : Bool). x && not (eqb a.before 0)) n.is_name_byte.ensures)
