-- `machine::machine::is_state_ok` meets its contract. Assumes nothing.
use mathlib.Core.Path.{sym, ap₂, ◌∙◌}
use mathlib.Core.Bool.{◌&&◌}
use Rattle.words.proofs.BoolLaws.{and_unit}
use Rattle.machine.specs.Machine.{state_ok}
use Rattle.machine.proofs.machine.is_state_ok.Goals as goal

pub returns : goal.returns
unfolding state_ok
returns c =
    let b = c in
    let f = b in
    let p = f in
    c.both-2.ensures
    ∙ ap₂ ◌&&◌ p.well_formed-2.ensures (b.both.ensures ∙ ap₂ ◌&&◌ p.fits16.ensures (f.fits32.ensures ∙ sym (and_unit _)))
