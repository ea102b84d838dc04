-- `machine::machine::is_sensor_word` meets its contract. Assumes nothing.
use mathlib.Core.Path.{◌≡◌, ap, ◌∙◌}
use mathlib.Core.Bool.{Bool, ◌&&◌}
use Prim.Native.Nat.{◌^◌}
use lib.Dec.{eqb, ltb}
use lib.Bits.{bit_and}
use Rattle.machine.proofs.machine.is_sensor_word.Goals as goal

pub returns : goal.returns
returns c =
    let f = c in
    let a = f.args in
    let fits : f.fits32.result ≡ ltb a.present (2 ^ a.r) = f.fits32.ensures in
    c.both.ensures ∙ ap (λ (b : Bool). b && eqb (bit_and a.present a.past) 0) fits
