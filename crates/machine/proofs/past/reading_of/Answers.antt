-- `machine::past::reading_of` meets its contract. Assumes nothing.
use mathlib.Core.Path.{◌≡◌, sym, ap, ◌∙◌}
use mathlib.Core.Bool.{Bool}
use Prim.Native.Nat.{ℕ}
use Rattle.scan.specs.declared.set.Kind.{Kind}
use Rattle.machine.specs.Past.{reading}
use Rattle.machine.proofs.past.reading_of.Goals as goal

-- what a read point reads, where its kind is known
by_kind : (output sensor present k : ℕ) {x y : Kind} {r : Bool} → x ≡ y → r ≡ reading output sensor present k x → r ≡ reading output sensor present k y
by_kind output sensor present k e told = told ∙ ap (reading output sensor present k) e

pub returns-in-Sensor : goal.returns-in-Sensor
returns-in-Sensor c =
    let a = c.args in
    by_kind a.output a.sensor a.present a.k (sym c.in-Sensor.is) c.bit32.ensures

pub returns-in-PastOutput : goal.returns-in-PastOutput
returns-in-PastOutput c =
    let k = c in
    let a = k.args in
    by_kind a.output a.sensor a.present a.k (sym k.in-PastOutput.is) c.bit16.ensures

pub returns-in-PastSensor : goal.returns-in-PastSensor
returns-in-PastSensor c =
    let k = c in
    let a = k.args in
    by_kind a.output a.sensor a.present a.k (sym k.in-PastSensor.is) c.bit32-in-PastSensor.ensures
