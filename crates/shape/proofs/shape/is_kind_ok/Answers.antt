-- `shape::shape::is_kind_ok` meets its contract. Assumes nothing.
use Rattle.shape.proofs.ShapeWayLaws.{by_sensor, by_output, by_past}
use Rattle.shape.proofs.shape.is_kind_ok.Goals as goal

pub returns-in-Sensor : goal.returns-in-Sensor
returns-in-Sensor c =
    let a = c.args in
    by_sensor a.sensors a.n a.k _ c.in-Sensor.is

pub returns-in-PastOutput : goal.returns-in-PastOutput
returns-in-PastOutput c =
    let k = c in
    let a = k.args in
    by_output a.sensors a.n a.k a.kind _ k.in-PastOutput.is

pub returns-in-PastSensor : goal.returns-in-PastSensor
returns-in-PastSensor c =
    let b = c in
    let k = b in
    let a = k.args in
    by_past a.sensors a.n a.k a.kind _ b.bit32.result c.both.result k.in-PastSensor.is b.bit32.ensures c.both.ensures
