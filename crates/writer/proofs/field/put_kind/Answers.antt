-- `writer::field::put_kind` meets its contract: two bytes for each kind. Assumes nothing.
use mathlib.Core.Path.{sym, subst}
use Rattle.scan.specs.declared.set.Kind.{Kind}
use Rattle.writer.specs.Write.{kind_bytes}
use Rattle.writer.specs.way.Write.{Put}
use Rattle.writer.proofs.field.put_kind.Goals as goal

pub returns-in-Sensor : goal.returns-in-Sensor
returns-in-Sensor c =
    let p = c in
    let a = p.args in
    subst (λ (k : Kind). Put a.buf.now a.at (kind_bytes k) p.put_two.new.buf p.put_two.result) (sym p.in-Sensor.is) p.put_two.ensures

pub returns-in-PastOutput : goal.returns-in-PastOutput
returns-in-PastOutput c =
    let p = c in
    let a = p.args in
    subst (λ (k : Kind). Put a.buf.now a.at (kind_bytes k) p.put_two-in-PastOutput.new.buf p.put_two-in-PastOutput.result) (sym p.in-PastOutput.is) p.put_two-in-PastOutput.ensures

pub returns-in-PastSensor : goal.returns-in-PastSensor
returns-in-PastSensor c =
    let p = c in
    let a = p.args in
    subst (λ (k : Kind). Put a.buf.now a.at (kind_bytes k) p.put_two-in-PastSensor.new.buf p.put_two-in-PastSensor.result) (sym p.in-PastSensor.is) p.put_two-in-PastSensor.ensures
