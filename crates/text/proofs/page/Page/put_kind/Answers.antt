-- `text::page::Page::put_kind` meets its contract. Assumes nothing.
use mathlib.Core.Path.{sym, ap}
use mathlib.Core.List.{[], ◌∷◌}
use Rattle.scan.specs.declared.set.Kind.{Kind}
use Rattle.scan.specs.Names.{name_bytes}
use Rattle.text.specs.Grammar.{sensor_word}
use Rattle.text.specs.Text.{spaced_words, parted}
use Rattle.text.specs.way.Place.{kind_line_by}
use Rattle.text.proofs.PageLaws.{put_same, put_then}
use Rattle.text.proofs.page.Page.put_kind.Goals as goal

pub returns-in-Sensor : goal.returns-in-Sensor
returns-in-Sensor c =
    let a = c.args in
    put_same _ c.put_name.new.self _ _ (ap (λ (k : Kind). parted (kind_line_by a.reads.now a.outputs.now (name_bytes a.p.name) k)) (sym c.in-Sensor.is))
    (put_then _ _ _ sensor_word (spaced_words (name_bytes a.p.name ∷ [])) c.put_bytes.ensures c.put_name.ensures)

pub returns-in-PastOutput : goal.returns-in-PastOutput
returns-in-PastOutput c =
    let a = c.args in
    put_same _ c.put_past.new.self _ _ (ap (λ (x : Kind). parted (kind_line_by a.reads.now a.outputs.now (name_bytes a.p.name) x)) (sym c.in-PastOutput.is)) c.put_past.ensures

pub returns-in-PastSensor : goal.returns-in-PastSensor
returns-in-PastSensor c =
    let a = c.args in
    let p = c.put_past-in-PastSensor in
    put_same _ p.new.self _ _ (ap (λ (x : Kind). parted (kind_line_by a.reads.now a.outputs.now (name_bytes a.p.name) x)) (sym c.in-PastSensor.is)) p.ensures
