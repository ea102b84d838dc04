-- `shape::finding::find` meets its contract. Assumes nothing.
use mathlib.Core.Path.{◌≡◌, sym, ◌∙◌}
use mathlib.Core.Bool.{true}
use Rattle.scan.specs.Names.{length_ok}
use Rattle.scan.specs.Shape.{well_formed}
use Rattle.scan.proofs.ShapeLaws.{formed_counts}
use Rattle.shape.proofs.FindingLaws.{find_bad, find_length, find_unspelt, find_spelt}
use Rattle.shape.proofs.finding.find.Goals as goal
use Rattle.shape.proofs.finding.find.Goals.{Else-not-is_length_ok, Else-not-well_formed}

-- past the first test
formed : (c : Else-not-well_formed) → well_formed c.args.set ≡ true
formed c = sym c.well_formed-2.ensures ∙ c.if-not-well_formed.false

-- and past the second
fit : (c : Else-not-is_length_ok) → length_ok c.args.name.now ≡ true
fit c = sym c.is_length_ok.ensures ∙ c.if-not-is_length_ok.false

pub returns-then-not-well_formed : goal.returns-then-not-well_formed
returns-then-not-well_formed c =
    let w = c in
    let a = w.args in
    find_bad a.set a.name.now (sym w.well_formed-2.ensures ∙ c.if-not-well_formed.true)

pub returns-then-not-is_length_ok : goal.returns-then-not-is_length_ok
returns-then-not-is_length_ok c =
    let l = c in
    let e = (goal.at.returns-then-not-is_length_ok c).Else-not-well_formed in
    let a = e.args in
    find_length a.set a.name.now (formed e) (sym l.is_length_ok.ensures ∙ c.if-not-is_length_ok.true)

pub find_padded-requires : goal.find_padded-requires
find_padded-requires c =
    let e = (goal.at.find_padded-requires c).Else-not-well_formed in
    formed_counts e.args.set (formed e)

pub returns-in-None : goal.returns-in-None
returns-in-None c =
    let l = (goal.at.returns-in-None c).Else-not-is_length_ok in
    let e = (goal.at.returns-in-None c).Else-not-well_formed in
    let a = e.args in
    find_unspelt a.set a.name.now (formed e) (fit l) (sym c.spell.ensures ∙ c.in-None.is)

pub returns-in-Some : goal.returns-in-Some
returns-in-Some c =
    let l = (goal.at.returns-in-Some c).Else-not-is_length_ok in
    let e = (goal.at.returns-in-Some c).Else-not-well_formed in
    let a = e.args in
    c.find_padded.ensures ∙ find_spelt a.set a.name.now (formed e) (fit l) c.in-Some.places (sym c.spell.ensures ∙ c.in-Some.is)
