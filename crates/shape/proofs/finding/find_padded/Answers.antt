-- `shape::finding::find_padded` meets its contract. Assumes nothing.
use mathlib.Core.Path.{◌≡◌, ◌∙◌}
use Rattle.scan.specs.Names.{first_read, first_output}
use Rattle.shape.proofs.ShapeWayLaws.{first_reads, first_outputs}
use Rattle.shape.proofs.FindingLaws.{find_read, find_output, find_none}
use Rattle.shape.proofs.finding.find_padded.Goals as goal
use Rattle.shape.proofs.finding.find_padded.Goals.{After-first_of-j, After-first_of-k}

-- what is found among the names of the read points is what is found among the points
first : (c : After-first_of-k) → let a = c.args in c.first_of-k.result ≡ first_read a.set.reads a.set.r a.name
first c =
    let n = c in
    let s = n in
    let a = s.args in
    c.first_of-k.ensures ∙ first_reads n.names_of_reads-names.result a.set.reads n.names_of_reads-names.ensures a.set.r a.name s.requires.0

-- the same of the outputs
second : (c : After-first_of-j)
    → let a = c.args in c.first_of-j.result ≡ first_output a.set.outputs a.set.n a.name
second c =
    let o = c in
    let s = o in
    let a = s.args in
    c.first_of-j.ensures ∙ first_outputs o.names_of_outputs-own.result a.set.outputs o.names_of_outputs-own.ensures a.set.n a.name s.requires.1

pub returns-then-k-r : goal.returns-then-k-r
returns-then-k-r c =
    let f = (goal.at.returns-then-k-r c).After-first_of-k in
    let a = f.args in
    find_read a.set a.name f.first_of-k.result (first f) c.if-k-r.true

pub returns-then-j-n : goal.returns-then-j-n
returns-then-j-n c =
    let o = (goal.at.returns-then-j-n c).After-first_of-j in
    let e = o in
    let f = (goal.at.returns-then-j-n c).After-first_of-k in
    let a = f.args in
    find_output a.set a.name f.first_of-k.result (first f) o.first_of-j.result e.if-k-r.false (second o) c.if-j-n.true

pub returns : goal.returns
returns c =
    let o = (goal.at.returns c).After-first_of-j in
    let e = o in
    let f = (goal.at.returns c).After-first_of-k in
    let a = f.args in
    find_none a.set a.name f.first_of-k.result (first f) o.first_of-j.result e.if-k-r.false (second o) c.if-j-n.false
