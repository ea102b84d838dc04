-- `shape::names::first_of` meets its contract. The loop's invariant: none of the names before k is the name. Assumes nothing.
use mathlib.Core.Path.{sym, ◌∙◌}
use Rattle.shape.specs.way.Names.{name_is, first_name}
use Rattle.words.proofs.LoopTurns.{missed_none, missed_one, missed_here, missed_all}
use Rattle.shape.proofs.names.first_of.Goals as goal

pub loop-k-init : goal.loop-k-init
loop-k-init c = missed_none _ _

pub returns-then-is_same_name : goal.returns-then-is_same_name
unfolding name_is first_name
returns-then-is_same_name c =
    let t = c in
    let l = t.loop-k in
    let a = t.args in
    missed_here a.i (name_is a.names.now a.name) l.k l.invariant t.loop-k-test.true (sym c.is_same_name.ensures ∙ c.if-is_same_name.true)

pub loop-k-preserved : goal.loop-k-preserved
unfolding name_is
loop-k-preserved c =
    let t = c in
    let l = t.loop-k in
    let a = t.args in
    missed_one a.i (name_is a.names.now a.name) l.k l.invariant t.loop-k-test.true (sym c.is_same_name.ensures ∙ c.if-is_same_name.false)

pub returns : goal.returns
unfolding first_name
returns c =
    let l = c.loop-k in
    let a = c.args in
    missed_all a.i (name_is a.names.now a.name) l.k l.invariant c.loop-k-test.false
