-- `scan::pass::yielding_within` meets its contract: what is among n outputs is among more. Assumes nothing.
use mathlib.Core.Path.{◌∙◌}
use Rattle.scan.specs.Set.{most_outputs}
use Rattle.scan.proofs.YieldingLaws.{yielding_wider}
use Rattle.scan.proofs.pass.yielding_within.Goals as goal

pub returns-then-n-le4 : goal.returns-then-n-le4
returns-then-n-le4 c =
    let t = c in
    let s = t in
    c.yielding_of.ensures ∙ yielding_wider s.args.c s.args.own s.args.n 4 t.if-n-le4.true s.requires.1

pub returns-then-n-le8 : goal.returns-then-n-le8
returns-then-n-le8 c =
    let t = c in
    let s = t in
    c.yielding_of-then-n-le8.ensures ∙ yielding_wider s.args.c s.args.own s.args.n 8 t.if-n-le8.true s.requires.1

pub returns : goal.returns
returns c =
    let s = c in
    c.yielding_of-2.ensures ∙ yielding_wider s.args.c s.args.own s.args.n most_outputs s.requires.0 s.requires.1
