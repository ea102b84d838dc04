-- `verdict::paths::mark_path` meets its contract. The invariant: the vectors passed are marked. Assumes nothing.
use mathlib.Core.Path.{refl, ap, ◌∙◌}
use Prim.Native.Nat.{ℕ}
use native.Mathlib.Omega.{arith}
use Rattle.words.specs.Loop.{iterate}
use Rattle.scan.specs.way.Table.{pass_in}
use Rattle.verdict.specs.way.Paths.{path_marked}
use Rattle.verdict.proofs.PathsLaws.{pass_more, path_none, path_more}
use Rattle.verdict.proofs.paths.mark_path.Goals as goal

pub loop-init : goal.loop-init
unfolding iterate
loop-init c = (refl, path_none (pass_in c.args.table.now) c.args.from c.args.marks.now 0 refl)

pub loop-preserved : goal.loop-preserved
loop-preserved c =
    let l = c.loop in
    let a = c.args in
    let next = pass_in a.table.now in (
      pass_more next a.from l.counter l.v c.pass-v.result l.invariant.0 c.pass-v.ensures,
      c.put_mark.ensures ∙ path_more next a.from a.marks.now l.counter l.v l.marks l.invariant.1 l.invariant.0,
    )

pub returns : goal.returns
returns c =
    let l = c.loop in
    let a = c.args in
    l.invariant.1 ∙ ap (λ (k : ℕ). path_marked (pass_in a.table.now) k a.from a.marks.now) (omega arith)
