-- `verdict::paths::passes_to_mark` meets its contract. The invariant: the vectors passed are not marked, the last of them are in the trail. Assumes nothing.
use mathlib.Core.Path.{◌≡◌, refl, subst}
use Prim.Native.Nat.{ℕ, ◌+◌}
use native.Mathlib.Omega.{arith}
use Rattle.words.specs.Loop.{iterate}
use Rattle.words.proofs.LoopTurns.{some_none}
use Rattle.scan.specs.way.Table.{pass_in}
use Rattle.verdict.specs.way.Paths.{Trail}
use Rattle.verdict.proofs.PathsLaws.{pass_more, come_here, come_on, none_came, reach_some, reach_none, trail_none, trail_more}
use Rattle.verdict.proofs.paths.passes_to_mark.Goals as goal

pub loop-made-init : goal.loop-made-init
unfolding iterate
loop-made-init c =
    let a = c.args in
    (refl, some_none _, trail_none (pass_in a.table.now) a.from a.trail.now c.requires)

pub returns-then-is_marked : goal.returns-then-is_marked
returns-then-is_marked c =
    let l = c.loop-made in
    let a = c.args in
    let next = pass_in a.table.now in
    let there = come_here next a.marks.now a.table.now.limit a.from l.made l.v (omega arith) l.invariant.0 l.invariant.1
    c.is_marked.result c.is_marked.ensures c.if-is_marked.true in record {
      value = reach_some next a.marks.now a.table.now.limit a.from l.made there (omega arith);
      trail = subst (λ (k : ℕ). Trail next a.from k l.trail) there l.invariant.2;
    }

pub loop-made-preserved : goal.loop-made-preserved
loop-made-preserved c =
    let l = c.loop-made in
    let a = c.args in
    let next = pass_in a.table.now in (
      pass_more next a.from l.made l.v c.pass-v.result l.invariant.0 c.pass-v.ensures,
      come_on next a.marks.now a.table.now.limit a.from l.made l.v (omega arith) l.invariant.0 l.invariant.1
          c.is_marked.result c.is_marked.ensures c.if-is_marked.false,
      trail_more next a.from l.made l.v l.trail l.invariant.2 l.invariant.0,
    )

pub returns : goal.returns
returns c =
    let l = c.loop-made in
    let a = c.args in
    let next = pass_in a.table.now in
    let all : l.made ≡ a.table.now.limit + 1 = omega arith in
    let due = none_came next a.marks.now a.table.now.limit a.from l.made all l.invariant.1 in record {
      value = reach_none next a.marks.now a.table.now.limit a.from (omega (arith, all, due));
      trail = subst (λ (k : ℕ). Trail next a.from k l.trail) due l.invariant.2;
    }
