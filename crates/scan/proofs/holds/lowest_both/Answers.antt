-- `scan::holds::lowest_both` meets its contract. The invariant: none of the outputs passed is in both words. Assumes nothing.
use mathlib.Core.Path.{◌≡◌, sym, ap₂, ◌∙◌}
use mathlib.Core.Bool.{Bool, ◌&&◌}
use Prim.Native.Nat.{ℕ}
use native.Mathlib.Omega.{arith}
use Rattle.words.specs.Word.{bit}
use Rattle.words.proofs.LoopTurns.{missed_none, missed_one, missed_here, missed_all}
use Rattle.scan.specs.Holds.{both_ways}
use Rattle.scan.proofs.holds.lowest_both.Goals as goal
use Rattle.scan.proofs.holds.lowest_both.Goals.{After-both}

-- what the test says
in_both : (f0 f1 k : ℕ) (a b r : Bool) → a ≡ bit k f0 → b ≡ bit k f1 → r ≡ (a && b) → r ≡ both_ways f0 f1 k
unfolding both_ways
in_both f0 f1 k a b r ea eb er = er ∙ ap₂ ◌&&◌ ea eb

-- the output that was looked at
module _ (c : After-both) where
  told : c.both.result ≡ both_ways c.args.f0 c.args.f1 c.loop-k.k
  told =
      let on = c in
      let off = on in
      in_both c.args.f0 c.args.f1 c.loop-k.k off.bit16.result on.bit16-in-loop-k.result c.both.result
      off.bit16.ensures on.bit16-in-loop-k.ensures c.both.ensures

pub loop-k-init : goal.loop-k-init
loop-k-init c = missed_none 16 _

pub returns-then-both : goal.returns-then-both
returns-then-both c =
    let l = c.loop-k in
    missed_here 16 _ l.k l.invariant (omega arith) (sym (told (goal.at.returns-then-both c).After-both) ∙ c.if-both.true)

pub loop-k-preserved : goal.loop-k-preserved
loop-k-preserved c =
    let l = c.loop-k in
    missed_one 16 _ l.k l.invariant (omega arith) (sym (told (goal.at.loop-k-preserved c).After-both) ∙ c.if-both.false)

pub returns : goal.returns
returns c = let l = c.loop-k in missed_all 16 _ l.k l.invariant (omega arith)
