-- `scan::pass::lowest_rank` meets its contract. The invariant: `low` is the lowest rank among the outputs passed. Assumes nothing.
use mathlib.Core.Path.{◌≡◌, refl, sym, ap, ◌∙◌}
use mathlib.Core.Bool.{Bool, cond}
use Prim.Native.Nat.{ℕ, ◌+◌, min}
use native.Mathlib.Omega.{arith}
use native.Mathlib.Numerals.{add-one}
use Rattle.words.specs.Word.{bit}
use Rattle.scan.specs.declared.set.Constraint.{Constraint}
use Rattle.scan.specs.Set.{rank}
use Rattle.scan.specs.Pass.{lowest}
use Rattle.scan.proofs.pass.lowest_rank.Goals as goal

-- no output is passed yet
none : (c : Constraint) (own : ℕ) → 256 ≡ lowest c own 0
unfolding lowest
none c own = refl

-- output k is passed
more : (c : Constraint) (own k z m x : ℕ) (b : Bool) → z ≡ lowest c own k → b ≡ bit k own → m ≡ min z (rank c k) → x ≡ cond b m z
    → x ≡ lowest c own (k + 1)
unfolding lowest
more c own k z m x b ez eb em ex =
    ex
    ∙ (λ i. cond (eb i) ((em ∙ ap (λ (y : ℕ). min y (rank c k)) ez) i) (ez i))
    ∙ ap (lowest c own) (sym (add-one k))

pub loop-k-init : goal.loop-k-init
loop-k-init c = none c.args.c c.args.own

pub loop-k-preserved : goal.loop-k-preserved
loop-k-preserved c =
    let m = c in
    let b = m in
    let l = b.loop-k in
    let a = b.args in
    more a.c a.own l.k l.low m.min.result c.pick-low.result b.bit16.result
    l.invariant b.bit16.ensures m.min.ensures c.pick-low.ensures

pub returns : goal.returns
returns c = c.loop-k.invariant ∙ ap (lowest c.args.c c.args.own) (omega arith)
