-- `shape::names::is_name` meets its contract. Assumes nothing.
use mathlib.Core.Path.{◌≡◌, refl, ap, ◌∙◌}
use mathlib.Core.Bool.{not, ◌&&◌}
use Prim.Native.Nat.{ℕ, ◌+◌, ◌-◌}
use native.Mathlib.Omega.{arith}
use lib.ListN.{length, get_or}
use Rattle.words.specs.Loop.{all}
use Rattle.scan.specs.Set.{name_places}
use Rattle.scan.specs.Names.{zero_at}
use Rattle.shape.specs.way.Names.{next_ok}
use Rattle.shape.proofs.NamesWayLaws.{follows_ok, follows_none, follows_more, name_follows}
use borrow.Author.Rules.{rules}
use Rattle.shape.proofs.names.is_name.Goals as goal
use Rattle.shape.proofs.names.is_name.Goals.{Start}

long : (c : Start) → length c.args.name ≡ name_places
long c = search rules

pub loop-b-init : goal.loop-b-init
loop-b-init c = (refl, follows_none c.args.name)

pub loop-b-preserved : goal.loop-b-preserved
loop-b-preserved c =
    let l = c.loop-b in
    let k = l.b-index in
    let name = c.args.name in
    let back : k ≡ k + 1 - 1 = omega arith in (
      ap (λ (j : ℕ). get_or name j 0) back,
      follows_more name k l.ok c.is_next_ok.result c.both-ok.result l.invariant.1
          (c.is_next_ok.ensures ∙ ap (λ (b : ℕ). next_ok b (get_or name k 0)) l.invariant.0) c.both-ok.ensures,
    )

pub returns : goal.returns
returns c =
    let l = c.loop-b in
    let name = c.args.name in
    let all-passed : l.b-index ≡ name_places = omega (arith, long (goal.at.returns c).Start) in
    name_follows name (long (goal.at.returns c).Start) l.ok (l.invariant.1 ∙ ap (λ (k : ℕ). not (zero_at name 0) && all k (follows_ok name)) all-passed)
