-- `verdict::missing::none_at` meets its contract. Assumes nothing.
use mathlib.Core.Path.{◌≡◌, sym, ap, ◌∙◌}
use mathlib.Core.Bool.{true}
use Prim.Native.Nat.{ℕ}
use Rattle.scan.specs.declared.set.Set.{Set}
use Rattle.scan.specs.declared.holds.Holds.{Holds}
use Rattle.scan.specs.Shape.{well_formed}
use Rattle.scan.specs.way.Holds.{holds_at}
use Rattle.scan.proofs.ActiveLaws.{holds_at_law}
use Rattle.verdict.specs.Judge.{none_by, none_at}
use Rattle.verdict.proofs.missing.none_at.Goals as goal

-- the word is told by the holds there
told : (s : Set) (w : ℕ) → well_formed s ≡ true → (h x : Holds) → h ≡ holds_at s w → h ≡ x → none_by w x ≡ none_at s w
unfolding none_at
told s w ok h x eh ex = ap (none_by w) (sym ex ∙ eh ∙ holds_at_law s ok w)

pub returns-in-Forced : goal.returns-in-Forced
returns-in-Forced c =
    let h = c in
    let s = h in
    told s.args.set.now s.args.w s.requires h.hold-holds.result _ h.hold-holds.ensures c.in-Forced.is

pub returns-in-Clash : goal.returns-in-Clash
returns-in-Clash c =
    let k = c in
    let h = k in
    let s = h in
    told s.args.set.now s.args.w s.requires h.hold-holds.result _ h.hold-holds.ensures k.in-Clash.is
