-- `start::starting::state_of` meets its contract. Assumes nothing.
use mathlib.Core.Path.{◌≡◌, refl, sym, ap, ◌∙◌}
use Rattle.scan.specs.declared.set.Set.{Set}
use Rattle.scan.specs.Set.{zero_set, fresh_state, zero_state}
use Rattle.verdict.specs.declared.verdict.Verdict.{Verdict}
use Rattle.verdict.specs.declared.verdict.Verdict.TheVariants.{Accepted, BadSet, ShortScratch, NoVector, Clash, NoEnd}
use Rattle.start.specs.Start.{start_state}
use Rattle.start.proofs.starting.state_of.Goals as goal

-- acceptance leads to a fresh state
accepted : (s : Set) (v : Verdict) → v ≡ Accepted → fresh_state s ≡ start_state s v
accepted s v e = ap (start_state s) (sym e)

-- the zero set's rest word is 0
zero_fresh : fresh_state zero_set ≡ zero_state
unfolding zero_set
zero_fresh = refl

-- any verdict but acceptance leads to the zero state
rejected : (s : Set) (v : Verdict) → (v ≡ Accepted → ⊥) → zero_state ≡ start_state s v
rejected s Accepted h = absurd (h refl)
rejected s BadSet h = refl
rejected s ShortScratch h = refl
rejected s (NoVector w) h = refl
rejected s (Clash w k) h = refl
rejected s (NoEnd w g) h = refl

pub returns-in-Accepted : goal.returns-in-Accepted
returns-in-Accepted c =
    let a = c.args in
    c.fresh.ensures ∙ accepted a.set a.verdict c.in-Accepted.is

pub returns : goal.returns
returns c =
    let m = c in
    let a = m.args in
    c.fresh-2.ensures ∙ ap fresh_state c.zero_set.ensures ∙ zero_fresh ∙ rejected a.set a.verdict c.in_default.not-Accepted
