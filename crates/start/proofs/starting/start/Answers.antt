-- `start::starting::start` meets its contract. Assumes nothing.
use mathlib.Core.Path.{◌≡◌, ap, ◌∙◌}
use Prim.Native.Nat.{ℕ}
use Rattle.scan.specs.declared.set.Set.{Set}
use Rattle.scan.specs.declared.set.State.{State}
use Rattle.verdict.specs.declared.verdict.Verdict.{Verdict}
use Rattle.start.specs.declared.starting.Started.{Started}
use Rattle.verdict.specs.Judge.{judge_of}
use Rattle.start.specs.Start.{start_state, start_of}
use Rattle.start.proofs.starting.start.Goals as goal

started : (s : Set) (room : ℕ) (v : Verdict) (st : State) → v ≡ judge_of s room → st ≡ start_state s v → ◌≡◌ {A = Started} (record { verdict = v; state = st }) (start_of s room)
unfolding start_of
started s room v st ev es = λ i. record { verdict = ev i; state = (es ∙ ap (start_state s) ev) i }

pub returns : goal.returns
returns c =
    let j = c in
    let a = j.args in
    record { value = started a.set _ j.judge-verdict.result c.state_of-state.result j.judge-verdict.ensures.value c.state_of-state.ensures; scratch_unchanged = j.judge-verdict.ensures.scratch_unchanged }
