-- The start: what the verdict says, and a state of the set that it judged.
-- Assumes nothing.
use Rattle.std.specs.Prelude.{ℕ}
use Rattle.scan.specs.declared.set.Set.{Set}
use Rattle.scan.specs.declared.set.State.{State}
use Rattle.scan.specs.Set.{fresh_state, zero_state}
use Rattle.verdict.specs.declared.verdict.Verdict.{Verdict}
use Rattle.verdict.specs.declared.verdict.Verdict.TheVariants.{Accepted, BadSet, ShortScratch, NoVector, Clash, NoEnd}
use Rattle.start.specs.declared.starting.Started.{Started}
use Rattle.verdict.specs.Judge.{judge_of}

-- if the set is accepted, its state with its rest word as the past output word, past sensor word 0 and no scan accepted yet; else the state with every
-- field zero
abbrev pub start_state : Set → Verdict → State
start_state s Accepted = fresh_state s
start_state s BadSet = zero_state
start_state s ShortScratch = zero_state
start_state s (NoVector w) = zero_state
start_state s (Clash w k) = zero_state
start_state s (NoEnd w g) = zero_state

-- the verdict, and the state
unfoldable pub start_of : Set → ℕ → Started
start_of s room = record { verdict = judge_of s room; state = start_state s (judge_of s room) }
