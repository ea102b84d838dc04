-- The past: what a state has beside its set, and how it crosses to C.
-- Assumes nothing.
use Rattle.std.specs.Prelude.{ℕ, not, cond, List, eqb}
use Rattle.scan.specs.declared.set.Set.{Set}
use Rattle.scan.specs.declared.set.State.{State}
use Rattle.scan.specs.Set.{state_of}
use Rattle.loader.specs.Load.{load_of}
use Rattle.firmware.specs.declared.past.Past.{Past}

-- the set of a file: where the file does not load the zero set, which is not well formed
abbrev pub set_in : List ℕ → Set
set_in file = (load_of file).set

-- a state: the set, with the past; any byte but 0 says that a scan was accepted
abbrev pub with_past : Set → Past → State
with_past s p = state_of s p.output p.sensor (not (eqb p.accepted 0))

-- the past of a state; 1 says that a scan was accepted
abbrev pub past_of : State → Past
past_of st = record { output = st.past_output; accepted = cond st.accepted 1 0; sensor = st.past_sensor }
