-- The scan machine: what a scan refuses, and what it answers.
-- Assumes nothing.
use Rattle.std.specs.Prelude.{ℕ, ◌^◌, Bool, true, cond, not, ◌&&◌, [], ◌∷◌, eqb, ltb}
use Rattle.std.specs.Int.Bits.{bit_and}
use Rattle.words.specs.Loop.{every, word}
use Rattle.scan.specs.declared.set.Set.{Set}
use Rattle.scan.specs.declared.set.State.{State}
use Rattle.scan.specs.declared.walk.Walk.{Walk}
use Rattle.scan.specs.declared.walk.Walk.TheVariants.{Safe, Never}
use Rattle.machine.specs.declared.machine.ScanAnswer.{ScanAnswer}
use Rattle.machine.specs.declared.machine.ScanAnswer.TheVariants.{Sent, BadState, BadSensor, BadRequest, Unsafe}
use Rattle.machine.specs.declared.machine.Scanned.{Scanned}
use Rattle.scan.specs.Set.{kind, state_of}
use Rattle.scan.specs.Shape.{is_sensor, well_formed}
use Rattle.scan.specs.Walk.{walk}
use Rattle.machine.specs.Past.{sensor_before, read_word}

-- not 30: the set is well formed, the past output word has n bits and the past sensor word r bits, also where it is not read
unfoldable pub state_ok : State → Bool
state_ok st = every (well_formed st.set ∷ ltb st.past_output (2 ^ st.set.n) ∷ ltb st.past_sensor (2 ^ st.set.r) ∷ [])

-- read point k is a past point
unfoldable pub is_past : Set → ℕ → Bool
is_past s k = not (is_sensor (kind s k))

-- not 31: the sensor word has r bits, and none at a past point
unfoldable pub sensor_ok : Set → ℕ → Bool
sensor_ok s present = ltb present (2 ^ s.r) && eqb (bit_and present (word s.r (is_past s))) 0

-- not 32: the request has n bits
unfoldable pub request_ok : Set → ℕ → Bool
request_ok s request = ltb request (2 ^ s.n)

-- a refusal: its answer, and the state as it was
abbrev pub refused : State → ScanAnswer → Scanned
refused st a = record { answer = a; state = st }

-- the vector and the passes, with the next state, which says that a scan was accepted; or 33
abbrev pub sending : State → ℕ → Walk → Scanned
sending st present (Safe v made) = record { answer = Sent v made; state = state_of st.set v present true }
sending st present Never = refused st Unsafe

-- a scan of a state, with a sensor word and a request
unfoldable pub scan_of : State → ℕ → ℕ → Scanned
scan_of st present request =
    let s = st.set in
    let past = sensor_before st.accepted st.past_sensor present in
    let go = sending st present (walk s (read_word s st.past_output past present) request) in
    cond (not (state_ok st)) (refused st BadState)
    (cond (not (sensor_ok s present)) (refused st BadSensor)
    (cond (not (request_ok s request)) (refused st BadRequest) go))
