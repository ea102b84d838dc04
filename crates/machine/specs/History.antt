-- Lists of scans, document 01's "Scan machine": what a scan in a list is due, told from the started set and the calls alone.
-- Assumes nothing.
use Rattle.std.specs.Prelude.{◌≡◌, ◌↔◌, ℕ, ◌≤◌, Bool, true, false, cond, ◌&&◌, ◌||◌, List, [], ◌∷◌}
use Rattle.scan.specs.declared.set.Set.{Set}
use Rattle.scan.specs.declared.set.State.{State}
use Rattle.machine.specs.declared.machine.ScanAnswer.{ScanAnswer}
use Rattle.scan.specs.Set.{state_of}
use Rattle.scan.specs.Constraint.{safe}
use Rattle.scan.specs.Holds.{pass_limit}
use Rattle.scan.specs.Walk.{passes_due, vector_due, FirstSafe}
use Rattle.machine.specs.Past.{sensor_before, read_word}
use Rattle.machine.specs.Machine.{sensor_ok, request_ok, scan_of}
use Rattle.machine.specs.Told.{scan_told}

-- a scan's two words
pub record Call : Type 0 where
  pub sensor : ℕ
  pub request : ℕ

-- the words of a scan are allowed
unfoldable pub allowed : Set → Call → Bool
allowed s c = sensor_ok s c.sensor && request_ok s c.request

-- a scan was accepted before a call, told from the calls before it: one of them is allowed
unfoldable pub any_allowed : Set → List Call → Bool
any_allowed s [] = false
any_allowed s (b ∷ before) = allowed s b || any_allowed s before

-- The past sensor word that a call finds, told from the calls before it, the last one first: that of the last one that is allowed; a start's,
-- 0, where there is none.
unfoldable pub past_sensor_after : Set → List Call → ℕ
past_sensor_after s [] = 0
past_sensor_after s (b ∷ before) = cond (allowed s b) b.sensor (past_sensor_after s before)

-- the past sensor word that a call reads: its own sensor word where no call before it is allowed, else the one that it finds
unfoldable pub sensor_read : Set → List Call → Call → ℕ
sensor_read s before c = sensor_before (any_allowed s before) (past_sensor_after s before) c.sensor

-- the past output word that a call finds: the vector due in the last one before it that is allowed; a start's, the rest word of the set, where there
-- is none
unfoldable pub past_output_after : Set → List Call → ℕ
past_output_after s [] = s.rest
past_output_after s (b ∷ before) =
    let due = vector_due s (read_word s (past_output_after s before) (sensor_read s before b) b.sensor) b.request in
    cond (allowed s b) due (past_output_after s before)

-- the read word of a call in a list
unfoldable pub read_after : Set → List Call → Call → ℕ
read_after s before c = read_word s (past_output_after s before) (sensor_read s before c) c.sensor

-- the state that a list of calls leads to from a start of the set, the last call first
abbrev pub state_after : Set → List Call → State
state_after s before = state_of s (past_output_after s before) (past_sensor_after s before) (any_allowed s before)

-- ---- running a list: each scan is handed the state that the one before it returned

-- the answers
unfoldable pub run : State → List Call → List ScanAnswer
run st [] = []
run st (c ∷ calls) = let r = scan_of st c.sensor c.request in r.answer ∷ run r.state calls

-- the state after the last
unfoldable pub run_state : State → List Call → State
run_state st [] = st
run_state st (c ∷ calls) = run_state (scan_of st c.sensor c.request).state calls

-- the calls before, the last one first, with a list of later ones behind them
abbrev pub followed : List Call → List Call → List Call
followed before [] = before
followed before (c ∷ calls) = followed (c ∷ before) calls

-- ---- what is promised of a list

-- an allowed scan at the read word w: it sends the vector due and reports the passes made, at most 2 ^ f - 1; the vector due is the walk's
-- first safe one, and is the request untouched exactly when the request makes no constraint true
pub record Sends (s : Set) (w request : ℕ) (a : ScanAnswer) : Type 0 where
  pub answers : scan_told a ≡ 0 ∷ vector_due s w request ∷ passes_due s w request ∷ []
  pub first_safe : FirstSafe s w request (passes_due s w request)
  pub within : passes_due s w request ≤ pass_limit s w
  pub untouched : (vector_due s w request ≡ request) ↔ (safe s w request ≡ true)

-- one scan of a list, after the calls before it, the last one first: refused exactly when its words are not allowed
pub record Right (s : Set) (before : List Call) (c : Call) (a : ScanAnswer) : Type 0 where
  pub refuses_sensor : sensor_ok s c.sensor ≡ false → scan_told a ≡ 31 ∷ []
  pub refuses_request : sensor_ok s c.sensor ≡ true → request_ok s c.request ≡ false → scan_told a ≡ 32 ∷ []
  pub sends : allowed s c ≡ true → Sends s (read_after s before c) c.request a

-- every scan of a list is right, with an answer to each call and no more
abbrev pub AllRight : Set → List Call → List Call → List ScanAnswer → Type 0
AllRight s before [] [] = Unit {0}
AllRight s before [] (a ∷ answers) = ⊥
AllRight s before (c ∷ calls) [] = ⊥
AllRight s before (c ∷ calls) (a ∷ answers) = Right s before c a × AllRight s (c ∷ before) calls answers
