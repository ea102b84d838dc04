-- Scans and lists of scans, document 01's "Scan machine": what a scan sends, and what a scan in a list is due, told from the started set and the
-- calls alone.
-- Assumes nothing.
use Rattle.std.specs.Prelude.{◌≡◌, true, false, List, [], ◌∷◌, ◌⊎◌, ◌↔◌, ℕ, ◌-◌, ◌^◌, ◌≤◌, ◌<◌}
use Rattle.scan.specs.declared.set.Set.{Set}
use Rattle.scan.specs.declared.set.State.{State}
use Rattle.scan.specs.Set.{kind}
use Rattle.scan.specs.Walk.{after, passes_due, vector_due}
use Rattle.machine.specs.declared.machine.ScanAnswer.{ScanAnswer}
use Rattle.machine.specs.Told.{scan_told}
use Rattle.machine.specs.History.{Call, read_after}
use Rattle.promise.specs.Terms.{Bit, Safe, IsUnheldCount, BitRead, state_with}
use Rattle.promise.specs.Allowed.{SensorAllowed, RequestAllowed}

-- ---- one scan

-- at the read word w: it sends the vector due and reports the passes made
pub record SendsDue (s : Set) (w request : ℕ) (a : ScanAnswer) : Type 0 where
  pub answers : scan_told a ≡ 0 ∷ vector_due s w request ∷ passes_due s w request ∷ []
  -- the vector due is the walk's vector after those passes; it makes no constraint true, and every one before it makes one true
  pub vector : vector_due s w request ≡ after s w request (passes_due s w request)
  pub safe : Safe s w (vector_due s w request)
  pub first : (j : ℕ) → j < passes_due s w request → ¬ Safe s w (after s w request j)
  -- it has bits at outputs only
  pub fits : vector_due s w request < 2 ^ s.n
  -- at most 2 ^ f - 1 passes, f being the number of outputs that no simple constraint holds in that scan
  pub few : (f : ℕ) × IsUnheldCount s w f × (passes_due s w request ≤ 2 ^ f - 1)
  -- it is the request untouched exactly when the request makes no constraint true
  pub untouched : (vector_due s w request ≡ request) ↔ Safe s w request

-- ---- the calls before a scan, the last one first

-- the words of a call are allowed
abbrev pub CallAllowed : Set → Call → Type 0
CallAllowed s c = SensorAllowed s c.sensor × RequestAllowed s c.request

-- b is the last of them whose words are allowed, and `earlier` are the calls before it
abbrev pub LastAllowed : Set → List Call → Call → List Call → Type 0
LastAllowed s [] b earlier = ⊥
LastAllowed s (x ∷ before) b earlier = (CallAllowed s x × (x ≡ b) × (before ≡ earlier)) ⊎ ((¬ CallAllowed s x) × LastAllowed s before b earlier)

-- the words of none are allowed
abbrev pub NoneAllowed : Set → List Call → Type 0
NoneAllowed s [] = Unit {0}
NoneAllowed s (x ∷ before) = (¬ CallAllowed s x) × NoneAllowed s before

-- the vector due in a call, behind the calls before it
abbrev pub due_after : Set → List Call → Call → ℕ
due_after s before c = vector_due s (read_after s before c) c.request

-- The read word of a call in a list: its own sensor word, and at a past point the bit that its index names in the vector due, or in the sensor
-- word, of the last earlier call whose words are allowed; where there is none, a start's past output word, which is the set's rest word, and for a
-- past sensor the call's own sensor word: it reads as the sensor does now.
pub record ReadsOfList (s : Set) (before : List Call) (c : Call) : Type 0 where
  pub last : (b : Call) (earlier : List Call) → LastAllowed s before b earlier → (k : ℕ) → k < s.r
      → Bit k (read_after s before c) ↔ BitRead (kind s k) (due_after s earlier b) b.sensor c.sensor k
  pub none : NoneAllowed s before → (k : ℕ) → k < s.r → Bit k (read_after s before c) ↔ BitRead (kind s k) s.rest c.sensor c.sensor k
  pub above : (k : ℕ) → s.r ≤ k → ¬ Bit k (read_after s before c)

-- ---- a list of scans from a start

-- one scan, after the calls before it: refused exactly when its words are not allowed, with the number; any other sends the vector due
pub record RightScan (s : Set) (before : List Call) (c : Call) (a : ScanAnswer) : Type 0 where
  pub refuses_sensor : (scan_told a ≡ 31 ∷ []) ↔ (¬ SensorAllowed s c.sensor)
  pub refuses_request : (scan_told a ≡ 32 ∷ []) ↔ (SensorAllowed s c.sensor × (¬ RequestAllowed s c.request))
  pub sends : CallAllowed s c → SendsDue s (read_after s before c) c.request a
  pub reads : ReadsOfList s before c

-- every scan of a list, with an answer to each call and no more
abbrev pub EveryRight : Set → List Call → List Call → List ScanAnswer → Type 0
EveryRight s before [] [] = Unit {0}
EveryRight s before [] (a ∷ answers) = ⊥
EveryRight s before (c ∷ calls) [] = ⊥
EveryRight s before (c ∷ calls) (a ∷ answers) = RightScan s before c a × EveryRight s (c ∷ before) calls answers

-- the state after the calls: the set, with the vector due and the sensor word of the last one that is allowed, and the mark that says so; a start's
-- where there is none
pub record StateOfList (s : Set) (before : List Call) (st : State) : Type 0 where
  pub last : (b : Call) (earlier : List Call) → LastAllowed s before b earlier → st ≡ state_with s (due_after s earlier b) b.sensor true
  pub none : NoneAllowed s before → st ≡ state_with s s.rest 0 false
