-- Change request K2, no rising edge on power-up: a state's mark says whether a scan was accepted since its start, and until one is, a past sensor reads
-- as the sensor does now. Said of every state, a start's or made by hand, and of the lists of demand 3.
-- Assumes nothing.
use Rattle.std.specs.Prelude.{◌≡◌, true, false, List, [], ◌∷◌, ◌⊎◌, ◌↔◌, ℕ, ◌^◌, ◌<◌}
use Rattle.scan.specs.declared.set.Kind.TheVariants.{PastSensor}
use Rattle.scan.specs.declared.set.Constraint.{Constraint}
use Rattle.scan.specs.declared.set.Set.{Set}
use Rattle.scan.specs.declared.set.State.{State}
use Rattle.scan.specs.Set.{kind}
use Rattle.scan.specs.Shape.{well_formed}
use Rattle.machine.specs.declared.machine.ScanAnswer.{ScanAnswer}
use Rattle.machine.specs.Machine.{scan_of}
use Rattle.machine.specs.Told.{scan_told}
use Rattle.machine.specs.History.{Call, read_after, run, run_state}
use Rattle.promise.specs.Terms.{Bit, ReadsTrue, state_with}
use Rattle.promise.specs.Allowed.{word_of}
use Rattle.promise.specs.Scans.{LastAllowed, NoneAllowed}

-- read point k is the past of sensor i
abbrev pub PastOf : Set → ℕ → ℕ → Type 0
PastOf s k i = (k < s.r) × (kind s k ≡ PastSensor i)

-- at the read word w each past sensor has the bit that its index names in this sensor word
abbrev pub PastSensorsRead : Set → ℕ → ℕ → Type 0
PastSensorsRead s w sensor = (k i : ℕ) → PastOf s k i → Bit k w ↔ Bit i sensor

-- a constraint asks for an edge: it names a sensor and its past, one of them plain and the other negated
abbrev pub AsksEdge : Set → Constraint → Type 0
AsksEdge s c =
    (k : ℕ) × (i : ℕ) × PastOf s k i
    × ((Bit i c.read_plain × Bit k c.read_negated) ⊎ (Bit i c.read_negated × Bit k c.read_plain))

-- The read word w, with this sensor word, shows no edge.
pub record NoEdge (s : Set) (w present : ℕ) : Type 0 where
  -- a past sensor reads as the sensor does now
  pub now : PastSensorsRead s w present
  -- so that in a well-formed set a constraint that asks for an edge, rising or falling, has a read literal that is false
  pub none : well_formed s ≡ true → (c : Constraint) → AsksEdge s c → ¬ ReadsTrue c w

-- an answer that is no refusal
abbrev pub IsSent : ScanAnswer → Type 0
IsSent a = (v : ℕ) × (k : ℕ) × (scan_told a ≡ 0 ∷ v ∷ k ∷ [])

-- some answer of the list is no refusal
abbrev pub SomeSent : List ScanAnswer → Type 0
SomeSent [] = ⊥
SomeSent (a ∷ answers) = IsSent a ⊎ SomeSent answers

-- What is promised.
pub record PowerUp : Type 0 where
  -- after any list of scans of any state, the mark says that a scan was accepted exactly when it said so before or some scan of the list was
  pub mark : (st : State) (calls : List Call) → ((run_state st calls).accepted ≡ true) ↔ ((st.accepted ≡ true) ⊎ SomeSent (run st calls))
  -- a scan of any state that says no shows no edge
  pub state_no_edge : (st : State) (present : ℕ) → st.accepted ≡ false → NoEdge st.set (word_of st present) present
  -- such a state's past sensor word changes no answer of any list of scans, if it has r bits
  pub unread : (s : Set) (output x y : ℕ) → x < 2 ^ s.r → y < 2 ^ s.r → (calls : List Call)
      → run (state_with s output x false) calls ≡ run (state_with s output y false) calls
  -- behind an accepted scan, of any state, the next reads that one's sensor word
  pub state_next : (st : State) (present request : ℕ) → IsSent (scan_of st present request).answer → (later : ℕ)
      → PastSensorsRead st.set (word_of (scan_of st present request).state later) present
  -- in a list from a start, a scan before which none is allowed shows no edge
  pub list_no_edge : (s : Set) (before : List Call) → NoneAllowed s before → (c : Call) → NoEdge s (read_after s before c) c.sensor
  -- and any other reads the sensor word of the last one that is allowed: the second that is accepted reads the first's
  pub list_next : (s : Set) (before : List Call) (b : Call) (earlier : List Call) → LastAllowed s before b earlier → (c : Call)
      → PastSensorsRead s (read_after s before c) b.sensor
