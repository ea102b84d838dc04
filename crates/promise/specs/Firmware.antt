-- Beyond document 01: the filter linked into firmware. By their contracts the functions that C calls compute what stands here: `rsf_load` computes `load_file`, `rsf_judge`
-- `judge_file`, `rsf_start` `start_file`, `rsf_scan` `scan_file` and `rsf_find` `find_file`; `rsf_prepare` computes `load_file` and leaves `bytes_of` of the file's set, and
-- `rsf_scan_prepared` computes `scan_prepared`. What their structs hold is said by what the operations of document 01 tell of the set that the file holds: the number of a
-- refusal, 0 for none, and the values.
-- Assumes nothing.
use Rattle.std.specs.Prelude.{◌≡◌, Bool, true, false, List, [], ◌∷◌, ◌↔◌, ◌≢◌, ℕ, zero, suc, ◌≤◌}
use Rattle.scan.specs.declared.set.Set.{Set}
use Rattle.scan.specs.declared.set.State.{State}
use Rattle.shape.specs.Finding.{find_of}
use Rattle.shape.specs.Told.{find_told}
use Rattle.machine.specs.declared.machine.ScanAnswer.{ScanAnswer}
use Rattle.machine.specs.Machine.{scan_of}
use Rattle.machine.specs.Told.{scan_told}
use Rattle.machine.specs.History.{Call, run, run_state, followed}
use Rattle.verdict.specs.Judge.{judge_of}
use Rattle.verdict.specs.Told.{verdict_told}
use Rattle.header.specs.Bytes.{Bytes}
use Rattle.loader.specs.Load.{load_of}
use Rattle.loader.specs.Told.{load_told}
use Rattle.prepared.specs.Put.{bytes_of}
use Rattle.prepared.specs.Said.{set_said}
use Rattle.firmware.specs.declared.past.Past.{Past}
use Rattle.firmware.specs.declared.judging.VerdictResult.{VerdictResult}
use Rattle.firmware.specs.declared.scanning.ScanResult.{ScanResult}
use Rattle.firmware.specs.declared.finding.FindResult.{FindResult}
use Rattle.firmware.specs.Loading.{load_file}
use Rattle.firmware.specs.Judging.{judge_file}
use Rattle.firmware.specs.Starting.{start_file}
use Rattle.firmware.specs.Scanning.{scan_file}
use Rattle.firmware.specs.Preparing.{scan_prepared}
use Rattle.firmware.specs.Finding.{find_file}
use Rattle.promise.specs.Terms.{state_with}
use Rattle.promise.specs.Scans.{RightScan, StateOfList}

-- ---- a set is its file, and a state is the file and the past

-- the set of a file; where the file does not load the set with every field zero
abbrev pub set_in : List ℕ → Set
set_in file = (load_of file).set

-- a mark's byte: any but 0 says yes
abbrev pub mark_of : ℕ → Bool
mark_of zero = false
mark_of (suc k) = true

-- the state of a set with a past, whatever stands in either
abbrev pub state_by : Set → Past → State
state_by s p = state_with s p.output p.sensor (mark_of p.accepted)

-- of a file
abbrev pub state_in : List ℕ → Past → State
state_in file p = state_by (set_in file) p

-- ---- one call: each struct holds the number and the values that are told, and 0 in the places of values that are not there

-- `rsf_load`, of any file
pub record LoadSays (file : List ℕ) : Type 0 where
  -- a file that loads: the counts of its set
  pub loaded : Bytes file → load_told (load_of file).answer ≡ 0 ∷ [] → load_file file ≡ record { number = 0; r = (set_in file).r; n = (set_in file).n; m = (set_in file).m; offset = 0 }
  -- one that does not: the number and the offset
  pub refused : (c o : ℕ) → load_told (load_of file).answer ≡ c ∷ o ∷ [] → load_file file ≡ record { number = c; r = 0; n = 0; m = 0; offset = o }
  -- 0 says that it loads: no refusal has that number
  pub good : ((load_file file).number ≡ 0) ↔ (load_told (load_of file).answer ≡ 0 ∷ [])

-- a verdict
pub record VerdictSays (told : List ℕ) (x : VerdictResult) : Type 0 where
  pub accepted : told ≡ 0 ∷ [] → x ≡ record { number = 0; output = 0; request = 0; word = 0 }
  pub not_formed : told ≡ 20 ∷ [] → x ≡ record { number = 20; output = 0; request = 0; word = 0 }
  pub short : told ≡ 21 ∷ [] → x ≡ record { number = 21; output = 0; request = 0; word = 0 }
  pub no_vector : (w : ℕ) → told ≡ 22 ∷ w ∷ [] → x ≡ record { number = 22; output = 0; request = 0; word = w }
  pub clash : (w k : ℕ) → told ≡ 58 ∷ w ∷ k ∷ [] → x ≡ record { number = 58; output = k; request = 0; word = w }
  pub no_end : (w g : ℕ) → told ≡ 23 ∷ w ∷ g ∷ [] → x ≡ record { number = 23; output = 0; request = g; word = w }
  -- 0 says that the set is accepted
  pub good : (x.number ≡ 0) ↔ (told ≡ 0 ∷ [])

-- `rsf_start`, of any file, with scratch of any size
pub record StartSays (file : List ℕ) (room : ℕ) : Type 0 where
  -- it says what `rsf_judge` says
  pub says : (start_file file room).verdict ≡ judge_file file room
  -- the past for the first scan: the rest word of the file's set, and no scan accepted; zeros where the set is rejected
  pub gives : (judge_file file room).number ≡ 0 → (start_file file room).past ≡ record { output = (set_in file).rest; accepted = 0; sensor = 0 }
  pub refuses : (judge_file file room).number ≢ 0 → (start_file file room).past ≡ record { output = 0; accepted = 0; sensor = 0 }

-- an answer to a scan
pub record AnswerSays (told : List ℕ) (x : ScanResult) : Type 0 where
  pub sent : (v k : ℕ) → told ≡ 0 ∷ v ∷ k ∷ [] → (x.number ≡ 0) × (x.vector ≡ v) × (x.passes ≡ k)
  pub refused : (c : ℕ) → told ≡ c ∷ [] → (x.number ≡ c) × (c ≢ 0) × (x.vector ≡ 0) × (x.passes ≡ 0)

-- a scan of any set and any past, with any words
pub record ScanSays (s : Set) (p : Past) (sensor request : ℕ) (x : ScanResult) : Type 0 where
  pub says : AnswerSays (scan_told (scan_of (state_by s p) sensor request).answer) x
  -- with the past that it returns the set is the next state
  pub next : state_by s x.past ≡ (scan_of (state_by s p) sensor request).state
  -- a refused scan returns the past as it was; of a mark it returns 0 or 1
  pub kept : x.number ≢ 0 → state_by s x.past ≡ state_by s p
  pub as_it_was : x.number ≢ 0 → p.accepted ≤ 1 → x.past ≡ p

-- what `rsf_find` found
pub record FindSays (told : List ℕ) (x : FindResult) : Type 0 where
  pub read : (k : ℕ) → told ≡ 0 ∷ 0 ∷ k ∷ [] → x ≡ record { number = 0; output = 0; point = k }
  pub output : (j : ℕ) → told ≡ 0 ∷ 1 ∷ j ∷ [] → x ≡ record { number = 0; output = 1; point = j }
  pub refused : (c : ℕ) → told ≡ c ∷ [] → (c ≢ 0) × (x ≡ record { number = c; output = 0; point = 0 })

-- ---- lists of calls: each `rsf_scan` is handed the past that the one before it returned, and the same file

-- what they answer
unfoldable pub answers_of : List ℕ → Past → List Call → List ScanResult
answers_of file p [] = []
answers_of file p (c ∷ calls) = let x = scan_file file p c.sensor c.request in x ∷ answers_of file x.past calls

-- the past that the last of them returned
unfoldable pub past_after : List ℕ → Past → List Call → Past
past_after file p [] = p
past_after file p (c ∷ calls) = past_after file (scan_file file p c.sensor c.request).past calls

-- each result holds the answer
abbrev pub EachSays : List ScanAnswer → List ScanResult → Type 0
EachSays [] [] = Unit {0}
EachSays [] (x ∷ results) = ⊥
EachSays (a ∷ answers) [] = ⊥
EachSays (a ∷ answers) (x ∷ results) = AnswerSays (scan_told a) x × EachSays answers results

-- each result holds a right answer, as demand 3 has it: with the numbers of refusals, the first safe vector of the walk and its passes
abbrev pub EachRight : Set → List Call → List Call → List ScanResult → Type 0
EachRight s before [] [] = Unit {0}
EachRight s before [] (x ∷ results) = ⊥
EachRight s before (c ∷ calls) [] = ⊥
EachRight s before (c ∷ calls) (x ∷ results) = ((a : ScanAnswer) × RightScan s before c a × AnswerSays (scan_told a) x) × EachRight s (c ∷ before) calls results

-- no result has this number
abbrev pub NeverNumber : ℕ → List ScanResult → Type 0
NeverNumber number [] = Unit {0}
NeverNumber number (x ∷ results) = (x.number ≢ number) × NeverNumber number results

-- A caller that hands on the past hands on the state: for any file, accepted or not, and any past to begin with.
pub record HandsOn (file : List ℕ) (p : Past) (calls : List Call) : Type 0 where
  pub answers : EachSays (run (state_in file p) calls) (answers_of file p calls)
  pub state : state_in file (past_after file p calls) ≡ run_state (state_in file p) calls

-- Demand 3 over files: every list of calls from the past of an accepted start.
pub record RightCalls (file : List ℕ) (room : ℕ) (calls : List Call) : Type 0 where
  -- the file loads
  pub loads : (load_file file).number ≡ 0
  pub answers : EachRight (set_in file) [] calls (answers_of file (start_file file room).past calls)
  pub state : StateOfList (set_in file) (followed [] calls) (state_in file (past_after file (start_file file room).past calls))
  pub never_30 : NeverNumber 30 (answers_of file (start_file file room).past calls)
  pub never_33 : NeverNumber 33 (answers_of file (start_file file room).past calls)

-- What is promised of the functions that C calls.
pub record Firmware : Type 0 where
  pub load : (file : List ℕ) → LoadSays file
  pub judge : (file : List ℕ) (room : ℕ) → VerdictSays (verdict_told (judge_of (set_in file) room)) (judge_file file room)
  pub start : (file : List ℕ) (room : ℕ) → StartSays file room
  pub scan : (file : List ℕ) (p : Past) (sensor request : ℕ) → ScanSays (set_in file) p sensor request (scan_file file p sensor request)
  pub find : (file name : List ℕ) → FindSays (find_told (find_of (set_in file) name)) (find_file file name)
  pub hands_on : (file : List ℕ) (p : Past) (calls : List Call) → HandsOn file p calls
  -- what is prepared of a file is scanned as the file is; any other bytes are scanned as the set that they say
  pub prepared : (file : List ℕ) → Bytes file → (p : Past) (sensor request : ℕ) → scan_prepared (bytes_of (set_in file)) p sensor request ≡ scan_file file p sensor request
  pub any_bytes : (bytes : List ℕ) (p : Past) (sensor request : ℕ) → ScanSays (set_said bytes) p sensor request (scan_prepared bytes p sensor request)
  pub calls : (file : List ℕ) (room : ℕ) → (start_file file room).verdict.number ≡ 0 → (calls : List Call) → RightCalls file room calls
