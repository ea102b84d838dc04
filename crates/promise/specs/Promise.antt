-- The customer's demands. The contracts of the code say that it computes the definitions that stand here: `load_of` is loading; `write_answer` and
-- `buffer_after` are writing, and `write_of` is the file of a set; `judge_of` is the verdict, and `loose_bytes` says how many bytes of its scratch
-- are free afterwards; `start_of` is the start, `scan_of` the scan, `find_of` finding. `load_told`, `write_told`, `verdict_told`, `scan_told` and
-- `find_told` give document 01's number of an answer, 0 for one that is no refusal, with its values.
-- What the demands say of these is said in document 01's own terms, in bits, bytes and numbers (specs/Terms, Allowed, Verdicts, Scans, Column); where
-- they name a definition that the code meets too (`after`, `vector_due`, `passes_due`, `word_of`, `read_after`), specs/Meanings and specs/Scans say what it
-- is; specs/PowerUp has change request K2, specs/OneGroup K5, specs/RestWord K6, specs/OneBit K8, specs/Clash K10; and specs/FileSays says what stands in a file.
-- Every call ends: a function of Rattle that is proved returns.
-- Assumes nothing.
use Rattle.std.specs.Prelude.{◌≡◌, true, false, List, [], ◌∷◌, ◌++◌, ◌↔◌, ◌≢◌, ◌⊎◌, ℕ, ◌^◌, ◌≤◌, ◌<◌, length, take, drop}
use Rattle.scan.specs.declared.set.Set.{Set}
use Rattle.scan.specs.declared.set.State.{State}
use Rattle.scan.specs.Shape.{well_formed}
use Rattle.scan.specs.Walk.{vector_due}
use Rattle.shape.specs.Finding.{find_of}
use Rattle.machine.specs.Machine.{scan_of}
use Rattle.machine.specs.Told.{scan_told}
use Rattle.shape.specs.Told.{find_told}
use Rattle.machine.specs.History.{Call, run, run_state, followed}
use Rattle.verdict.specs.Judge.{scratch_bytes, judge_of, loose_bytes}
use Rattle.start.specs.Start.{start_of}
use Rattle.verdict.specs.Told.{verdict_told}
use Rattle.header.specs.Bytes.{Bytes}
use Rattle.loader.specs.Load.{load_of}
use Rattle.header.specs.Test.{FirstFails, NoneFails}
use Rattle.promise.specs.Column.{load_tests}
use Rattle.writer.specs.Write.{write_of, write_answer, buffer_after}
use Rattle.loader.specs.Told.{load_told}
use Rattle.writer.specs.Told.{write_told}
use Rattle.promise.specs.Terms.{BothWays, state_with}
use Rattle.promise.specs.Zero.{all_zero_set, all_zero_state}
use Rattle.promise.specs.Allowed.{StateAllowed, SensorAllowed, RequestAllowed, word_of, read_name, output_name, LengthAllowed, NameBytes, NoPoint}
use Rattle.promise.specs.Meanings.{Meanings, ReadsMean, NameBytesMean, SameButLoneRanks, LoneRanksUnread}
use Rattle.promise.specs.FileSays.{FileSays}
use Rattle.promise.specs.Lines.{LineSays}
use Rattle.promise.specs.Texts.{Texts}
use Rattle.promise.specs.Firmware.{Firmware}
use Rattle.promise.specs.Verdicts.{EndsSafe, GoodWord, BadWord, FirstNoVector, FirstNoEnd}
use Rattle.promise.specs.Clash.{LowestClash, NoClash, Reckoning, ClashNamed}
use Rattle.promise.specs.OneGroup.{OneGroup}
use Rattle.promise.specs.OneBit.{ScratchSize, OneBit, ByEights}
use Rattle.promise.specs.Scans.{SendsDue, EveryRight, StateOfList}
use Rattle.promise.specs.NeverTold.{NeverTold}
use Rattle.promise.specs.PowerUp.{PowerUp}
use Rattle.promise.specs.RestWord.{RestWord}
use Rattle.promise.specs.FilesOfToday.{FilesOfToday}
use Rattle.promise.specs.OneWord.{ByActive}

-- ---- demand 1: what is turned down, by which number, and what is left as it was

-- Loading any list of numbers.
pub record LoadRefusals (file : List ℕ) : Type 0 where
  -- it is refused with a number and an offset exactly when the first test that fails, front to back and in each field the lower number first,
  -- has them: `load_tests` is the column of all tests
  pub refused : (c o : ℕ) → (load_told (load_of file).answer ≡ c ∷ o ∷ []) ↔ FirstFails (load_tests file) c o
  -- it is loaded exactly when no test fails
  pub loaded : (load_told (load_of file).answer ≡ 0 ∷ []) ↔ NoneFails (load_tests file)
  -- a file of bytes is loaded exactly when it has the layout: when it is the file of a well-formed set
  pub layout : Bytes file → (load_told (load_of file).answer ≡ 0 ∷ []) ↔ ((s : Set) × (well_formed s ≡ true) × (write_of s ≡ file))
  -- a refused load carries the set with every field zero
  pub zero : (c o : ℕ) → load_told (load_of file).answer ≡ c ∷ o ∷ [] → (load_of file).set ≡ all_zero_set

-- Writing any set into any buffer.
pub record WriteRefusals (s : Set) (buf : List ℕ) : Type 0 where
  pub not_formed : (write_told (write_answer s (length buf)) ≡ 20 ∷ []) ↔ (well_formed s ≡ false)
  -- 24, with the length needed, exactly when the buffer is shorter than the file
  pub short : (needed : ℕ) → (write_told (write_answer s (length buf)) ≡ 24 ∷ needed ∷ [])
      ↔ ((well_formed s ≡ true) × (needed ≡ length (write_of s)) × (length buf < needed))
  -- else the length of the file is told
  pub wrote : (size : ℕ) → (write_told (write_answer s (length buf)) ≡ 0 ∷ size ∷ [])
      ↔ ((well_formed s ≡ true) × (size ≡ length (write_of s)) × (size ≤ length buf))
  -- the file stands at the front of the buffer, and later bytes are as they were
  pub front : (size : ℕ) → write_told (write_answer s (length buf)) ≡ 0 ∷ size ∷ [] → buffer_after s buf ≡ write_of s ++ drop size buf
  -- a refusal leaves the buffer as it was
  pub untouched : ((size : ℕ) → write_told (write_answer s (length buf)) ≢ 0 ∷ size ∷ []) → buffer_after s buf ≡ buf

-- The verdict on any set, with scratch of any size. What else it rejects is demand 3's; the start says the same, with its state.
pub record VerdictRefusals (s : Set) (room : ℕ) : Type 0 where
  pub not_formed : (verdict_told (judge_of s room) ≡ 20 ∷ []) ↔ (well_formed s ≡ false)
  pub short : (verdict_told (judge_of s room) ≡ 21 ∷ []) ↔ ((well_formed s ≡ true) × (room < scratch_bytes s.n))
  -- with 20 and 21 no byte of the scratch is free, else those that the verdict needs are
  pub untouched : (well_formed s ≡ false) ⊎ (room < scratch_bytes s.n) → loose_bytes s room ≡ 0
  pub loose : well_formed s ≡ true → scratch_bytes s.n ≤ room → loose_bytes s room ≡ scratch_bytes s.n

-- A scan of any state, with any words.
pub record ScanRefusals (st : State) (present request : ℕ) : Type 0 where
  pub bad_state : (scan_told (scan_of st present request).answer ≡ 30 ∷ []) ↔ (¬ StateAllowed st)
  pub bad_sensor : (scan_told (scan_of st present request).answer ≡ 31 ∷ []) ↔ (StateAllowed st × (¬ SensorAllowed st.set present))
  pub bad_request : (scan_told (scan_of st present request).answer ≡ 32 ∷ [])
      ↔ (StateAllowed st × SensorAllowed st.set present × (¬ RequestAllowed st.set request))
  -- 33 exactly when the walk never reaches a safe vector
  pub unsafe : (scan_told (scan_of st present request).answer ≡ 33 ∷ [])
      ↔ (StateAllowed st × SensorAllowed st.set present × RequestAllowed st.set request × (¬ EndsSafe st.set (word_of st present) request))
  -- so where an output is forced both ways: no pass is made
  pub clash : StateAllowed st → SensorAllowed st.set present → RequestAllowed st.set request → (k : ℕ) → BothWays st.set (word_of st present) k
      → scan_told (scan_of st present request).answer ≡ 33 ∷ []
  -- any other scan sends a vector
  pub sends : StateAllowed st → SensorAllowed st.set present → RequestAllowed st.set request → EndsSafe st.set (word_of st present) request
      → (v : ℕ) × (k : ℕ) × (scan_told (scan_of st present request).answer ≡ 0 ∷ v ∷ k ∷ [])
  -- a refused scan gives the state as it was
  pub kept : ((v k : ℕ) → scan_told (scan_of st present request).answer ≢ 0 ∷ v ∷ k ∷ []) → (scan_of st present request).state ≡ st

-- Finding any bytes in any set.
pub record FindRefusals (s : Set) (bytes : List ℕ) : Type 0 where
  pub not_formed : (find_told (find_of s bytes) ≡ 20 ∷ []) ↔ (well_formed s ≡ false)
  pub bad_length : (find_told (find_of s bytes) ≡ 40 ∷ []) ↔ ((well_formed s ≡ true) × (¬ LengthAllowed bytes))
  pub unknown : (find_told (find_of s bytes) ≡ 41 ∷ []) ↔ ((well_formed s ≡ true) × LengthAllowed bytes × NoPoint s bytes)
  -- so for any name with a byte outside 0x21 to 0x7E
  pub strange : well_formed s ≡ true → LengthAllowed bytes → ¬ NameBytes bytes → find_told (find_of s bytes) ≡ 41 ∷ []
  -- a read point is found under its name and under no other, and so an output
  pub read : (k : ℕ) → (find_told (find_of s bytes) ≡ 0 ∷ 0 ∷ k ∷ []) ↔ ((well_formed s ≡ true) × (k < s.r) × (read_name s k ≡ bytes))
  pub output : (j : ℕ) → (find_told (find_of s bytes) ≡ 0 ∷ 1 ∷ j ∷ []) ↔ ((well_formed s ≡ true) × (j < s.n) × (output_name s j ≡ bytes))

-- Demand 1.
pub record Demand1 : Type 0 where
  pub loading : (file : List ℕ) → LoadRefusals file
  pub writing : (s : Set) (buf : List ℕ) → WriteRefusals s buf
  pub verdict : (s : Set) (room : ℕ) → VerdictRefusals s room
  -- the scratch that a verdict needs: a bit for each of the 2 ^ n vectors
  pub scratch : (n : ℕ) → ScratchSize n
  pub scan : (st : State) (present request : ℕ) → ScanRefusals st present request
  pub finding : (s : Set) (bytes : List ℕ) → FindRefusals s bytes
  -- a set is well formed exactly when some file of bytes loads to it, and the set with every field zero is not
  pub formed : (s : Set) → (well_formed s ≡ true) ↔ ((file : List ℕ) × Bytes file × (load_told (load_of file).answer ≡ 0 ∷ []) × ((load_of file).set ≡ s))
  pub zero_not_formed : well_formed all_zero_set ≡ false

-- ---- demand 2: what a scan sends, and files that come back

-- A scan whose state and words are allowed, of any state, started or made by hand: it sends the walk's first safe vector and reports the passes
-- before it, at most 2 ^ f - 1, and the next state has that vector and this sensor word, and says that a scan was accepted; or the walk never is
-- safe, and the answer is 33.
abbrev pub Answers : State → ℕ → ℕ → Type 0
Answers st present request =
    (SendsDue st.set (word_of st present) request (scan_of st present request).answer
    × ((scan_of st present request).state ≡ state_with st.set (vector_due st.set (word_of st present) request) present true))
    ⊎ ((¬ EndsSafe st.set (word_of st present) request) × (scan_told (scan_of st present request).answer ≡ 33 ∷ []))

-- Demand 2.
pub record Demand2 : Type 0 where
  pub scan : (st : State) (present request : ℕ) → StateAllowed st → SensorAllowed st.set present → RequestAllowed st.set request → Answers st present request
  -- no scan changes the set
  pub same_set : (st : State) (present request : ℕ) → (scan_of st present request).state.set ≡ st.set
  -- loading a written set, from the front of the buffer that it was written into, gives that set
  pub load_written : (s : Set) (buf : List ℕ) (size : ℕ) → write_told (write_answer s (length buf)) ≡ 0 ∷ size ∷ []
      → (load_told (load_of (take size (buffer_after s buf))).answer ≡ 0 ∷ []) × ((load_of (take size (buffer_after s buf))).set ≡ s)
  -- what is written is bytes
  pub writes_bytes : (s : Set) → well_formed s ≡ true → Bytes (write_of s)
  -- writing a loaded file, into a buffer that is long enough, gives that file
  pub write_loaded : (file buf : List ℕ) → Bytes file → load_told (load_of file).answer ≡ 0 ∷ [] → length file ≤ length buf
      → (write_told (write_answer (load_of file).set (length buf)) ≡ 0 ∷ length file ∷ []) × (buffer_after (load_of file).set buf ≡ file ++ drop (length file) buf)
  -- files of today load to the same sets: with at most sixteen read points the file of a set is what document 01's rule wrote
  pub files_of_today : (s : Set) → well_formed s ≡ true → s.r ≤ 16 → FilesOfToday s
  -- two files that load to one set are one file
  pub one_file : (f g : List ℕ) → Bytes f → Bytes g → load_told (load_of f).answer ≡ 0 ∷ [] → load_told (load_of g).answer ≡ 0 ∷ []
      → (load_of f).set ≡ (load_of g).set → f ≡ g

-- ---- demand 3: the exact verdict, and every list of scans

-- The verdict on a well-formed set, given scratch of `room` bytes, enough for it. No bound on the passes of a walk stands here.
pub record ExactVerdict (s : Set) (room : ℕ) : Type 0 where
  -- the set is rejected exactly when, for some read word, no output vector leaves every constraint false, or the walk from some request never
  -- reaches one
  pub rejects : (verdict_told (judge_of s room) ≢ 0 ∷ []) ↔ ((w : ℕ) × (w < 2 ^ s.r) × BadWord s w)
  -- it is accepted exactly when every read word has a safe vector and every walk reaches one
  pub accepts : (verdict_told (judge_of s room) ≡ 0 ∷ []) ↔ ((w : ℕ) → w < 2 ^ s.r → GoodWord s w)
  -- 22 names w exactly when w is the first word without a safe vector, and no output is forced both ways there
  pub names_word : (w : ℕ) → (verdict_told (judge_of s room) ≡ 22 ∷ w ∷ []) ↔ (FirstNoVector s w × NoClash s w)
  -- 58 names w and k exactly when w is the first word without a safe vector, and k is the lowest output forced both ways there
  pub names_clash : (w k : ℕ) → (verdict_told (judge_of s room) ≡ 58 ∷ w ∷ k ∷ []) ↔ (FirstNoVector s w × LowestClash s w k)
  -- 23 names w and g exactly when every word has a safe vector, w is the first with a request whose walk never reaches one, and g is the first such request
  pub names_request : (w g : ℕ) → (verdict_told (judge_of s room) ≡ 23 ∷ w ∷ g ∷ []) ↔ FirstNoEnd s w g

-- The start of any set, with scratch of any size.
pub record ExactStart (s : Set) (room : ℕ) : Type 0 where
  -- it says what the verdict says
  pub says : (start_of s room).verdict ≡ judge_of s room
  -- where the set is accepted, it gives a state of the set that was judged, with its rest word, safe or not, as the past output word, and past sensor
  -- word 0, which says that no scan was accepted
  pub gives : verdict_told (judge_of s room) ≡ 0 ∷ [] → (start_of s room).state ≡ state_with s s.rest 0 false
  -- where it is not, the state with every field zero
  pub refuses : verdict_told (judge_of s room) ≢ 0 ∷ [] → (start_of s room).state ≡ all_zero_state

-- Every list of scans from a start of an accepted set, whatever their words, refused ones included, each handed the state that the one before
-- it returned.
pub record RightScans (s : Set) (room : ℕ) (calls : List Call) : Type 0 where
  -- each scan is refused exactly when its words are not allowed, with the number, and any other sends the first safe vector of the walk at its
  -- read word, told from the started set and the calls alone, after at most 2 ^ f - 1 passes, which it reports; it sends the request untouched
  -- exactly when the request makes no constraint true
  pub answers : EveryRight s [] calls (run (start_of s room).state calls)
  -- no scan changes the set, and the pasts are those of the list: the state after it is the set with the last allowed scan's vector due and
  -- sensor word, and says whether there was one
  pub state : StateOfList s (followed [] calls) (run_state (start_of s room).state calls)
  -- 30 and 33 never come
  pub never_30 : NeverTold 30 (run (start_of s room).state calls)
  pub never_33 : NeverTold 33 (run (start_of s room).state calls)

-- Demand 3.
pub record Demand3 : Type 0 where
  pub verdict : (s : Set) (room : ℕ) → well_formed s ≡ true → scratch_bytes s.n ≤ room → ExactVerdict s room
  -- just one group of the answers in document 01's order changed
  pub one_group : (s : Set) (room : ℕ) → well_formed s ≡ true → scratch_bytes s.n ≤ room → OneGroup s room
  -- with a bit of scratch for each vector in place of a byte only 21 moved
  pub one_bit : (s : Set) (room : ℕ) → OneBit s room
  -- where an output is forced both ways 58 stands in place of 22, and no other answer moved
  pub clash_named : (s : Set) (room : ℕ) → ClashNamed s room
  pub start : (s : Set) (room : ℕ) → ExactStart s room
  pub scans : (s : Set) (room : ℕ) → verdict_told (start_of s room).verdict ≡ 0 ∷ [] → (calls : List Call) → RightScans s room calls

-- ---- the promise: the demands, and what they speak of in document 01's own terms

pub record Promise : Type 0 where
  pub demand_1 : Demand1
  pub demand_2 : Demand2
  pub demand_3 : Demand3
  -- constraints, holds, passes, walks, names and places, bit by bit and byte by byte
  pub meanings : (s : Set) → well_formed s ≡ true → Meanings s
  -- the read word of a scan, bit by bit
  pub reads : (st : State) (present : ℕ) → ReadsMean st present
  -- no rising edge on power-up: the mark of a state, and the scans until one is accepted
  pub power_up : PowerUp
  -- drives that rest on: what reads a set's rest word, and what does not
  pub rest_word : RestWord
  -- holds looked up once for a word: judging and walking by the active constraints, and no read word
  pub by_active : (s : Set) (w : ℕ) → well_formed s ≡ true → ByActive s w
  -- simple constraints that contradict: what the reckoning of holds answers
  pub reckoning : (s : Set) (w : ℕ) → well_formed s ≡ true → Reckoning s w
  -- the verdict inside the box: eight vectors judged at once, and eight read words in a row
  pub by_eights : (s : Set) (w : ℕ) → well_formed s ≡ true → ByEights s w
  -- a name byte is 0x21 to 0x7E
  pub name_bytes : (bytes : List ℕ) → NameBytesMean bytes
  -- what a file says
  pub files : (file : List ℕ) → Bytes file → load_told (load_of file).answer ≡ 0 ∷ [] → FileSays file (load_of file).set
  -- a lone output's rank is kept and never read
  pub lone_ranks : (s t : Set) → well_formed s ≡ true → well_formed t ≡ true → SameButLoneRanks s t → LoneRanksUnread s t
  -- what the verdict program prints of the bytes that it read
  pub line : (file : List ℕ) → LineSays file
  -- beyond document 01: what the text of a set says, and how it is put into a buffer
  pub texts : Texts
  -- and the functions that C calls: demand 3 over files
  pub firmware : Firmware
