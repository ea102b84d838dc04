-- Worked cases: the starred ones of document 01's "Tried by hand", the edge case as change request K2 has it, those for what they leave open, some of
-- them from the bytes of a file, and those of change requests K5, K6, K8, K10 and K11.
-- Assumes nothing.
use Rattle.std.specs.Prelude.{ℕ, ◌+◌, ◌^◌, ◌≡◌, true, false, cond, ◌||◌, List, [], ◌∷◌, ◌++◌, map, take, replicate}
use Rattle.words.specs.Loop.{joined, listed}
use Rattle.words.specs.Word.{bit}
use Rattle.scan.specs.declared.set.Kind.TheVariants.{Sensor, PastOutput, PastSensor}
use Rattle.scan.specs.declared.set.ReadPoint.{ReadPoint}
use Rattle.scan.specs.declared.set.Constraint.{Constraint}
use Rattle.scan.specs.declared.set.Set.{Set}
use Rattle.scan.specs.declared.set.State.{State}
use Rattle.scan.specs.Set.{zero_set, with_rest, state_of, fresh_state}
use Rattle.scan.specs.Holds.{F0, F1, holds_of, unheld_count}
use Rattle.scan.specs.Told.{holds_told}
use Rattle.shape.specs.Finding.{find_of}
use Rattle.shape.specs.Told.{find_told}
use Rattle.machine.specs.History.{Call, run}
use Rattle.machine.specs.Told.{scan_told}
use Rattle.scan.specs.Samples.{name7, name07, name007, set_p, P, sensor_s, name_a, name_b, name_c, read_of, set_of, product, clashing, endless, equal_ranks, two_pairs, rising_edge, forced_on, after_b, three_passes}
use Rattle.verdict.specs.Judge.{scratch_bytes, judge_of}
use Rattle.verdict.specs.FirstFailing.{first_failing}
use Rattle.start.specs.Start.{start_of}
use Rattle.verdict.specs.Told.{verdict_told}
use Rattle.loader.specs.Load.{load_of}
use Rattle.text.specs.Text.{text_of}
use Rattle.loader.specs.Told.{load_told}
use Rattle.writer.specs.Write.{write_of}
use Rattle.setfile.specs.SampleFile.{file_p}
use Rattle.promise.specs.Clash.{judge_unnamed}

-- a case: what is done, and what is answered, by document 01's numbers
pub data Case : Type 0 where
  -- the set is accepted, and scans from its start, one after the other, are answered so
  scans : Set → List Call → List (List ℕ) → Case
  -- scans, the first of this state, of a start or made by hand, and each later one of the state that the one before it returned
  scans_of : State → List Call → List (List ℕ) → Case
  -- the verdict and the start, with so many bytes of scratch, say so
  judged : Set → ℕ → List ℕ → Case
  -- the verdict in document 01's order, and then the verdict and the start, with scratch enough, say so
  reordered : Set → List ℕ → List ℕ → Case
  -- the verdict that does not name a clash, and then the verdict and the start, with scratch enough, say so
  named : Set → List ℕ → List ℕ → Case
  -- the reckoning of holds at a read word answers so
  reckons : Set → ℕ → List ℕ → Case
  -- f at a read word
  free : Set → ℕ → ℕ → Case
  -- at the read word w output k is held
  held : Set → ℕ → ℕ → Case
  -- finding these bytes in the set
  finds : Set → List ℕ → List ℕ → Case
  -- loading these bytes is answered so
  loads : List ℕ → List ℕ → Case
  -- these bytes are loaded, their set is accepted, and scans from its start are answered so
  runs : List ℕ → List Call → List (List ℕ) → Case
  -- the text of the set is these bytes
  texts : Set → List ℕ → Case
  -- these bytes are loaded, and the rest word of their set is this
  rests : List ℕ → ℕ → Case
  -- these bytes are loaded, and the file of their set is these bytes
  rewritten : List ℕ → Case

-- just as many bytes of scratch as are enough
abbrev pub enough : Set → ℕ
enough s = scratch_bytes s.n

-- the verdict of a start of the set, and the answers of scans from it
abbrev pub started : Set → List Call → List (List ℕ)
started s calls = verdict_told (start_of s (enough s)).verdict ∷ map scan_told (run (start_of s (enough s)).state calls)

-- what the definitions answer
abbrev pub answered : Case → List (List ℕ)
answered (scans s calls told) = started s calls
answered (scans_of st calls told) = map scan_told (run st calls)
answered (judged s room told) = verdict_told (judge_of s room) ∷ verdict_told (start_of s room).verdict ∷ []
answered (reordered s was told) = verdict_told (first_failing s) ∷ verdict_told (judge_of s (enough s)) ∷ verdict_told (start_of s (enough s)).verdict ∷ []
answered (named s was told) = verdict_told (judge_unnamed s (enough s)) ∷ verdict_told (judge_of s (enough s)) ∷ verdict_told (start_of s (enough s)).verdict ∷ []
answered (reckons s w told) = holds_told (holds_of s w) ∷ []
answered (free s w f) = (unheld_count s w ∷ []) ∷ []
answered (held s w k) = (cond (bit k (F0 s w) || bit k (F1 s w)) 1 0 ∷ []) ∷ []
answered (finds s bytes told) = find_told (find_of s bytes) ∷ []
answered (loads file told) = load_told (load_of file).answer ∷ []
answered (runs file calls told) = load_told (load_of file).answer ∷ started (load_of file).set calls
answered (texts s text) = text_of s ∷ []
answered (rests file word) = load_told (load_of file).answer ∷ ((load_of file).set.rest ∷ []) ∷ []
answered (rewritten file) = load_told (load_of file).answer ∷ write_of (load_of file).set ∷ []

-- what is to be answered
abbrev pub expected : Case → List (List ℕ)
expected (scans s calls told) = (0 ∷ []) ∷ told
expected (scans_of st calls told) = told
expected (judged s room told) = told ∷ told ∷ []
expected (reordered s was told) = was ∷ told ∷ told ∷ []
expected (named s was told) = was ∷ told ∷ told ∷ []
expected (reckons s w told) = told ∷ []
expected (free s w f) = (f ∷ []) ∷ []
expected (held s w k) = (1 ∷ []) ∷ []
expected (finds s bytes told) = told ∷ []
expected (loads file told) = told ∷ []
expected (runs file calls told) = (0 ∷ []) ∷ (0 ∷ []) ∷ told
expected (texts s text) = text ∷ []
expected (rests file word) = (0 ∷ []) ∷ (word ∷ []) ∷ []
expected (rewritten file) = (0 ∷ []) ∷ file ∷ []

-- every case of a list is answered as it is to be
abbrev pub AllAnswered : List Case → Type 0
AllAnswered cases = map answered cases ≡ map expected cases

-- a scan's sensor word and request
abbrev pub call : ℕ → ℕ → Call
call w g = record { sensor = w; request = g }

-- a vector sent after so many passes
abbrev pub sent : ℕ → ℕ → List ℕ
sent v passes = 0 ∷ v ∷ passes ∷ []

-- a refusal
abbrev pub no : ℕ → List ℕ
no number = number ∷ []

-- all starred cases; A, B, C are outputs 0, 1, 2, and s or "now" is read point 0
abbrev pub starred : List Case
starred =
    -- P, read word 0: request 1 sends 0, 1 pass; 3 sends 3, 0 passes
    scans P (call 0 1 ∷ call 0 3 ∷ []) (sent 0 1 ∷ sent 3 0 ∷ [])
    -- P, read word 1: request 3 sends 0, 1 pass, f = 1; request 2 sends 0, 0 passes
    ∷ scans P (call 1 3 ∷ call 1 2 ∷ []) (sent 0 1 ∷ sent 0 0 ∷ [])
    ∷ free P 1 1
    -- P with the two ranks exchanged, word 0: request 1 sends 3, 1 pass; word 1: it sends 0, output 7 being held
    ∷ scans (set_p 1 0) (call 0 1 ∷ call 1 1 ∷ []) (sent 3 1 ∷ sent 0 1 ∷ [])
    ∷ free (set_p 1 0) 1 1
    ∷ held (set_p 1 0) 1 1
    -- "s and not A", "s and A": 58 at word 1, output 0 (change request K10: the output is named; document 01 had 22)
    ∷ judged clashing (enough clashing) (58 ∷ 1 ∷ 0 ∷ [])
    -- no sensors; "A and not B", "A and B", B of rank 0 and A of rank 1 in both: 23 at word 0, request 1
    ∷ judged endless (enough endless) (23 ∷ 0 ∷ 1 ∷ [])
    -- "A and B", equal ranks: request 3 sends 0, 1 pass
    ∷ scans equal_ranks (call 0 3 ∷ []) (sent 0 1 ∷ [])
    -- "A and B" (A of lower rank), "A and C" (C of lower rank): request 7 sends 2, 1 pass
    ∷ scans two_pairs (call 0 7 ∷ []) (sent 2 1 ∷ [])
    -- read point 1 is the past of sensor 0; "now, not past, A": scans of sensor 1, request 1 from a start send 1, then 1
    -- (change request K2: no edge on power-up; document 01 had 0, then 1)
    ∷ scans rising_edge (call 1 1 ∷ call 1 1 ∷ []) (sent 1 0 ∷ sent 1 0 ∷ [])
    ∷ []

-- sensor t
abbrev pub sensor_t : ReadPoint
sensor_t = read_of Sensor (0x74 ∷ [])

-- "s and not A", "s and A" for the second of two sensors: words 2 and 3 have no safe vector
abbrev pub clashing_later : Set
clashing_later = set_of (sensor_s ∷ sensor_t ∷ []) (name_a ∷ []) (product 2 0 0 1 [] ∷ product 2 0 1 0 [] ∷ [])

-- p, the past of read point i
abbrev pub past_p : ℕ → ReadPoint
past_p i = read_of (PastSensor i) (0x70 ∷ [])

-- read point 1 is the past of sensor 0; "not now, past, A"
abbrev pub falling_edge : Set
falling_edge = set_of (sensor_s ∷ past_p 0 ∷ []) (name_a ∷ []) (product 2 1 1 0 [] ∷ [])

-- sensors s and t, and read point 2 is the past of t; "t, not past, A"
abbrev pub second_edge : Set
second_edge = set_of (sensor_s ∷ sensor_t ∷ past_p 1 ∷ []) (name_a ∷ []) (product 2 4 1 0 [] ∷ [])

-- sensors s and t, and read point 2 is the past of s; "s, not past, A"; "t and A", "t and not A": with t on no vector is safe
abbrev pub edge_and_clash : Set
edge_and_clash = set_of (sensor_s ∷ sensor_t ∷ past_p 0 ∷ []) (name_a ∷ []) (product 1 4 1 0 [] ∷ product 2 0 1 0 [] ∷ product 2 0 0 1 [] ∷ [])

-- A file with every kind of point, a field to a line: sensors a and b, q the past of output Y, p the past of sensor b; outputs X, Y, Z; "b and not p
-- and X"; "q and Z"; "X and Y", where Y yields; "not a and Y".
abbrev pub file_of_kinds : List ℕ
file_of_kinds =
    0x01 ∷ 0x00 ∷ 0x02 ∷ 0x04 ∷ 0x03
    ∷ 0x02 ∷ 0x00 ∷ 0x03 ∷ 0x00 ∷ 0x00 ∷ 0x61
    ∷ 0x02 ∷ 0x00 ∷ 0x03 ∷ 0x00 ∷ 0x00 ∷ 0x62
    ∷ 0x02 ∷ 0x00 ∷ 0x03 ∷ 0x01 ∷ 0x01 ∷ 0x71
    ∷ 0x02 ∷ 0x00 ∷ 0x03 ∷ 0x02 ∷ 0x01 ∷ 0x70
    ∷ 0x03 ∷ 0x00 ∷ 0x01 ∷ 0x58
    ∷ 0x03 ∷ 0x00 ∷ 0x01 ∷ 0x59
    ∷ 0x03 ∷ 0x00 ∷ 0x01 ∷ 0x5A
    ∷ 0x04 ∷ 0x00 ∷ 0x06 ∷ 0x01 ∷ 0x00 ∷ 0x83 ∷ 0x00 ∷ 0x40 ∷ 0x00
    ∷ 0x04 ∷ 0x00 ∷ 0x04 ∷ 0x02 ∷ 0x00 ∷ 0x42 ∷ 0x00
    ∷ 0x04 ∷ 0x00 ∷ 0x04 ∷ 0x40 ∷ 0x01 ∷ 0x41 ∷ 0x00
    ∷ 0x04 ∷ 0x00 ∷ 0x04 ∷ 0x80 ∷ 0x00 ∷ 0x41 ∷ 0x00
    ∷ 0x05 ∷ 0x00 ∷ 0x00
    ∷ []

-- what those leave open: verdicts, scans from a start, and sets loaded from the bytes of a file
abbrev pub further : List Case
further =
    -- 20 before 21; 21 with one byte too few; exactly enough
    judged zero_set 0 (no 20)
    ∷ judged P 0 (no 21)
    ∷ judged P 1 (no 0)
    -- the first of two words that fail
    ∷ judged clashing_later 1 (58 ∷ 2 ∷ 0 ∷ [])
    -- F1 holds A to 1 in the start vector
    ∷ scans forced_on (call 1 0 ∷ call 0 0 ∷ []) (sent 1 0 ∷ sent 0 0 ∷ [])
    -- the past of a refused scan is not read: neither its sensor word, nor a vector
    ∷ scans rising_edge (call 0 1 ∷ call 1 2 ∷ call 1 1 ∷ call 2 1 ∷ call 1 1 ∷ []) (sent 1 0 ∷ no 32 ∷ sent 0 0 ∷ no 31 ∷ sent 1 0 ∷ [])
    -- refused scans are not the first; later edges count
    ∷ scans rising_edge (call 1 2 ∷ call 2 1 ∷ call 1 1 ∷ call 0 1 ∷ call 1 1 ∷ call 1 1 ∷ []) (no 32 ∷ no 31 ∷ sent 1 0 ∷ sent 1 0 ∷ sent 0 0 ∷ sent 1 0 ∷ [])
    -- read point 2 is the past of read point 1 and not of read point 0
    ∷ scans second_edge (call 2 1 ∷ call 1 1 ∷ call 2 1 ∷ call 3 1 ∷ []) (sent 1 0 ∷ sent 1 0 ∷ sent 0 0 ∷ sent 1 0 ∷ [])
    -- read point 0 is the past of output 1 and not of output 0
    ∷ scans after_b (call 0 1 ∷ call 0 1 ∷ call 0 2 ∷ call 0 1 ∷ call 0 1 ∷ []) (sent 1 0 ∷ sent 1 0 ∷ sent 2 0 ∷ sent 0 0 ∷ sent 1 0 ∷ [])
    -- all of 2 ^ f - 1 passes
    ∷ scans three_passes (call 0 1 ∷ []) (sent 0 3 ∷ [])
    -- 31 before 32: out of width, and at a past point; 32
    ∷ scans P (call 2 4 ∷ call 0 4 ∷ []) (no 31 ∷ no 32 ∷ [])
    ∷ scans rising_edge (call 2 2 ∷ []) (no 31 ∷ [])
    -- document 01's own: the empty file, P's first 38 bytes, P and one byte more
    ∷ loads [] (1 ∷ 0 ∷ [])
    ∷ loads (take 38 file_p) (1 ∷ 36 ∷ [])
    ∷ loads (file_p ++ (0 ∷ [])) (12 ∷ 39 ∷ [])
    -- P from its bytes
    ∷ runs file_p (call 0 1 ∷ call 0 3 ∷ call 1 3 ∷ call 1 2 ∷ []) (sent 0 1 ∷ sent 3 0 ∷ sent 0 1 ∷ sent 0 0 ∷ [])
    -- b is on from the first scan, which is no edge, and Y yields to X; a alone; b has risen, so that X is off, and Y was on, so that Z is off; Y was on
    -- once more, and Y yields to X; without a Y is off
    ∷ runs file_of_kinds
    (call 3 7 ∷ call 1 6 ∷ call 3 7 ∷ call 3 7 ∷ call 8 0 ∷ call 2 7 ∷ call 3 8 ∷ call 3 1 ∷ [])
    (sent 5 1 ∷ sent 6 0 ∷ sent 2 0 ∷ sent 1 1 ∷ no 31 ∷ sent 5 0 ∷ no 32 ∷ sent 1 0 ∷ [])
    ∷ []

-- ---- change request K5

-- the pair of constraints whose walk from A alone never is safe, where the read literals are true: "A and not B", "A and B", B of rank 0 and A of rank 1 in both
abbrev pub circling : ℕ → ℕ → List Constraint
circling plain negated = product plain negated 1 2 (1 ∷ 0 ∷ []) ∷ product plain negated 3 0 (1 ∷ 0 ∷ []) ∷ []

-- the pair that leaves no safe vector, where the read literals are true: "A", "not A"
abbrev pub forbidding : ℕ → ℕ → List Constraint
forbidding plain negated = product plain negated 1 0 [] ∷ product plain negated 0 1 [] ∷ []

-- the outputs A and B, the sensors and the constraints
abbrev pub set_of_aB : List ReadPoint → List Constraint → Set
set_of_aB sensors constraints = set_of sensors (name_a ∷ name_b ∷ []) constraints

-- a file, a field to a line: sensor s; outputs A and B; "A and not B", "A and B", B of rank 0 and A of rank 1 in both; "s and not A and B"; "s and not A and not B"
abbrev pub file_of_order : List ℕ
file_of_order =
    0x01 ∷ 0x00 ∷ 0x02 ∷ 0x01 ∷ 0x02
    ∷ 0x02 ∷ 0x00 ∷ 0x03 ∷ 0x00 ∷ 0x00 ∷ 0x73
    ∷ 0x03 ∷ 0x00 ∷ 0x01 ∷ 0x41
    ∷ 0x03 ∷ 0x00 ∷ 0x01 ∷ 0x42
    ∷ 0x04 ∷ 0x00 ∷ 0x04 ∷ 0x40 ∷ 0x01 ∷ 0xC1 ∷ 0x00
    ∷ 0x04 ∷ 0x00 ∷ 0x04 ∷ 0x40 ∷ 0x01 ∷ 0x41 ∷ 0x00
    ∷ 0x04 ∷ 0x00 ∷ 0x06 ∷ 0x00 ∷ 0x00 ∷ 0xC0 ∷ 0x00 ∷ 0x41 ∷ 0x00
    ∷ 0x04 ∷ 0x00 ∷ 0x06 ∷ 0x00 ∷ 0x00 ∷ 0xC0 ∷ 0x00 ∷ 0xC1 ∷ 0x00
    ∷ 0x05 ∷ 0x00 ∷ 0x00
    ∷ []

-- missing vectors before endless walks: what the verdict was, and what it is
abbrev pub order_cases : List Case
order_cases =
    -- an endless walk at word 0, no vector at word 1; from the bytes of a file, and by a pair that forbids A both ways
    reordered (load_of file_of_order).set (23 ∷ 0 ∷ 1 ∷ []) (22 ∷ 1 ∷ [])
    ∷ reordered (set_of_aB (sensor_s ∷ []) (circling 0 0 ++ forbidding 1 0)) (23 ∷ 0 ∷ 1 ∷ []) (58 ∷ 1 ∷ 0 ∷ [])
    -- an endless walk where s is off, no vector where t is on: words 2 and 3 have none, and 2 is told, behind the good word 1
    ∷ reordered (set_of_aB (sensor_s ∷ sensor_t ∷ []) (circling 0 1 ++ forbidding 2 0)) (23 ∷ 0 ∷ 1 ∷ []) (58 ∷ 2 ∷ 0 ∷ [])
    -- 23 stays: an endless walk where s is on, and vectors at both words
    ∷ reordered (set_of_aB (sensor_s ∷ []) (circling 1 0)) (23 ∷ 1 ∷ 1 ∷ []) (23 ∷ 1 ∷ 1 ∷ [])
    -- 22 or 58 stays: no vector where s is off, an endless walk where it is on
    ∷ reordered (set_of_aB (sensor_s ∷ []) (forbidding 0 1 ++ circling 1 0)) (58 ∷ 0 ∷ 0 ∷ []) (58 ∷ 0 ∷ 0 ∷ [])
    -- and acceptance
    ∷ reordered P (0 ∷ []) (0 ∷ [])
    ∷ []

-- ---- change request K6

-- a file up to its outputs, a field to a line: b, the past of output B; outputs A and B
abbrev pub file_up_to : List ℕ
file_up_to =
    0x01 ∷ 0x00 ∷ 0x02 ∷ 0x01 ∷ 0x02
    ∷ 0x02 ∷ 0x00 ∷ 0x03 ∷ 0x01 ∷ 0x01 ∷ 0x62
    ∷ 0x03 ∷ 0x00 ∷ 0x01 ∷ 0x41
    ∷ 0x03 ∷ 0x00 ∷ 0x01 ∷ 0x42
    ∷ []

-- its constraint: "b and A"
abbrev pub constraint_field : List ℕ
constraint_field = 0x04 ∷ 0x00 ∷ 0x04 ∷ 0x00 ∷ 0x00 ∷ 0x40 ∷ 0x00 ∷ []

-- its end
abbrev pub end_field : List ℕ
end_field = 0x05 ∷ 0x00 ∷ 0x00 ∷ []

-- a field of the rest word's tag, with these two bytes
abbrev pub rest_bytes : ℕ → ℕ → List ℕ
rest_bytes high low = 0x06 ∷ 0x00 ∷ 0x02 ∷ high ∷ low ∷ []

-- the file with these bytes between its outputs and its constraint
abbrev pub file_with : List ℕ → List ℕ
file_with bytes = file_up_to ++ bytes ++ constraint_field ++ end_field

-- twelve outputs A to L, these bytes, and the end
abbrev pub file_of_twelve : List ℕ → List ℕ
file_of_twelve bytes =
    0x01 ∷ 0x00 ∷ 0x02 ∷ 0x00 ∷ 0x0C
    ∷ 0x03 ∷ 0x00 ∷ 0x01 ∷ 0x41 ∷ 0x03 ∷ 0x00 ∷ 0x01 ∷ 0x42 ∷ 0x03 ∷ 0x00 ∷ 0x01 ∷ 0x43 ∷ 0x03 ∷ 0x00 ∷ 0x01 ∷ 0x44
    ∷ 0x03 ∷ 0x00 ∷ 0x01 ∷ 0x45 ∷ 0x03 ∷ 0x00 ∷ 0x01 ∷ 0x46 ∷ 0x03 ∷ 0x00 ∷ 0x01 ∷ 0x47 ∷ 0x03 ∷ 0x00 ∷ 0x01 ∷ 0x48
    ∷ 0x03 ∷ 0x00 ∷ 0x01 ∷ 0x49 ∷ 0x03 ∷ 0x00 ∷ 0x01 ∷ 0x4A ∷ 0x03 ∷ 0x00 ∷ 0x01 ∷ 0x4B ∷ 0x03 ∷ 0x00 ∷ 0x01 ∷ 0x4C
    ∷ (bytes ++ end_field)

-- drives that rest on
abbrev pub rest_cases : List Case
rest_cases =
    -- B rests on: the first scan reads its past as on, the second as it was sent. Without the field, and where A rests on, it is off
    runs (file_with (rest_bytes 0 2)) (call 0 1 ∷ call 0 1 ∷ []) (sent 0 0 ∷ sent 1 0 ∷ [])
    ∷ runs (file_with []) (call 0 1 ∷ call 0 1 ∷ []) (sent 1 0 ∷ sent 1 0 ∷ [])
    ∷ runs (file_with (rest_bytes 0 1)) (call 0 1 ∷ call 0 1 ∷ []) (sent 1 0 ∷ sent 1 0 ∷ [])
    -- refused scans are not the first
    ∷ runs (file_with (rest_bytes 0 2)) (call 0 4 ∷ call 1 1 ∷ call 0 1 ∷ call 0 1 ∷ []) (no 32 ∷ no 31 ∷ sent 0 0 ∷ sent 1 0 ∷ [])
    -- a rest word that is not safe is good: "A and B", and both rest on
    ∷ scans (with_rest equal_ranks 3) (call 0 3 ∷ []) (sent 0 1 ∷ [])
    -- a rest word out of width makes a set that is not well formed
    ∷ judged (with_rest P 4) 1 (no 20)
    ∷ judged (with_rest P 3) 1 (no 0)
    -- 54: 0; a bit outside n; the two bytes exchanged
    ∷ loads (file_with (rest_bytes 0 0)) (54 ∷ 19 ∷ [])
    ∷ loads (file_with (rest_bytes 0 4)) (54 ∷ 19 ∷ [])
    ∷ loads (file_with (rest_bytes 2 0)) (54 ∷ 19 ∷ [])
    -- 4, before 54: one byte, three bytes
    ∷ loads (file_with (0x06 ∷ 0x00 ∷ 0x01 ∷ 0x00 ∷ [])) (4 ∷ 19 ∷ [])
    ∷ loads (file_with (0x06 ∷ 0x00 ∷ 0x03 ∷ 0x00 ∷ 0x00 ∷ 0x00 ∷ [])) (4 ∷ 19 ∷ [])
    -- 1: the file ends in its header, in its body, and behind it
    ∷ loads (file_up_to ++ take 2 (rest_bytes 0 2)) (1 ∷ 19 ∷ [])
    ∷ loads (file_up_to ++ take 4 (rest_bytes 0 2)) (1 ∷ 19 ∷ [])
    ∷ loads (file_up_to ++ rest_bytes 0 2) (1 ∷ 24 ∷ [])
    -- 2: a second one; one behind the constraint; one before an output
    ∷ loads (file_with (rest_bytes 0 2 ++ rest_bytes 0 2)) (2 ∷ 24 ∷ [])
    ∷ loads (file_up_to ++ constraint_field ++ rest_bytes 0 2 ++ end_field) (2 ∷ 26 ∷ [])
    ∷ loads (take 15 file_up_to ++ rest_bytes 0 2 ++ end_field) (2 ∷ 15 ∷ [])
    -- twelve outputs: all bits, the highest alone, and one bit too high; and no constraint behind it
    ∷ rests (file_of_twelve (rest_bytes 0x0F 0xFF)) 4095
    ∷ rests (file_of_twelve (rest_bytes 0x08 0x00)) 2048
    ∷ rests (file_of_twelve []) 0
    ∷ loads (file_of_twelve (rest_bytes 0x10 0x00)) (54 ∷ 53 ∷ [])
    ∷ []

-- scans of states that no start gave
abbrev pub scan_cases : List Case
scan_cases =
    -- 30: a past output word out of width, a past sensor word out of width, a set that is not well formed
    scans_of (state_of P 4 0 true) (call 2 4 ∷ []) (no 30 ∷ [])
    ∷ scans_of (state_of P 0 2 true) (call 2 4 ∷ []) (no 30 ∷ [])
    ∷ scans_of (fresh_state zero_set) (call 0 0 ∷ []) (no 30 ∷ [])
    -- a past sensor word may have bits at past points
    ∷ scans_of (state_of rising_edge 0 2 true) (call 1 1 ∷ []) (sent 0 0 ∷ [])
    -- a state that says that a scan was accepted reads its past sensor word, one that says no does not
    ∷ scans_of (state_of rising_edge 0 0 true) (call 1 1 ∷ call 1 1 ∷ []) (sent 0 0 ∷ sent 1 0 ∷ [])
    ∷ scans_of (state_of rising_edge 0 1 true) (call 1 1 ∷ []) (sent 1 0 ∷ [])
    ∷ scans_of (state_of rising_edge 0 0 false) (call 1 1 ∷ []) (sent 1 0 ∷ [])
    ∷ scans_of (state_of rising_edge 0 1 false) (call 1 1 ∷ []) (sent 1 0 ∷ [])
    ∷ scans_of (state_of falling_edge 0 1 false) (call 0 1 ∷ call 0 1 ∷ []) (sent 1 0 ∷ sent 1 0 ∷ [])
    ∷ scans_of (state_of falling_edge 0 1 true) (call 0 1 ∷ call 0 1 ∷ []) (sent 0 0 ∷ sent 1 0 ∷ [])
    -- and its width still counts: 2 has r bits, 4 has more
    ∷ scans_of (state_of rising_edge 0 2 false) (call 1 1 ∷ []) (sent 1 0 ∷ [])
    ∷ scans_of (state_of rising_edge 0 4 false) (call 1 1 ∷ []) (no 30 ∷ [])
    -- 33 is a refusal: it leaves the mark, and the scan behind it is the first that is accepted
    ∷ scans_of (state_of edge_and_clash 0 0 false) (call 2 0 ∷ call 1 1 ∷ []) (no 33 ∷ sent 1 0 ∷ [])
    ∷ scans_of (state_of edge_and_clash 0 0 true) (call 2 0 ∷ call 1 1 ∷ []) (no 33 ∷ sent 0 0 ∷ [])
    -- 33: with f = 0 at once, and after 2 ^ f - 1 passes; the state stays
    ∷ scans_of (fresh_state clashing) (call 1 0 ∷ call 0 1 ∷ []) (no 33 ∷ sent 1 0 ∷ [])
    ∷ scans_of (fresh_state endless) (call 0 1 ∷ call 0 0 ∷ []) (no 33 ∷ sent 0 0 ∷ [])
    ∷ []

-- finding
abbrev pub find_cases : List Case
find_cases =
    -- 7, 07 and 007 are three names
    finds P name007 (0 ∷ 0 ∷ 0 ∷ [])
    ∷ finds P name07 (0 ∷ 1 ∷ 0 ∷ [])
    ∷ finds P name7 (0 ∷ 1 ∷ 1 ∷ [])
    ∷ finds P (0x30 ∷ name007) (no 41)
    -- 7 and a zero byte is none, though its eight places are those of 7
    ∷ finds P (0x37 ∷ 0 ∷ []) (no 41)
    ∷ finds P (0x20 ∷ []) (no 41)
    -- 20 before 40 before 41
    ∷ finds zero_set [] (no 20)
    ∷ finds P [] (no 40)
    ∷ finds P (replicate 9 0) (no 40)
    ∷ finds P (replicate 8 0x7E) (no 41)
    ∷ []

-- P's text: output 07; output 7; sensor 007; never 007 on and 7 on; never 07 on rank 0 and 7 off rank 1; end
abbrev pub text_p : List ℕ
text_p =
    0x6F ∷ 0x75 ∷ 0x74 ∷ 0x70 ∷ 0x75 ∷ 0x74 ∷ 0x20 ∷ 0x30 ∷ 0x37 ∷ 0x0A
    ∷ 0x6F ∷ 0x75 ∷ 0x74 ∷ 0x70 ∷ 0x75 ∷ 0x74 ∷ 0x20 ∷ 0x37 ∷ 0x0A
    ∷ 0x73 ∷ 0x65 ∷ 0x6E ∷ 0x73 ∷ 0x6F ∷ 0x72 ∷ 0x20 ∷ 0x30 ∷ 0x30 ∷ 0x37 ∷ 0x0A
    ∷ 0x6E ∷ 0x65 ∷ 0x76 ∷ 0x65 ∷ 0x72 ∷ 0x20 ∷ 0x30 ∷ 0x30 ∷ 0x37 ∷ 0x20 ∷ 0x6F ∷ 0x6E ∷ 0x20 ∷ 0x61 ∷ 0x6E ∷ 0x64 ∷ 0x20 ∷ 0x37 ∷ 0x20 ∷ 0x6F ∷ 0x6E ∷ 0x0A
    ∷ 0x6E ∷ 0x65 ∷ 0x76 ∷ 0x65 ∷ 0x72 ∷ 0x20 ∷ 0x30 ∷ 0x37 ∷ 0x20 ∷ 0x6F ∷ 0x6E ∷ 0x20 ∷ 0x72 ∷ 0x61 ∷ 0x6E ∷ 0x6B ∷ 0x20 ∷ 0x30 ∷ 0x20
    ∷ 0x61 ∷ 0x6E ∷ 0x64 ∷ 0x20 ∷ 0x37 ∷ 0x20 ∷ 0x6F ∷ 0x66 ∷ 0x66 ∷ 0x20 ∷ 0x72 ∷ 0x61 ∷ 0x6E ∷ 0x6B ∷ 0x20 ∷ 0x31 ∷ 0x0A
    ∷ 0x65 ∷ 0x6E ∷ 0x64 ∷ 0x0A
    ∷ []

-- the text of the set of `file_of_kinds`: output X; output Y; output Z; sensor a; sensor b; past q of Y; past p of b; never b on and p off and X on; never
-- q on and Z on; never X on rank 1 and Y on rank 0; never a off and Y on; end
abbrev pub text_of_kinds : List ℕ
text_of_kinds =
    0x6F ∷ 0x75 ∷ 0x74 ∷ 0x70 ∷ 0x75 ∷ 0x74 ∷ 0x20 ∷ 0x58 ∷ 0x0A
    ∷ 0x6F ∷ 0x75 ∷ 0x74 ∷ 0x70 ∷ 0x75 ∷ 0x74 ∷ 0x20 ∷ 0x59 ∷ 0x0A
    ∷ 0x6F ∷ 0x75 ∷ 0x74 ∷ 0x70 ∷ 0x75 ∷ 0x74 ∷ 0x20 ∷ 0x5A ∷ 0x0A
    ∷ 0x73 ∷ 0x65 ∷ 0x6E ∷ 0x73 ∷ 0x6F ∷ 0x72 ∷ 0x20 ∷ 0x61 ∷ 0x0A
    ∷ 0x73 ∷ 0x65 ∷ 0x6E ∷ 0x73 ∷ 0x6F ∷ 0x72 ∷ 0x20 ∷ 0x62 ∷ 0x0A
    ∷ 0x70 ∷ 0x61 ∷ 0x73 ∷ 0x74 ∷ 0x20 ∷ 0x71 ∷ 0x20 ∷ 0x6F ∷ 0x66 ∷ 0x20 ∷ 0x59 ∷ 0x0A
    ∷ 0x70 ∷ 0x61 ∷ 0x73 ∷ 0x74 ∷ 0x20 ∷ 0x70 ∷ 0x20 ∷ 0x6F ∷ 0x66 ∷ 0x20 ∷ 0x62 ∷ 0x0A
    ∷ 0x6E ∷ 0x65 ∷ 0x76 ∷ 0x65 ∷ 0x72 ∷ 0x20 ∷ 0x62 ∷ 0x20 ∷ 0x6F ∷ 0x6E ∷ 0x20 ∷ 0x61 ∷ 0x6E ∷ 0x64 ∷ 0x20 ∷ 0x70 ∷ 0x20 ∷ 0x6F ∷ 0x66 ∷ 0x66 ∷ 0x20
    ∷ 0x61 ∷ 0x6E ∷ 0x64 ∷ 0x20 ∷ 0x58 ∷ 0x20 ∷ 0x6F ∷ 0x6E ∷ 0x0A
    ∷ 0x6E ∷ 0x65 ∷ 0x76 ∷ 0x65 ∷ 0x72 ∷ 0x20 ∷ 0x71 ∷ 0x20 ∷ 0x6F ∷ 0x6E ∷ 0x20 ∷ 0x61 ∷ 0x6E ∷ 0x64 ∷ 0x20 ∷ 0x5A ∷ 0x20 ∷ 0x6F ∷ 0x6E ∷ 0x0A
    ∷ 0x6E ∷ 0x65 ∷ 0x76 ∷ 0x65 ∷ 0x72 ∷ 0x20 ∷ 0x58 ∷ 0x20 ∷ 0x6F ∷ 0x6E ∷ 0x20 ∷ 0x72 ∷ 0x61 ∷ 0x6E ∷ 0x6B ∷ 0x20 ∷ 0x31 ∷ 0x20 ∷ 0x61 ∷ 0x6E ∷ 0x64 ∷ 0x20
    ∷ 0x59 ∷ 0x20 ∷ 0x6F ∷ 0x6E ∷ 0x20 ∷ 0x72 ∷ 0x61 ∷ 0x6E ∷ 0x6B ∷ 0x20 ∷ 0x30 ∷ 0x0A
    ∷ 0x6E ∷ 0x65 ∷ 0x76 ∷ 0x65 ∷ 0x72 ∷ 0x20 ∷ 0x61 ∷ 0x20 ∷ 0x6F ∷ 0x66 ∷ 0x66 ∷ 0x20 ∷ 0x61 ∷ 0x6E ∷ 0x64 ∷ 0x20 ∷ 0x59 ∷ 0x20 ∷ 0x6F ∷ 0x6E ∷ 0x0A
    ∷ 0x65 ∷ 0x6E ∷ 0x64 ∷ 0x0A
    ∷ []

-- the text of the set of `file_with` where both outputs rest on: output A; output B; past b of B; rest A; rest B; never b on and A on; end
abbrev pub text_of_rest : List ℕ
text_of_rest =
    0x6F ∷ 0x75 ∷ 0x74 ∷ 0x70 ∷ 0x75 ∷ 0x74 ∷ 0x20 ∷ 0x41 ∷ 0x0A
    ∷ 0x6F ∷ 0x75 ∷ 0x74 ∷ 0x70 ∷ 0x75 ∷ 0x74 ∷ 0x20 ∷ 0x42 ∷ 0x0A
    ∷ 0x70 ∷ 0x61 ∷ 0x73 ∷ 0x74 ∷ 0x20 ∷ 0x62 ∷ 0x20 ∷ 0x6F ∷ 0x66 ∷ 0x20 ∷ 0x42 ∷ 0x0A
    ∷ 0x72 ∷ 0x65 ∷ 0x73 ∷ 0x74 ∷ 0x20 ∷ 0x41 ∷ 0x0A
    ∷ 0x72 ∷ 0x65 ∷ 0x73 ∷ 0x74 ∷ 0x20 ∷ 0x42 ∷ 0x0A
    ∷ 0x6E ∷ 0x65 ∷ 0x76 ∷ 0x65 ∷ 0x72 ∷ 0x20 ∷ 0x62 ∷ 0x20 ∷ 0x6F ∷ 0x6E ∷ 0x20 ∷ 0x61 ∷ 0x6E ∷ 0x64 ∷ 0x20 ∷ 0x41 ∷ 0x20 ∷ 0x6F ∷ 0x6E ∷ 0x0A
    ∷ 0x65 ∷ 0x6E ∷ 0x64 ∷ 0x0A
    ∷ []

-- texts, two of them of sets from the bytes of their files
abbrev pub text_cases : List Case
text_cases = texts P text_p ∷ texts (load_of file_of_kinds).set text_of_kinds ∷ texts (load_of (file_with (rest_bytes 0 3))).set text_of_rest ∷ []

-- ---- change request K8: one bit of scratch for each vector

-- no sensors, and so many of the outputs A to M: all of them may be on
abbrev pub idle : ℕ → Set
idle n = set_of [] (take n (map (λ (c : ℕ). c ∷ []) (0x41 ∷ 0x42 ∷ 0x43 ∷ 0x44 ∷ 0x45 ∷ 0x46 ∷ 0x47 ∷ 0x48 ∷ 0x49 ∷ 0x4A ∷ 0x4B ∷ 0x4C ∷ []))) []

-- of outputs A to D "D and not C" where C yields, "D and C" where C yields too: the walk from D alone, vector 8, the first of the second byte, goes round
abbrev pub circling_at8 : Set
circling_at8 =
    set_of [] ((0x41 ∷ []) ∷ (0x42 ∷ []) ∷ (0x43 ∷ []) ∷ (0x44 ∷ []) ∷ [])
    (product 0 0 8 4 (0 ∷ 0 ∷ 0 ∷ 1 ∷ []) ∷ product 0 0 12 0 (0 ∷ 0 ∷ 0 ∷ 1 ∷ []) ∷ [])

-- of outputs A to D "s and D", "s and not C", "s and not A": of the vectors where s is on those with A and C on and D off are safe, 5 and 7
abbrev pub late_at1 : Set
late_at1 =
    set_of (sensor_s ∷ []) ((0x41 ∷ []) ∷ (0x42 ∷ []) ∷ (0x43 ∷ []) ∷ (0x44 ∷ []) ∷ [])
    (product 1 0 8 0 [] ∷ product 1 0 0 4 [] ∷ product 1 0 0 1 [] ∷ [])

-- scratch of the sizes around those that are needed, and verdicts that go by bits of more than one byte
abbrev pub scratch_cases : List Case
scratch_cases =
    -- one byte up to three outputs, two for four, 512 for twelve; 21 with one less, and 20 before it
    judged (idle 1) 0 (no 21)
    ∷ judged (idle 1) 1 (no 0)
    ∷ judged (idle 2) 0 (no 21)
    ∷ judged (idle 2) 1 (no 0)
    ∷ judged (idle 3) 0 (no 21)
    ∷ judged (idle 3) 1 (no 0)
    ∷ judged (idle 4) 1 (no 21)
    ∷ judged (idle 4) 2 (no 0)
    ∷ judged (idle 12) 511 (no 21)
    ∷ judged (with_rest (idle 4) 16) 1 (no 20)
    -- with a byte for each vector, and with more, it is the same verdict
    ∷ judged (idle 4) 16 (no 0)
    ∷ judged P 4 (no 0)
    ∷ judged clashing 1 (58 ∷ 1 ∷ 0 ∷ [])
    ∷ judged clashing 2 (58 ∷ 1 ∷ 0 ∷ [])
    ∷ judged endless 1 (23 ∷ 0 ∷ 1 ∷ [])
    ∷ judged endless 4096 (23 ∷ 0 ∷ 1 ∷ [])
    -- a walk that goes round in the second byte; vectors that are safe in the middle of a byte
    ∷ judged circling_at8 2 (23 ∷ 0 ∷ 8 ∷ [])
    ∷ judged circling_at8 16 (23 ∷ 0 ∷ 8 ∷ [])
    ∷ scans late_at1 (call 1 0 ∷ call 1 15 ∷ call 0 8 ∷ call 1 2 ∷ []) (sent 5 0 ∷ sent 7 0 ∷ sent 8 0 ∷ sent 7 0 ∷ [])
    ∷ []

-- ---- change request K10

-- the four constraints that forbid every vector of A and B, where the read literals are true, and force nothing: each names both
abbrev pub covering : ℕ → ℕ → List Constraint
covering plain negated = product plain negated 3 0 [] ∷ product plain negated 1 2 [] ∷ product plain negated 2 1 [] ∷ product plain negated 0 3 [] ∷ []

-- "B", "not B", where the read literals are true
abbrev pub forbidding_b : ℕ → ℕ → List Constraint
forbidding_b plain negated = product plain negated 2 0 [] ∷ product plain negated 0 2 [] ∷ []

-- "s and A", "t and not A": A is forced both ways where both are on
abbrev pub two_sensors : Set
two_sensors = set_of (sensor_s ∷ sensor_t ∷ []) (name_a ∷ []) (product 1 0 1 0 [] ∷ product 2 0 0 1 [] ∷ [])

-- simple constraints that contradict: what 22 was, and what it is
abbrev pub clash_cases : List Case
clash_cases =
    -- document 01's own, and the same for the second of two sensors
    named clashing (22 ∷ 1 ∷ []) (58 ∷ 1 ∷ 0 ∷ [])
    ∷ named clashing_later (22 ∷ 2 ∷ []) (58 ∷ 2 ∷ 0 ∷ [])
    -- B alone; A and B, of which A is named, wherever they stand; A and B each one way, and C both ways
    ∷ named (set_of_aB [] (forbidding_b 0 0)) (22 ∷ 0 ∷ []) (58 ∷ 0 ∷ 1 ∷ [])
    ∷ named (set_of_aB [] (forbidding 0 0 ++ forbidding_b 0 0)) (22 ∷ 0 ∷ []) (58 ∷ 0 ∷ 0 ∷ [])
    ∷ named (set_of_aB [] (forbidding_b 0 0 ++ forbidding 0 0)) (22 ∷ 0 ∷ []) (58 ∷ 0 ∷ 0 ∷ [])
    ∷ named
    (set_of [] (name_a ∷ name_b ∷ name_c ∷ []) (product 0 0 1 0 [] ∷ product 0 0 0 2 [] ∷ product 0 0 4 0 [] ∷ product 0 0 0 4 [] ∷ []))
    (22 ∷ 0 ∷ []) (58 ∷ 0 ∷ 2 ∷ [])
    -- two read literals that are true together at word 3 alone
    ∷ named two_sensors (22 ∷ 3 ∷ []) (58 ∷ 3 ∷ 0 ∷ [])
    -- 22 without a clash: by combined constraints alone, and with A held on
    ∷ named (set_of_aB [] (covering 0 0)) (22 ∷ 0 ∷ []) (22 ∷ 0 ∷ [])
    ∷ named (set_of_aB [] (product 0 0 3 0 [] ∷ product 0 0 1 2 [] ∷ product 0 0 0 1 [] ∷ [])) (22 ∷ 0 ∷ []) (22 ∷ 0 ∷ [])
    -- a clash at a higher word than a missing vector changes nothing; one at the same word is named
    ∷ named (set_of_aB (sensor_s ∷ []) (covering 0 1 ++ forbidding 1 0)) (22 ∷ 0 ∷ []) (22 ∷ 0 ∷ [])
    ∷ named (set_of_aB (sensor_s ∷ []) (covering 0 1 ++ forbidding_b 0 0)) (22 ∷ 0 ∷ []) (58 ∷ 0 ∷ 1 ∷ [])
    -- an endless walk below a clash gives way to it; one where no vector is missing stays
    ∷ reordered (set_of_aB (sensor_s ∷ []) (circling 0 1 ++ forbidding_b 1 0)) (23 ∷ 0 ∷ 1 ∷ []) (58 ∷ 1 ∷ 1 ∷ [])
    ∷ named (set_of_aB (sensor_s ∷ []) (circling 0 1 ++ forbidding_b 1 0)) (22 ∷ 1 ∷ []) (58 ∷ 1 ∷ 1 ∷ [])
    ∷ named endless (23 ∷ 0 ∷ 1 ∷ []) (23 ∷ 0 ∷ 1 ∷ [])
    ∷ named P (0 ∷ []) (0 ∷ [])
    -- 20 and 21 before 58
    ∷ judged (with_rest clashing 2) 1 (no 20)
    ∷ judged clashing 0 (no 21)
    -- the reckoning at each word; a combined constraint forces nothing
    ∷ reckons two_sensors 0 (0 ∷ 0 ∷ 0 ∷ [])
    ∷ reckons two_sensors 1 (0 ∷ 1 ∷ 0 ∷ [])
    ∷ reckons two_sensors 2 (0 ∷ 0 ∷ 1 ∷ [])
    ∷ reckons two_sensors 3 (58 ∷ 0 ∷ [])
    ∷ reckons (set_of_aB [] (product 0 0 3 0 [] ∷ product 0 0 0 1 [] ∷ [])) 0 (0 ∷ 0 ∷ 1 ∷ [])
    -- a scan that meets a clash is answered by 33, and its state is kept: the past sensor word is that of the scan before
    ∷ scans_of (fresh_state clashing) (call 1 1 ∷ call 0 1 ∷ call 1 0 ∷ call 0 0 ∷ []) (no 33 ∷ sent 1 0 ∷ no 33 ∷ sent 0 0 ∷ [])
    ∷ []

-- ---- change request K11

-- a file of r sensors a, b, c and so on, n outputs A, B and so on, these fields of constraints, and the end
abbrev pub sensors_file : ℕ → ℕ → List ℕ → List ℕ
sensors_file r n constraints =
    (1 ∷ 0 ∷ 2 ∷ r ∷ n ∷ [])
    ++ joined r (λ k. 2 ∷ 0 ∷ 3 ∷ 0 ∷ 0 ∷ (0x61 + k) ∷ []) ++ joined n (λ k. 3 ∷ 0 ∷ 1 ∷ (0x41 + k) ∷ []) ++ constraints ++ (5 ∷ 0 ∷ 0 ∷ [])

-- a field 0x07 of one literal
abbrev pub wide_one : ℕ → ℕ → ℕ → List ℕ
wide_one a b c = 7 ∷ 0 ∷ 3 ∷ a ∷ b ∷ c ∷ []

-- a field 0x07 of two
abbrev pub wide_two : ℕ → ℕ → ℕ → ℕ → ℕ → ℕ → List ℕ
wide_two a b c d e f = 7 ∷ 0 ∷ 6 ∷ a ∷ b ∷ c ∷ d ∷ e ∷ f ∷ []

-- "sensor 16 and A"
abbrev pub sensor16 : List ℕ
sensor16 = wide_two 0x00 16 0 0x40 0 0

-- "A"
abbrev pub only_a : List ℕ
only_a = 4 ∷ 0 ∷ 2 ∷ 0x40 ∷ 0 ∷ []

-- "sensor 0 and A"
abbrev pub sensor0 : List ℕ
sensor0 = 4 ∷ 0 ∷ 4 ∷ 0x00 ∷ 0 ∷ 0x40 ∷ 0 ∷ []

-- no sensor of 20, and all of 4 outputs, each of another rank
abbrev pub all_named : List ℕ
all_named = (7 ∷ 0 ∷ 72 ∷ []) ++ joined 20 (λ k. 0x80 ∷ k ∷ 0 ∷ []) ++ joined 4 (λ k. 0x40 ∷ k ∷ (10 + k) ∷ [])

-- the sensors a, b, c and so on
abbrev pub sensors_to : ℕ → List ReadPoint
sensors_to r = listed r (λ k. read_of Sensor ((0x61 + k) ∷ []))

-- twenty sensors; "sensor 19 and A", "sensor 16, not sensor 3 and not B"
abbrev pub twenty : Set
twenty = set_of (sensors_to 20) (name_a ∷ name_b ∷ []) (product (2 ^ 19) 0 1 0 [] ∷ product (2 ^ 16) 8 0 2 [] ∷ [])

-- seventeen sensors; read point 17 is the past of sensor 16, and 18 that of A; "now, not past, A", "A was on, and B"
abbrev pub edge16 : Set
edge16 =
    set_of (sensors_to 17 ++ (read_of (PastSensor 16) (0x31 ∷ []) ∷ read_of (PastOutput 0) (0x32 ∷ []) ∷ [])) (name_a ∷ name_b ∷ [])
    (product (2 ^ 16) (2 ^ 17) 1 0 [] ∷ product (2 ^ 18) 0 2 0 [] ∷ [])

-- twenty sensors: files with both tags, each refusal of a field 0x07, and words above 65,535
abbrev pub twenty_cases : List Case
twenty_cases =
    -- one high sensor; both tags in turn; the longest body, of 24 literals
    rewritten (sensors_file 17 1 sensor16)
    ∷ rewritten (sensors_file 17 1 (sensor0 ++ wide_two 0x80 16 0 0xC0 0 9 ++ only_a ++ sensor16))
    ∷ rewritten (sensors_file 20 4 all_named)
    -- 59: number 15 alone, in a set of 17 and of 16 sensors, and outputs alone; before 11, and behind 9 and 10
    ∷ loads (sensors_file 17 1 (wide_two 0x00 15 0 0x40 0 0)) (59 ∷ 111 ∷ [])
    ∷ loads (sensors_file 16 1 (wide_two 0x00 15 0 0x40 0 0)) (59 ∷ 105 ∷ [])
    ∷ loads (sensors_file 17 1 (only_a ++ wide_one 0x40 0 0)) (59 ∷ 116 ∷ [])
    ∷ loads (sensors_file 17 1 (wide_one 0x00 15 0)) (59 ∷ 111 ∷ [])
    ∷ loads (sensors_file 17 1 (wide_two 0x00 15 0 0x00 17 0)) (9 ∷ 111 ∷ [])
    ∷ loads (sensors_file 17 1 (wide_two 0x00 15 0 0x00 14 0)) (10 ∷ 111 ∷ [])
    -- 11: no output; 10: an output before a read point
    ∷ loads (sensors_file 17 1 (wide_one 0x00 16 0)) (11 ∷ 111 ∷ [])
    ∷ loads (sensors_file 17 1 (wide_two 0x40 0 0 0x00 16 0)) (10 ∷ 111 ∷ [])
    -- 9: bit 5 or bit 0 of the first byte, sensor 17 of 17, 16 of 16 and 32, output 1 of 1, a rank on a read point
    ∷ loads (sensors_file 17 1 (wide_two 0x20 16 0 0x40 0 0)) (9 ∷ 111 ∷ [])
    ∷ loads (sensors_file 17 1 (wide_two 0x00 16 0 0x41 0 0)) (9 ∷ 111 ∷ [])
    ∷ loads (sensors_file 17 1 (wide_two 0x00 17 0 0x40 0 0)) (9 ∷ 111 ∷ [])
    ∷ loads (sensors_file 16 1 (wide_two 0x00 16 0 0x40 0 0)) (9 ∷ 105 ∷ [])
    ∷ loads (sensors_file 17 1 (wide_two 0x00 32 0 0x40 0 0)) (9 ∷ 111 ∷ [])
    ∷ loads (sensors_file 17 1 (wide_two 0x00 16 0 0x40 1 0)) (9 ∷ 111 ∷ [])
    ∷ loads (sensors_file 17 1 (wide_two 0x00 16 1 0x40 0 0)) (9 ∷ 111 ∷ [])
    -- 4: two bytes, four, and one literal too many
    ∷ loads (sensors_file 17 1 (7 ∷ 0 ∷ 2 ∷ 0 ∷ 16 ∷ [])) (4 ∷ 111 ∷ [])
    ∷ loads (sensors_file 17 1 (7 ∷ 0 ∷ 4 ∷ 0 ∷ 16 ∷ 0 ∷ 0x40 ∷ [])) (4 ∷ 111 ∷ [])
    ∷ loads (sensors_file 17 1 (7 ∷ 0 ∷ 75 ∷ replicate 75 0)) (4 ∷ 111 ∷ [])
    -- 3: a 65th constraint, of the other tag; 2: 0x07 before the outputs
    ∷ loads (sensors_file 17 1 (joined 64 (λ k. sensor16) ++ only_a)) (3 ∷ 687 ∷ [])
    ∷ loads (sensors_file 17 1 (joined 64 (λ k. only_a) ++ sensor16)) (3 ∷ 431 ∷ [])
    ∷ loads ((1 ∷ 0 ∷ 2 ∷ 0 ∷ 1 ∷ []) ++ wide_one 0x00 16 0) (2 ∷ 5 ∷ [])
    -- counts: 20 and 5, 21 and 1
    ∷ loads (sensors_file 20 5 []) (5 ∷ 0 ∷ [])
    ∷ loads (sensors_file 21 1 []) (5 ∷ 0 ∷ [])
    -- sensor words: 2^19 and 2^16 are allowed, and 2^20 is not; what is 2^16 more is not the same
    ∷ scans_of (fresh_state twenty) (call (2 ^ 19) 3 ∷ call (2 ^ 19 + 2 ^ 16) 1 ∷ call (2 ^ 16) 0 ∷ call (2 ^ 16 + 8) 0 ∷ call (2 ^ 20) 0 ∷ call 0 3 ∷ [])
    (sent 2 0 ∷ sent 2 0 ∷ sent 2 0 ∷ sent 0 0 ∷ no 31 ∷ sent 3 0 ∷ [])
    ∷ reckons twenty (2 ^ 19 + 2 ^ 16) (0 ∷ 1 ∷ 2 ∷ [])
    ∷ reckons twenty 8 (0 ∷ 0 ∷ 0 ∷ [])
    -- pasts of read points above 15: an edge of sensor 16, and B off behind A
    ∷ scans_of (fresh_state edge16) (call 0 1 ∷ call (2 ^ 16) 3 ∷ call (2 ^ 16) 3 ∷ call (2 ^ 17) 0 ∷ []) (sent 1 0 ∷ sent 0 0 ∷ sent 3 0 ∷ no 31 ∷ [])
    ∷ []
