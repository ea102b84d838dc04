-- Document 01's terms, in bits and numbers: constraints, holds, passes and read words. No code computes these, and they are told by no definition that
-- the code meets but the parts of a set by number (`constraint`, `rank`), and what these are specs/FileSays tells from the bytes of a file.
-- specs/Meanings says that what the demands speak of is what stands here.
-- Assumes nothing.
use Rattle.std.specs.Prelude.{◌≡◌, Bool, true, ◌⊎◌, ◌≢◌, ◌↔◌, ℕ, ◌/◌, ◌%◌, ◌^◌, ◌≤◌, ◌<◌}
use Rattle.words.specs.Loop.{count}
use Rattle.scan.specs.declared.set.Kind.{Kind}
use Rattle.scan.specs.declared.set.Kind.TheVariants.{Sensor, PastOutput, PastSensor}
use Rattle.scan.specs.declared.set.Constraint.{Constraint}
use Rattle.scan.specs.declared.set.Set.{Set}
use Rattle.scan.specs.declared.set.State.{State}
use Rattle.scan.specs.Set.{constraint, rank}

-- bit k of a word is set
abbrev pub Bit : ℕ → ℕ → Type 0
Bit k word = word / 2 ^ k % 2 ≡ 1

-- ---- constraints: c is one, w a read word, v an output vector

-- a product of literals, by the masks of its plain and of its negated points: each plain one has its bit set in the word, no negated one has
abbrev pub AllTrue : ℕ → ℕ → ℕ → Type 0
AllTrue plain negated word = ((k : ℕ) → Bit k plain → Bit k word) × ((k : ℕ) → Bit k negated → ¬ Bit k word)

-- its read literals are all true
abbrev pub ReadsTrue : Constraint → ℕ → Type 0
ReadsTrue c w = AllTrue c.read_plain c.read_negated w

-- the constraint is true: all its literals are
abbrev pub IsTrue : Constraint → ℕ → ℕ → Type 0
IsTrue c w v = ReadsTrue c w × AllTrue c.out_plain c.out_negated v

-- it names output k, plain or negated
abbrev pub NamesOutput : Constraint → ℕ → Type 0
NamesOutput c k = Bit k c.out_plain ⊎ Bit k c.out_negated

-- simple: just one output is named
abbrev pub Simple : Constraint → Type 0
Simple c = (k : ℕ) × NamesOutput c k × ((j : ℕ) → NamesOutput c j → j ≡ k)

-- combined: two different ones are
abbrev pub Combined : Constraint → Type 0
Combined c = (j : ℕ) × (k : ℕ) × (j ≢ k) × NamesOutput c j × NamesOutput c k

-- constraint i of the set is true
abbrev pub TrueAt : Set → ℕ → ℕ → ℕ → Type 0
TrueAt s w v i = IsTrue (constraint s i) w v

-- a vector is safe: no constraint of the set, simple or combined, is true
abbrev pub Safe : Set → ℕ → ℕ → Type 0
Safe s w v = (i : ℕ) → i < s.m → ¬ TrueAt s w v i

-- ---- holds

-- F0 of output k: the read literals of some simple constraint with k plain are all true
abbrev pub HeldOff : Set → ℕ → ℕ → Type 0
HeldOff s w k = (i : ℕ) × (i < s.m) × Simple (constraint s i) × ReadsTrue (constraint s i) w × Bit k (constraint s i).out_plain

-- F1 of output k: likewise with k negated
abbrev pub HeldOn : Set → ℕ → ℕ → Type 0
HeldOn s w k = (i : ℕ) × (i < s.m) × Simple (constraint s i) × ReadsTrue (constraint s i) w × Bit k (constraint s i).out_negated

-- output k is held
abbrev pub Held : Set → ℕ → ℕ → Type 0
Held s w k = HeldOff s w k ⊎ HeldOn s w k

-- output k is forced both ways: some simple constraint holds it off, and some simple constraint holds it on
abbrev pub BothWays : Set → ℕ → ℕ → Type 0
BothWays s w k = HeldOff s w k × HeldOn s w k

-- f: the number of outputs below n that are not held, counted by a test that tells them
abbrev pub IsUnheldCount : Set → ℕ → ℕ → Type 0
IsUnheldCount s w f = (p : ℕ → Bool) × ((k : ℕ) → k < s.n → (p k ≡ true) ↔ (¬ Held s w k)) × (f ≡ count s.n p)

-- ---- a pass

-- output k of a constraint yields: it is named and not held, and no unheld output that the constraint names has a lower rank
abbrev pub Yields : Set → ℕ → Constraint → ℕ → Type 0
Yields s w c k = NamesOutput c k × (¬ Held s w k) × ((j : ℕ) → NamesOutput c j → ¬ Held s w j → rank c k ≤ rank c j)

-- a pass flips output k: some combined constraint is true under the vector, and k yields in it
abbrev pub Flipped : Set → ℕ → ℕ → ℕ → Type 0
Flipped s w v k = (i : ℕ) × (i < s.m) × Combined (constraint s i) × TrueAt s w v i × Yields s w (constraint s i) k

-- ---- a read word

-- what read point k reads, by its kind: its own bit of the sensor word, or the bit that its index names of the past output or past sensor word
abbrev pub BitRead : Kind → ℕ → ℕ → ℕ → ℕ → Type 0
BitRead Sensor output sensor present k = Bit k present
BitRead (PastOutput i) output sensor present k = Bit i output
BitRead (PastSensor i) output sensor present k = Bit i sensor

-- ---- a state

-- a set, a past output word and a past sensor word, and its mark: whether a scan was accepted since the start
abbrev pub state_with : Set → ℕ → ℕ → Bool → State
state_with s output sensor accepted = record { set = s; past_output = output; past_sensor = sensor; accepted = accepted }
