-- What document 01 allows of a state, of a scan's words and of a name, and what stands under a point's number.
-- Assumes nothing.
use Rattle.std.specs.Prelude.{◌≡◌, true, List, ◌≢◌, ℕ, ◌^◌, ◌≤◌, ◌<◌, length, get_or}
use Rattle.scan.specs.declared.set.Kind.TheVariants.{Sensor}
use Rattle.scan.specs.declared.set.Set.{Set}
use Rattle.scan.specs.declared.set.State.{State}
use Rattle.scan.specs.Set.{kind, read_point, output_point}
use Rattle.scan.specs.Names.{name_bytes}
use Rattle.scan.specs.Shape.{well_formed}
use Rattle.machine.specs.Past.{sensor_before, read_word}
use Rattle.promise.specs.Terms.{Bit}

-- ---- scans

-- a state: its set is well formed, its past output word has n bits and its past sensor word r bits, read or not
abbrev pub StateAllowed : State → Type 0
StateAllowed st = (well_formed st.set ≡ true) × (st.past_output < 2 ^ st.set.n) × (st.past_sensor < 2 ^ st.set.r)

-- a sensor word: it has r bits, and those that are set are at sensors
abbrev pub SensorAllowed : Set → ℕ → Type 0
SensorAllowed s present = (present < 2 ^ s.r) × ((k : ℕ) → k < s.r → Bit k present → kind s k ≡ Sensor)

-- a request: it has n bits
abbrev pub RequestAllowed : Set → ℕ → Type 0
RequestAllowed s request = request < 2 ^ s.n

-- the read word of a scan: the sensor word, with past points filled in; what they read, bit by bit, `ReadsMean` says (specs/Meanings)
abbrev pub word_of : State → ℕ → ℕ
word_of st present = read_word st.set st.past_output (sensor_before st.accepted st.past_sensor present) present

-- ---- names

-- the bytes of read point k's name
abbrev pub read_name : Set → ℕ → List ℕ
read_name s k = name_bytes (read_point s.reads k).name

-- the bytes of output j's name
abbrev pub output_name : Set → ℕ → List ℕ
output_name s j = name_bytes (output_point s.outputs j).name

-- 1 to 8 bytes
abbrev pub LengthAllowed : List ℕ → Type 0
LengthAllowed bytes = (1 ≤ length bytes) × (length bytes ≤ 8)

-- each byte is 0x21 to 0x7E
abbrev pub NameBytes : List ℕ → Type 0
NameBytes bytes = (k : ℕ) → k < length bytes → (0x21 ≤ get_or bytes k 0) × (get_or bytes k 0 ≤ 0x7E)

-- bytes that a point may have as its name
abbrev pub IsName : List ℕ → Type 0
IsName bytes = LengthAllowed bytes × NameBytes bytes

-- no point of the set bears the name
abbrev pub NoPoint : Set → List ℕ → Type 0
NoPoint s bytes = ((k : ℕ) → k < s.r → read_name s k ≢ bytes) × ((j : ℕ) → j < s.n → output_name s j ≢ bytes)
