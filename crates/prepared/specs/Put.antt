-- The bytes of a set that a caller keeps: five of its counts and its rest word, then ten of each of the twenty places for read points, eight of each of the
-- twelve for outputs and twenty-four of each of the sixty-four for constraints. Nobody need believe the layout: specs/Said reads the set back.
-- Assumes nothing.
use Rattle.std.specs.Prelude.{ℕ, ◌-◌, ◌/◌, ◌%◌, ◌^◌, cond, List, [], ◌∷◌, ltb, get_or}
use Rattle.words.specs.Loop.{listed}
use Rattle.scan.specs.declared.set.Kind.{Kind}
use Rattle.scan.specs.declared.set.Kind.TheVariants.{Sensor, PastOutput, PastSensor}
use Rattle.scan.specs.declared.set.ReadPoint.{ReadPoint}
use Rattle.scan.specs.declared.set.Constraint.{Constraint}
use Rattle.scan.specs.declared.set.Set.{Set}
use Rattle.scan.specs.Set.{read_point, output_point, constraint}
use Rattle.prepared.specs.Filled.{filled}

-- how many bytes there are
abbrev pub prepared_bytes : ℕ
prepared_bytes = 1837

-- byte j of a number, the lowest first
abbrev pub digit : ℕ → ℕ → ℕ
digit x j = x / 256 ^ j % 256

-- a kind's byte, as in a set file
abbrev pub kind_byte : Kind → ℕ
kind_byte Sensor = 0
kind_byte (PastOutput i) = 1
kind_byte (PastSensor i) = 2

-- the output or the read point whose past it is; 0 for a sensor
abbrev pub index_byte : Kind → ℕ
index_byte Sensor = 0
index_byte (PastOutput i) = i
index_byte (PastSensor i) = i

-- the counts, and the rest word, low byte first
abbrev pub head_bytes : Set → List ℕ
head_bytes s = s.r % 256 ∷ s.n % 256 ∷ s.m % 256 ∷ digit s.rest 0 ∷ digit s.rest 1 ∷ []

-- a read point: its kind, its index and the places of its name
abbrev pub read_bytes : ReadPoint → List ℕ
read_bytes p = kind_byte p.kind ∷ index_byte p.kind ∷ p.name

-- a constraint: its four masks, low byte first, and its ranks
abbrev pub constraint_bytes : Constraint → List ℕ
constraint_bytes c =
    let rp = c.read_plain in
    let rn = c.read_negated in
    let op = c.out_plain in
    let on = c.out_negated in
    digit rp 0 ∷ digit rp 1 ∷ digit rp 2 ∷ digit rp 3 ∷ digit rn 0 ∷ digit rn 1 ∷ digit rn 2 ∷ digit rn 3
    ∷ digit op 0 ∷ digit op 1 ∷ digit on 0 ∷ digit on 1 ∷ c.ranks

-- byte i
unfoldable pub byte_of : Set → ℕ → ℕ
byte_of s i =
    cond (ltb i 5) (get_or (head_bytes s) i 0)
    (cond (ltb i 205) (get_or (read_bytes (read_point s.reads ((i - 5) / 10))) ((i - 5) % 10) 0)
    (cond (ltb i 301) (get_or (output_point s.outputs ((i - 205) / 8)).name ((i - 205) % 8) 0)
    (get_or (constraint_bytes (constraint s ((i - 301) / 24))) ((i - 301) % 24) 0)))

-- the first i of them, with zeros behind them
abbrev pub up_to : Set → ℕ → List ℕ
up_to s i = filled prepared_bytes 0 (byte_of s) i

-- all of them
unfoldable pub bytes_of : Set → List ℕ
bytes_of s = listed prepared_bytes (byte_of s)
