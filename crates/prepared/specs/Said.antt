-- The set that bytes say: any bytes say one, well formed or not, and those of a well-formed set say that set.
-- Assumes nothing.
use Rattle.std.specs.Prelude.{ℕ, ◌+◌, ◌*◌, min, cond, List, [], ◌∷◌, eqb, get_or}
use Rattle.scan.specs.declared.set.Kind.{Kind}
use Rattle.scan.specs.declared.set.Kind.TheVariants.{Sensor, PastOutput, PastSensor}
use Rattle.scan.specs.declared.set.ReadPoint.{ReadPoint}
use Rattle.scan.specs.declared.set.OutputPoint.{OutputPoint}
use Rattle.scan.specs.declared.set.Constraint.{Constraint}
use Rattle.scan.specs.declared.set.Set.{Set}
use Rattle.scan.specs.Set.{most_reads, most_outputs, most_constraints, zero_read, zero_output, zero_constraint}
use Rattle.prepared.specs.Filled.{filled}

-- the kind of a byte and an index: 0 is a sensor, 1 the past of an output, any other that of a sensor
unfoldable pub kind_from : ℕ → ℕ → Kind
kind_from tag index = cond (eqb tag 0) Sensor (cond (eqb tag 1) (PastOutput index) (PastSensor index))

-- byte i
abbrev pub byte_in : List ℕ → ℕ → ℕ
byte_in b i = get_or b i 0

-- a number of two bytes, low byte first
abbrev pub two : ℕ → ℕ → ℕ
two low high = high * 256 + low

-- a number of four
abbrev pub four : ℕ → ℕ → ℕ → ℕ → ℕ
four a b c d = two c d * 65536 + two a b

-- the eight places of a name
abbrev pub name_in : List ℕ → ℕ → List ℕ
name_in b at =
    byte_in b at ∷ byte_in b (at + 1) ∷ byte_in b (at + 2) ∷ byte_in b (at + 3) ∷ byte_in b (at + 4) ∷ byte_in b (at + 5) ∷ byte_in b (at + 6) ∷ byte_in b (at + 7) ∷ []

-- the twelve ranks of a constraint
abbrev pub ranks_in : List ℕ → ℕ → List ℕ
ranks_in b at =
    byte_in b at ∷ byte_in b (at + 1) ∷ byte_in b (at + 2) ∷ byte_in b (at + 3) ∷ byte_in b (at + 4) ∷ byte_in b (at + 5) ∷ byte_in b (at + 6) ∷ byte_in b (at + 7)
    ∷ byte_in b (at + 8) ∷ byte_in b (at + 9) ∷ byte_in b (at + 10) ∷ byte_in b (at + 11) ∷ []

-- read point k
abbrev pub read_in : List ℕ → ℕ → ReadPoint
read_in b k = let at = 5 + 10 * k in record { kind = kind_from (byte_in b at) (byte_in b (at + 1)); name = name_in b (at + 2) }

-- output j
abbrev pub output_in : List ℕ → ℕ → OutputPoint
output_in b j = record { name = name_in b (205 + 8 * j) }

-- constraint i
abbrev pub constraint_in : List ℕ → ℕ → Constraint
constraint_in b i =
    let at = 301 + 24 * i in
    record {
      read_plain = four (byte_in b at) (byte_in b (at + 1)) (byte_in b (at + 2)) (byte_in b (at + 3));
      read_negated = four (byte_in b (at + 4)) (byte_in b (at + 5)) (byte_in b (at + 6)) (byte_in b (at + 7));
      out_plain = two (byte_in b (at + 8)) (byte_in b (at + 9));
      out_negated = two (byte_in b (at + 10)) (byte_in b (at + 11));
      ranks = ranks_in b (at + 12);
    }

-- the first `count` of `most` places, at most all, by f, and zeros behind them
abbrev pub first_of : {A : Type 0} → ℕ → ℕ → A → (ℕ → A) → List A
first_of count most zero f = filled most zero f (min count most)

-- the set: nothing is looked at behind the counts
unfoldable pub set_said : List ℕ → Set
set_said b = record {
  r = byte_in b 0;
  n = byte_in b 1;
  m = byte_in b 2;
  rest = two (byte_in b 3) (byte_in b 4);
  reads = first_of (byte_in b 0) most_reads zero_read (read_in b);
  outputs = first_of (byte_in b 1) most_outputs zero_output (output_in b);
  constraints = first_of (byte_in b 2) most_constraints zero_constraint (constraint_in b);
}
