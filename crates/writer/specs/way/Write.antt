-- The code's way to a file: its parts, and a buffer with bytes put into it.
-- Assumes nothing.
use Rattle.std.specs.Prelude.{ℕ, ◌+◌, ◌^◌, ◌<◌, ◌≡◌, Bool, cond, List, [], ◌++◌, length, get_or, take, drop}
use Rattle.std.specs.Int.Bits.{bit_or}
use Rattle.words.specs.Loop.{joined}
use Rattle.words.specs.Word.{bit}
use Rattle.scan.specs.declared.set.ReadPoint.{ReadPoint}
use Rattle.scan.specs.declared.set.OutputPoint.{OutputPoint}
use Rattle.scan.specs.declared.set.Constraint.{Constraint}
use Rattle.scan.specs.Set.{most_reads, most_outputs, outs}
use Rattle.writer.specs.Write.{read_body, output_body, literal_bytes, constraint_tag, literal_body, read_tag, output_tag, fields_of}

-- the fields of the first r read points
abbrev pub read_fields : List ReadPoint → ℕ → List ℕ
read_fields reads r = fields_of read_tag read_body (take r reads)

-- the fields of the first n outputs
abbrev pub output_fields : List OutputPoint → ℕ → List ℕ
output_fields outputs n = fields_of output_tag output_body (take n outputs)

-- the fields of the first m constraints
abbrev pub constraint_fields : List Constraint → ℕ → List ℕ
constraint_fields constraints m = fields_of constraint_tag literal_body (take m constraints)

-- a constraint has no bits beyond the most points
abbrev pub FewPoints : Constraint → Type 0
FewPoints c = (bit_or c.read_plain c.read_negated < 2 ^ most_reads) × (outs c < 2 ^ most_outputs)

-- the flags of a literal's point, with the top bit set where the point is negated
abbrev pub signed_by : Bool → ℕ → ℕ
signed_by plain flags = cond plain flags (0x80 + flags)

-- the literal of point k, whose kind has these flags, if the point is named
unfoldable pub literal_at : Bool → ℕ → ℕ → ℕ → List ℕ → ℕ → List ℕ
literal_at wide flags plain named ranks k = cond (bit k named) (literal_bytes wide (signed_by (bit k plain) flags) k (get_or ranks k 0)) []

-- the literals of as many points as there are ranks
abbrev pub literals_at : Bool → ℕ → ℕ → ℕ → List ℕ → List ℕ
literals_at wide flags plain named ranks = joined (length ranks) (literal_at wide flags plain named ranks)

-- the buffer with bytes put at a place
abbrev pub put_at : List ℕ → ℕ → List ℕ → List ℕ
put_at buf at bytes = take at buf ++ (bytes ++ drop (at + length bytes) buf)

-- bytes were put at a place: the buffer after that, and the place behind them
abbrev pub Put : List ℕ → ℕ → List ℕ → List ℕ → ℕ → Type 0
Put buf at bytes after next = (after ≡ put_at buf at bytes) × (next ≡ at + length bytes)
