-- The code's way to a text: bytes go to a place of a buffer and those behind it, as far as the buffer has them. The place is counted on in any case, so
-- that putting a text into a short buffer measures it; it stops at 65,536, and no text is longer.
-- Assumes nothing.
use Rattle.std.specs.Prelude.{ℕ, ◌+◌, ◌≡◌, Bool, false, cond, ◌||◌, List, [], ◌∷◌, ◌++◌, map, ltb, get_or, take, set, replicate}
use Rattle.words.specs.Word.{bit}
use Rattle.words.specs.Loop.{joined}
use Rattle.scan.specs.declared.set.Kind.{Kind}
use Rattle.scan.specs.declared.set.Kind.TheVariants.{Sensor, PastOutput, PastSensor}
use Rattle.scan.specs.declared.set.ReadPoint.{ReadPoint}
use Rattle.scan.specs.declared.set.OutputPoint.{OutputPoint}
use Rattle.scan.specs.declared.set.Constraint.{Constraint}
use Rattle.scan.specs.Set.{most_reads, most_outputs, outs}
use Rattle.scan.specs.Names.{name_bytes}
use Rattle.text.specs.Grammar.{sensor_word, past_word, of_word, rest_word, never_word}
use Rattle.text.specs.Text.{output_line, state_word, rank_words, behind, named_below, named_reads, several, parted, lines_text}

-- no text has more bytes
abbrev pub text_end : ℕ
text_end = 65536

-- the place behind a place
unfoldable pub next : ℕ → ℕ
next at = cond (ltb at text_end) (at + 1) at

-- the place behind bytes
unfoldable pub place_after : ℕ → List ℕ → ℕ
place_after at [] = at
place_after at (b ∷ bytes) = place_after (next at) bytes

-- the buffer with bytes put at a place, as far as it has one for them
unfoldable pub put_within : List ℕ → ℕ → List ℕ → List ℕ
put_within buf at [] = buf
put_within buf at (b ∷ bytes) = put_within (set buf at b) (next at) bytes

-- bytes were put at a place: the buffer after that, and the place behind them
abbrev pub Within : List ℕ → ℕ → List ℕ → List ℕ → ℕ → Type 0
Within buf at bytes after place = (after ≡ put_within buf at bytes) × (place ≡ place_after at bytes)

-- a literal: name, state and rank, if it is there, with `and` before it where others are
abbrev pub literal_if : Bool → Bool → List ℕ → Bool → Bool → ℕ → List (List ℕ)
literal_if there others name plain several rank = cond there (behind others (name ∷ state_word plain ∷ rank_words several rank)) []

-- the literal of point k of a list of names
unfoldable pub literal_at : Bool → List (List ℕ) → ℕ → ℕ → List ℕ → Bool → ℕ → List (List ℕ)
literal_at others names plain named ranks several k =
    literal_if (bit k named) (others || named_below named k) (name_bytes (get_or names k [])) (bit k plain) several (get_or ranks k 0)

-- ---- lines, with the names of points from lists of names

-- a line with its end
abbrev pub line_bytes : List (List ℕ) → List ℕ
line_bytes words = parted words ++ (0x0A ∷ [])

-- the lines of the first n outputs
abbrev pub outputs_bytes : List OutputPoint → ℕ → List ℕ
outputs_bytes outputs n = lines_text (map output_line (take n outputs))

-- `past`, a name, `of`, and another name
abbrev pub past_bytes : List ℕ → List ℕ → List ℕ
past_bytes name other = parted (past_word ∷ name_bytes name ∷ of_word ∷ name_bytes other ∷ [])

-- `sensor` and the name; `past`, the name, `of`, and the name of the output or sensor whose past it is
abbrev pub kind_line_by : List (List ℕ) → List (List ℕ) → List ℕ → Kind → List (List ℕ)
kind_line_by reads outputs name Sensor = sensor_word ∷ name ∷ []
kind_line_by reads outputs name (PastOutput i) = past_word ∷ name ∷ of_word ∷ name_bytes (get_or outputs i []) ∷ []
kind_line_by reads outputs name (PastSensor i) = past_word ∷ name ∷ of_word ∷ name_bytes (get_or reads i []) ∷ []

-- the line of a read point
abbrev pub read_line_by : List (List ℕ) → List (List ℕ) → ReadPoint → List (List ℕ)
read_line_by reads outputs p = kind_line_by reads outputs (name_bytes p.name) p.kind

-- the lines of the first r read points
abbrev pub reads_bytes : List (List ℕ) → List (List ℕ) → List ReadPoint → ℕ → List ℕ
reads_bytes reads outputs points r = lines_text (map (read_line_by reads outputs) (take r points))

-- `rest` and the name of an output, if it is on at rest
abbrev pub rest_if : Bool → List ℕ → List (List (List ℕ))
rest_if on name = cond on ((rest_word ∷ name ∷ []) ∷ []) []

-- the line of output k, if its bit is set in the rest word
unfoldable pub rest_line_by : List (List ℕ) → ℕ → ℕ → List (List (List ℕ))
rest_line_by outputs rest k = rest_if (bit k rest) (name_bytes (get_or outputs k []))

-- the lines of the outputs at rest
abbrev pub rests_bytes : List (List ℕ) → ℕ → List ℕ
rests_bytes outputs rest = lines_text (joined most_outputs (rest_line_by outputs rest))

-- the literals of a constraint's read points, which have no ranks
abbrev pub read_literals_by : List (List ℕ) → Constraint → List (List ℕ)
read_literals_by names c = joined most_reads (literal_at false names c.read_plain (named_reads c) (replicate most_reads 0) false)

-- the literals of a constraint's outputs
abbrev pub output_literals_by : List (List ℕ) → Constraint → List (List ℕ)
output_literals_by names c =
    joined most_outputs (literal_at (named_below (named_reads c) most_reads) names c.out_plain (outs c) c.ranks (several c))

-- the line of a constraint
abbrev pub never_line_by : List (List ℕ) → List (List ℕ) → Constraint → List (List ℕ)
never_line_by reads outputs c = never_word ∷ (read_literals_by reads c ++ output_literals_by outputs c)

-- the lines of the first m constraints
abbrev pub constraints_bytes : List (List ℕ) → List (List ℕ) → List Constraint → ℕ → List ℕ
constraints_bytes reads outputs constraints m = lines_text (map (never_line_by reads outputs) (take m constraints))
