-- The text of a set: its outputs, its read points, the outputs of its rest word and its constraints by number, each on a line of its own, and `end`. Then putting it into a buffer.
-- Assumes nothing.
use Rattle.std.specs.Prelude.{ℕ, Bool, cond, not, ◌&&◌, ◌||◌, List, [], ◌∷◌, ◌++◌, map, eqb, leb, ltb, length, take, drop, Result, Ok, Err}
use Rattle.std.specs.Int.Bits.{bit_or}
use Rattle.words.specs.Word.{bit, popcount}
use Rattle.words.specs.Loop.{some, joined}
use Rattle.decimal.specs.Decimal.{decimal}
use Rattle.scan.specs.declared.set.Kind.{Kind}
use Rattle.scan.specs.declared.set.Kind.TheVariants.{Sensor, PastOutput, PastSensor}
use Rattle.scan.specs.declared.set.ReadPoint.{ReadPoint}
use Rattle.scan.specs.declared.set.OutputPoint.{OutputPoint}
use Rattle.scan.specs.declared.set.Constraint.{Constraint}
use Rattle.scan.specs.declared.set.Set.{Set}
use Rattle.scan.specs.Set.{most_reads, most_outputs, read_point, output_point, rank, outs}
use Rattle.scan.specs.Names.{name_bytes}
use Rattle.scan.specs.Shape.{well_formed}
use Rattle.shape.specs.declared.putting.PutError.{PutError}
use Rattle.shape.specs.declared.putting.PutError.TheVariants.{BadSet, Short}
use Rattle.text.specs.Grammar.{output_word, sensor_word, past_word, of_word, rest_word, never_word, and_word, on_word, off_word, rank_word, end_word}

-- ---- the words of points

-- `output` and the name
abbrev pub output_line : OutputPoint → List (List ℕ)
output_line p = output_word ∷ name_bytes p.name ∷ []

-- the bytes of output k's name
abbrev pub output_name : List OutputPoint → ℕ → List ℕ
output_name outputs k = name_bytes (output_point outputs k).name

-- the bytes of read point k's name
abbrev pub read_name : List ReadPoint → ℕ → List ℕ
read_name reads k = name_bytes (read_point reads k).name

-- `sensor` and the name; `past`, the name, `of`, and the name of the output or sensor whose past it is
abbrev pub kind_line : Set → List ℕ → Kind → List (List ℕ)
kind_line s name Sensor = sensor_word ∷ name ∷ []
kind_line s name (PastOutput i) = past_word ∷ name ∷ of_word ∷ output_name s.outputs i ∷ []
kind_line s name (PastSensor i) = past_word ∷ name ∷ of_word ∷ read_name s.reads i ∷ []

-- the line of a read point
abbrev pub read_line : Set → ReadPoint → List (List ℕ)
read_line s p = kind_line s (name_bytes p.name) p.kind

-- `rest` and the name of output k, if its bit is set in the rest word
unfoldable pub rest_line : Set → ℕ → List (List (List ℕ))
rest_line s k = cond (bit k s.rest) ((rest_word ∷ output_name s.outputs k ∷ []) ∷ []) []

-- ---- the words of a constraint

-- `on` for a literal that is plain, `off` for one that is negated
abbrev pub state_word : Bool → List ℕ
state_word plain = cond plain on_word off_word

-- `rank` and the number, where the constraint names several outputs or the rank is not 0
abbrev pub rank_words : Bool → ℕ → List (List ℕ)
rank_words several rank = cond (several || not (eqb rank 0)) (rank_word ∷ decimal rank ∷ []) []

-- `and` before what others stand before
abbrev pub behind : Bool → List (List ℕ) → List (List ℕ)
behind others words = cond others (and_word ∷ words) words

-- a point of a lower number is named
abbrev pub named_below : ℕ → ℕ → Bool
named_below named k = some k (λ i. bit i named)

-- the read points that a constraint names, plain or negated
abbrev pub named_reads : Constraint → ℕ
named_reads c = bit_or c.read_plain c.read_negated

-- the literal of read point k, if the constraint has one: the name, and its state
unfoldable pub read_literal : Set → Constraint → ℕ → List (List ℕ)
read_literal s c k =
    cond (bit k (named_reads c)) (behind (named_below (named_reads c) k) (read_name s.reads k ∷ state_word (bit k c.read_plain) ∷ [])) []

-- the constraint names several outputs: it is combined
abbrev pub several : Constraint → Bool
several c = ltb 1 (popcount (outs c))

-- the literal of output k, if the constraint has one: the name, its state, and its rank; read points stand before outputs
unfoldable pub output_literal : Set → Constraint → ℕ → List (List ℕ)
output_literal s c k =
    cond (bit k (outs c))
    (behind (named_below (named_reads c) most_reads || named_below (outs c) k)
    (output_name s.outputs k ∷ state_word (bit k c.out_plain) ∷ rank_words (several c) (rank c k)))
    []

-- `never`, and the literals with `and` between them: read points by number, then outputs by number
unfoldable pub never_line : Set → Constraint → List (List ℕ)
never_line s c = never_word ∷ (joined most_reads (read_literal s c) ++ joined most_outputs (output_literal s c))

-- ---- the text

-- the lines of a set, each as its words
unfoldable pub shown_lines : Set → List (List (List ℕ))
shown_lines s =
    map output_line (take s.n s.outputs)
    ++ map (read_line s) (take s.r s.reads)
    ++ joined most_outputs (rest_line s)
    ++ map (never_line s) (take s.m s.constraints)
    ++ ((end_word ∷ []) ∷ [])

-- words with one space before each
unfoldable pub spaced_words : List (List ℕ) → List ℕ
spaced_words [] = []
spaced_words (w ∷ ws) = (0x20 ∷ w) ++ spaced_words ws

-- words with one space between them
abbrev pub parted : List (List ℕ) → List ℕ
parted [] = []
parted (w ∷ ws) = w ++ spaced_words ws

-- lines, each with its end behind it
unfoldable pub lines_text : List (List (List ℕ)) → List ℕ
lines_text [] = []
lines_text (l ∷ ls) = (parted l ++ (0x0A ∷ [])) ++ lines_text ls

-- the text of a set
unfoldable pub text_of : Set → List ℕ
text_of s = lines_text (shown_lines s)

-- ---- putting it into a buffer

-- 20; 24 with the length needed where the buffer has fewer bytes; or the length
unfoldable pub text_answer : Set → ℕ → Result ℕ PutError
text_answer s room =
    let needed = length (text_of s) in
    cond (not (well_formed s)) (Err BadSet)
    (cond (ltb room needed) (Err (Short needed)) (Ok needed))

-- the text at the front and later bytes as they were; on a refusal the buffer as it was
unfoldable pub buffer_after : Set → List ℕ → List ℕ
buffer_after s buf =
    let text = text_of s in
    cond (well_formed s && leb (length text) (length buf)) (text ++ drop (length text) buf) buf
