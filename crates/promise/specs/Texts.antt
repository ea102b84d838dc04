-- What the text of a set says, read off its bytes: lines ended by LF, words parted by one space. Nothing here is taken from the definition that prints it
-- but what it puts (`text_of`), and how putting is answered (`text_answer`, `buffer_after`). The words of the grammar are written out again.
-- Assumes nothing.
use Rattle.std.specs.Prelude.{◌≡◌, true, false, cond, List, [], ◌∷◌, ◌++◌, ◌↔◌, ◌⊎◌, ◌≢◌, ℕ, zero, suc, ◌+◌, ◌≤◌, ◌<◌, eqb, length, get_or, drop}
use Rattle.decimal.specs.Digits.{said}
use Rattle.scan.specs.declared.set.Kind.{Kind}
use Rattle.scan.specs.declared.set.Kind.TheVariants.{Sensor, PastOutput, PastSensor}
use Rattle.scan.specs.declared.set.Set.{Set}
use Rattle.scan.specs.Set.{kind, constraint, rank}
use Rattle.scan.specs.Shape.{well_formed}
use Rattle.shape.specs.Finding.{find_of}
use Rattle.shape.specs.Told.{find_told}
use Rattle.text.specs.Text.{text_of, text_answer, buffer_after}
use Rattle.text.specs.Told.{text_told}
use Rattle.promise.specs.Allowed.{read_name, output_name}
use Rattle.promise.specs.Column.{same_bytes}
use Rattle.promise.specs.Terms.{Bit, Combined, TrueAt}

-- ---- lines and words

-- one byte more at the front of the first part
abbrev pub with_byte : ℕ → List (List ℕ) → List (List ℕ)
with_byte b [] = (b ∷ []) ∷ []
with_byte b (part ∷ parts) = (b ∷ part) ∷ parts

-- what stands before, between and behind the bytes that are `mark`
unfoldable pub parts_at : ℕ → List ℕ → List (List ℕ)
parts_at mark [] = [] ∷ []
parts_at mark (b ∷ bytes) = let more = parts_at mark bytes in cond (eqb b mark) ([] ∷ more) (with_byte b more)

-- the lines of a text, and what stands behind the last LF
abbrev pub lines_of : List ℕ → List (List ℕ)
lines_of text = parts_at 0x0A text

-- line k
abbrev pub line_at : List ℕ → ℕ → List ℕ
line_at text k = get_or (lines_of text) k []

-- the words of line k
abbrev pub words_of : List ℕ → ℕ → List (List ℕ)
words_of text k = parts_at 0x20 (line_at text k)

-- ---- the words of the grammar

-- output
abbrev pub output_word : List ℕ
output_word = 0x6F ∷ 0x75 ∷ 0x74 ∷ 0x70 ∷ 0x75 ∷ 0x74 ∷ []

-- sensor
abbrev pub sensor_word : List ℕ
sensor_word = 0x73 ∷ 0x65 ∷ 0x6E ∷ 0x73 ∷ 0x6F ∷ 0x72 ∷ []

-- past
abbrev pub past_word : List ℕ
past_word = 0x70 ∷ 0x61 ∷ 0x73 ∷ 0x74 ∷ []

-- of
abbrev pub of_word : List ℕ
of_word = 0x6F ∷ 0x66 ∷ []

-- rest
abbrev pub rest_word : List ℕ
rest_word = 0x72 ∷ 0x65 ∷ 0x73 ∷ 0x74 ∷ []

-- never
abbrev pub word_never : List ℕ
word_never = 0x6E ∷ 0x65 ∷ 0x76 ∷ 0x65 ∷ 0x72 ∷ []

-- and
abbrev pub and_word : List ℕ
and_word = 0x61 ∷ 0x6E ∷ 0x64 ∷ []

-- on
abbrev pub on_word : List ℕ
on_word = 0x6F ∷ 0x6E ∷ []

-- off
abbrev pub off_word : List ℕ
off_word = 0x6F ∷ 0x66 ∷ 0x66 ∷ []

-- rank
abbrev pub rank_word : List ℕ
rank_word = 0x72 ∷ 0x61 ∷ 0x6E ∷ 0x6B ∷ []

-- end
abbrev pub end_word : List ℕ
end_word = 0x65 ∷ 0x6E ∷ 0x64 ∷ []

-- ---- read points

-- `sensor` and the name; `past`, the name, `of`, and the name of the output or of the read point whose past it is
abbrev pub ReadShown : Set → ℕ → Kind → List (List ℕ) → Type 0
ReadShown s k Sensor words = words ≡ sensor_word ∷ read_name s k ∷ []
ReadShown s k (PastOutput i) words = words ≡ past_word ∷ read_name s k ∷ of_word ∷ output_name s i ∷ []
ReadShown s k (PastSensor i) words = words ≡ past_word ∷ read_name s k ∷ of_word ∷ read_name s i ∷ []

-- ---- outputs at rest

-- `rest` and the name of output k
abbrev pub RestShown : Set → ℕ → List (List ℕ) → Type 0
RestShown s k words = words ≡ rest_word ∷ output_name s k ∷ []

-- ---- constraints

-- a literal as it stands in a line: the word before it, its name, its state, and the digits of its rank, none where it has no rank
pub record Shown : Type 0 where
  pub before : List ℕ
  pub name : List ℕ
  pub state : List ℕ
  pub digits : List ℕ

-- the literals in words, at most so many: each is the word before it, its name and its state, and then `rank` and digits where `rank` stands there
unfoldable pub literals_in : ℕ → List (List ℕ) → List Shown
literals_in zero words = []
literals_in (suc most) [] = []
literals_in (suc most) (before ∷ words) =
    let ranked = same_bytes (get_or words 2 []) rank_word in
    let literal : Shown = record { before = before; name = get_or words 0 []; state = get_or words 1 []; digits = cond ranked (get_or words 3 []) [] } in
    let more = literals_in most (drop (cond ranked 4 2) words) in
    literal ∷ more

-- the literals of line k
abbrev pub literals_of : List ℕ → ℕ → List Shown
literals_of text k = literals_in (length (words_of text k)) (words_of text k)

-- the words of a rank, none where there are no digits
abbrev pub rank_behind : List ℕ → List (List ℕ)
rank_behind [] = []
rank_behind (d ∷ ds) = rank_word ∷ (d ∷ ds) ∷ []

-- the words of literals, three or five each
abbrev pub as_words : List Shown → List (List ℕ)
as_words [] = []
as_words (l ∷ ls) = (l.before ∷ l.name ∷ l.state ∷ rank_behind l.digits) ++ as_words ls

-- it is one of the list
abbrev pub Among : {A : Type 0} → A → List A → Type 0
Among x [] = ⊥
Among x (y ∷ l) = (y ≡ x) ⊎ Among x l

-- the word stands before the first, and `and` before each later one
abbrev pub Opened : List ℕ → List Shown → Type 0
Opened word [] = Unit {0}
Opened word (l ∷ ls) = (l.before ≡ word) × Opened and_word ls

-- finding gives read point k for the literal's name
abbrev pub OfRead : Set → Shown → ℕ → Type 0
OfRead s l k = find_told (find_of s l.name) ≡ 0 ∷ 0 ∷ k ∷ []

-- finding gives output k for it
abbrev pub OfOutput : Set → Shown → ℕ → Type 0
OfOutput s l k = find_told (find_of s l.name) ≡ 0 ∷ 1 ∷ k ∷ []

-- in a word of its points: `on`, and the bit is set, or `off`, and it is not
abbrev pub StandsIn : List ℕ → ℕ → ℕ → Type 0
StandsIn state k word = ((state ≡ on_word) × Bit k word) ⊎ ((state ≡ off_word) × (¬ Bit k word))

-- at the read word w and the vector v the literal is true: the point that bears its name stands as it says
abbrev pub ShownTrue : Set → Shown → ℕ → ℕ → Type 0
ShownTrue s l w v = ((k : ℕ) × OfRead s l k × StandsIn l.state k w) ⊎ ((k : ℕ) × OfOutput s l k × StandsIn l.state k v)

-- a literal of the line is of read point k, in this state
abbrev pub SaysRead : Set → List Shown → ℕ → List ℕ → Type 0
SaysRead s line k state = (l : Shown) × Among l line × OfRead s l k × (l.state ≡ state)

-- a literal of the line is of output k, in this state
abbrev pub SaysOutput : Set → List Shown → ℕ → List ℕ → Type 0
SaysOutput s line k state = (l : Shown) × Among l line × OfOutput s l k × (l.state ≡ state)

-- one literal of constraint i
pub record LiteralSays (s : Set) (i : ℕ) (l : Shown) : Type 0 where
  -- it is of a point of the set, `on` or `off`
  pub point : ((k : ℕ) × OfRead s l k) ⊎ ((k : ℕ) × OfOutput s l k)
  pub state : (l.state ≡ on_word) ⊎ (l.state ≡ off_word)
  -- the rank of an output is what its digits say, 0 where it has none; in a combined constraint each has its own
  pub ranks : (k : ℕ) → OfOutput s l k → rank (constraint s i) k ≡ said l.digits
  pub ranked : Combined (constraint s i) → (k : ℕ) → OfOutput s l k → 1 ≤ length l.digits
  pub digits : (j : ℕ) → j < length l.digits → (0x30 ≤ get_or l.digits j 0) × (get_or l.digits j 0 ≤ 0x39)
  -- no zero stands before other digits
  pub shortest : 2 ≤ length l.digits → get_or l.digits 0 0 ≢ 0x30
  -- a read point has no rank
  pub no_rank : (k : ℕ) → OfRead s l k → l.digits ≡ []

-- the line of constraint i
pub record NeverSays (s : Set) (i : ℕ) (line : List Shown) : Type 0 where
  -- `never` stands before the first literal, and `and` before each later one
  pub some : 1 ≤ length line
  pub opened : Opened word_never line
  -- the constraint is true at (w, v) exactly when every literal of the line is
  pub true_when : (w v : ℕ) → TrueAt s w v i ↔ ((l : Shown) → Among l line → ShownTrue s l w v)
  -- it names the points of these literals and no others, plain where `on` is said and negated where `off` is
  pub read_plain : (k : ℕ) → Bit k (constraint s i).read_plain ↔ SaysRead s line k on_word
  pub read_negated : (k : ℕ) → Bit k (constraint s i).read_negated ↔ SaysRead s line k off_word
  pub out_plain : (k : ℕ) → Bit k (constraint s i).out_plain ↔ SaysOutput s line k on_word
  pub out_negated : (k : ℕ) → Bit k (constraint s i).out_negated ↔ SaysOutput s line k off_word
  pub each : (l : Shown) → Among l line → LiteralSays s i l

-- ---- the whole text

-- A well-formed set s, and its text.
pub record TextSays (s : Set) (text : List ℕ) : Type 0 where
  -- so many lines are of outputs at rest
  pub resting : ℕ
  -- n lines of outputs, r of read points, those of outputs at rest, m of constraints, and `end`; nothing stands behind its LF
  pub count : length (lines_of text) ≡ s.n + s.r + resting + s.m + 2
  pub last : line_at text (s.n + s.r + resting + s.m) ≡ end_word
  pub nothing_after : line_at text (s.n + s.r + resting + s.m + 1) ≡ []
  -- line j is `output` and the name of output j, to the byte
  pub outputs : (j : ℕ) → j < s.n → words_of text j ≡ output_word ∷ output_name s j ∷ []
  -- then the read points by number, each with its kind
  pub reads : (k : ℕ) → k < s.r → ReadShown s k (kind s k) (words_of text (s.n + k))
  -- then a line for each output whose bit is set in the rest word, `rest` and its name, and no others; each has one
  pub at_rest : (j : ℕ) → j < resting → (k : ℕ) × Bit k s.rest × RestShown s k (words_of text (s.n + s.r + j))
  pub rests : (k : ℕ) → Bit k s.rest → (j : ℕ) × (j < resting) × RestShown s k (words_of text (s.n + s.r + j))
  -- by number: of two such lines the later is of the higher output
  pub rising : (i j : ℕ) → i < j → j < resting → (p q : ℕ) → p < s.n → q < s.n
      → RestShown s p (words_of text (s.n + s.r + i)) → RestShown s q (words_of text (s.n + s.r + j)) → p < q
  -- then the constraints by number: the words of their lines are literals, and nothing else
  pub literals : (i : ℕ) → i < s.m → words_of text (s.n + s.r + resting + i) ≡ as_words (literals_of text (s.n + s.r + resting + i))
  pub constraints : (i : ℕ) → i < s.m → NeverSays s i (literals_of text (s.n + s.r + resting + i))

-- ---- putting the text of any set into any buffer

pub record TextRefusals (s : Set) (buf : List ℕ) : Type 0 where
  pub not_formed : (text_told (text_answer s (length buf)) ≡ 20 ∷ []) ↔ (well_formed s ≡ false)
  -- 24, with the length needed, exactly when the buffer is shorter than the text
  pub short : (needed : ℕ) → (text_told (text_answer s (length buf)) ≡ 24 ∷ needed ∷ [])
      ↔ ((well_formed s ≡ true) × (needed ≡ length (text_of s)) × (length buf < needed))
  -- else the length of the text is told
  pub put : (size : ℕ) → (text_told (text_answer s (length buf)) ≡ 0 ∷ size ∷ [])
      ↔ ((well_formed s ≡ true) × (size ≡ length (text_of s)) × (size ≤ length buf))
  -- the text stands at the front of the buffer, and later bytes are as they were
  pub front : (size : ℕ) → text_told (text_answer s (length buf)) ≡ 0 ∷ size ∷ [] → buffer_after s buf ≡ text_of s ++ drop size buf
  -- a refusal leaves the buffer as it was
  pub untouched : ((size : ℕ) → text_told (text_answer s (length buf)) ≢ 0 ∷ size ∷ []) → buffer_after s buf ≡ buf

-- ---- all of these

pub record Texts : Type 0 where
  pub putting : (s : Set) (buf : List ℕ) → TextRefusals s buf
  -- no text is longer than this
  pub most : (s : Set) → well_formed s ≡ true → length (text_of s) ≤ 65536
  pub says : (s : Set) → well_formed s ≡ true → TextSays s (text_of s)
  -- what a text says is the whole set: no other well-formed set has it said of it
  pub one_set : (s t : Set) → well_formed s ≡ true → well_formed t ≡ true → (text : List ℕ) → TextSays s text → TextSays t text → s ≡ t
  -- so two well-formed sets with the same text are the same set
  pub one_text : (s t : Set) → well_formed s ≡ true → well_formed t ≡ true → text_of s ≡ text_of t → s ≡ t
