-- What a file says: the set that a loaded file gives, told from the bytes of its fields.
-- Assumes nothing.
use Rattle.std.specs.Prelude.{◌≡◌, true, cond, List, [], ◌∷◌, ◌++◌, map, ◌↔◌, ◌⊎◌, ℕ, ◌+◌, ◌*◌, ◌/◌, ◌%◌, ◌≤◌, ◌<◌, eqb, length, get_or, drop, replicate}
use Rattle.scan.specs.declared.set.Kind.{Kind}
use Rattle.scan.specs.declared.set.Kind.TheVariants.{Sensor, PastOutput, PastSensor}
use Rattle.scan.specs.declared.set.Set.{Set}
use Rattle.scan.specs.Set.{kind, constraint, rank}
use Rattle.shape.specs.Finding.{find_of}
use Rattle.shape.specs.Told.{find_told}
use Rattle.promise.specs.Fields.{in_fields, is_whole, tags, bodies, TagBody, constraints_in}
use Rattle.promise.specs.Allowed.{read_name, output_name}
use Rattle.promise.specs.Terms.{Bit, TrueAt}

-- ---- the fields of a file by number

-- the body of the k-th 0x02 field, of read point k
abbrev pub body_of_read : List ℕ → ℕ → List ℕ
body_of_read file k = get_or (bodies 0x02 (in_fields file)) k []

-- the body of the j-th 0x03 field, of output j
abbrev pub body_of_output : List ℕ → ℕ → List ℕ
body_of_output file j = get_or (bodies 0x03 (in_fields file)) j []

-- the i-th field of tag 0x04 or 0x07, of constraint i
abbrev pub field_of_constraint : List ℕ → ℕ → TagBody
field_of_constraint file i = get_or (constraints_in (in_fields file)) i (record { tag = 0; body = [] })

-- ---- kinds

-- kind 0 is a sensor, index 0; kind 1 is the past of output number index; kind 2 is the past of the read point of that number
abbrev pub KindSays : Kind → ℕ → ℕ → Type 0
KindSays Sensor number index = (number ≡ 0) × (index ≡ 0)
KindSays (PastOutput i) number index = (number ≡ 1) × (index ≡ i)
KindSays (PastSensor i) number index = (number ≡ 2) × (index ≡ i)

-- ---- the rest word

-- no 0x06 field, and the rest word is 0; or one, whose two bytes, the high one first, are the rest word, and it is not 0
abbrev pub RestSays : List (List ℕ) → ℕ → Type 0
RestSays rests word =
    ((rests ≡ []) × (word ≡ 0)) ⊎ ((high : ℕ) × (low : ℕ) × (rests ≡ (high ∷ low ∷ []) ∷ []) × (word ≡ 256 * high + low) × (0 < word))

-- ---- literals: two bytes each in 0x04, three in 0x07

-- the bytes of a literal
abbrev pub size_in : TagBody → ℕ
size_in f = cond (eqb f.tag 0x07) 3 2

-- a field has a literal of this number
abbrev pub HasLiteral : TagBody → ℕ → Type 0
HasLiteral f j = size_in f * j + size_in f ≤ length f.body

-- its byte i
abbrev pub byte_in : TagBody → ℕ → ℕ → ℕ
byte_in f j i = get_or f.body (size_in f * j + i) 0

-- its first byte
abbrev pub first_byte : TagBody → ℕ → ℕ
first_byte f j = byte_in f j 0

-- the number of its point: in 0x04 the low four bits of the first byte, in 0x07 the second byte
abbrev pub point_number : TagBody → ℕ → ℕ
point_number f j = cond (eqb f.tag 0x07) (byte_in f j 1) (first_byte f j % 16)

-- its rank: in 0x04 the second byte, in 0x07 the third
abbrev pub rank_byte : TagBody → ℕ → ℕ
rank_byte f j = cond (eqb f.tag 0x07) (byte_in f j 2) (byte_in f j 1)

-- in a word of its points the literal is true: the bit of its number is set, or, where bit 7 of the first byte marks it as negated, is not
abbrev pub TrueIn : ℕ → ℕ → ℕ → Type 0
TrueIn first number word = (¬ Bit 7 first → Bit number word) × (Bit 7 first → ¬ Bit number word)

-- at the read word w and the vector v the literal is true; bit 6 marks an output
abbrev pub LiteralTrue : ℕ → ℕ → ℕ → ℕ → Type 0
LiteralTrue first number w v = (¬ Bit 6 first → TrueIn first number w) × (Bit 6 first → TrueIn first number v)

-- a literal of the field has this in bits 7 and 6 of its first byte, 0 to 3, and this number
abbrev pub Says : TagBody → ℕ → ℕ → Type 0
Says f flags k = (j : ℕ) × HasLiteral f j × (first_byte f j / 64 ≡ flags) × (point_number f j ≡ k)

-- the masks of a constraint have a bit for each literal of the field, and no other
pub record MasksSay (file : List ℕ) (s : Set) (i k : ℕ) : Type 0 where
  pub read_plain : Bit k (constraint s i).read_plain ↔ Says (field_of_constraint file i) 0 k
  pub out_plain : Bit k (constraint s i).out_plain ↔ Says (field_of_constraint file i) 1 k
  pub read_negated : Bit k (constraint s i).read_negated ↔ Says (field_of_constraint file i) 2 k
  pub out_negated : Bit k (constraint s i).out_negated ↔ Says (field_of_constraint file i) 3 k

-- the constraint names a read point above 15, plain or negated
abbrev pub NamesAbove15 : Set → ℕ → Type 0
NamesAbove15 s i = (k : ℕ) × (15 < k) × (Bit k (constraint s i).read_plain ⊎ Bit k (constraint s i).read_negated)

-- the point that a literal speaks of is the one that finding gives for the name bytes of the field with its number
pub record Guards (file : List ℕ) (s : Set) (first number : ℕ) : Type 0 where
  pub output : Bit 6 first → find_told (find_of s (body_of_output file number)) ≡ 0 ∷ 1 ∷ number ∷ []
  pub read : ¬ Bit 6 first → find_told (find_of s (drop 2 (body_of_read file number))) ≡ 0 ∷ 0 ∷ number ∷ []

-- ---- the whole file

-- A file of bytes that loads, and its set s.
pub record FileSays (file : List ℕ) (s : Set) : Type 0 where
  -- one 0x01; r of 0x02; n of 0x03; those of 0x06; m of 0x04 or 0x07, in any order; one 0x05; nothing after
  pub whole : is_whole (in_fields file) ≡ true
  pub order : tags (in_fields file)
      ≡ 0x01 ∷ replicate s.r 0x02 ++ replicate s.n 0x03 ++ replicate (length (bodies 0x06 (in_fields file))) 0x06
      ++ map (λ f. f.tag) (constraints_in (in_fields file)) ++ 0x05 ∷ []
  pub many : length (constraints_in (in_fields file)) ≡ s.m
  -- the body of 0x01 is r, n
  pub counts : bodies 0x01 (in_fields file) ≡ (s.r ∷ s.n ∷ []) ∷ []
  -- the body of 0x02 is kind, index, name
  pub kinds : (k : ℕ) → k < s.r → KindSays (kind s k) (get_or (body_of_read file k) 0 0) (get_or (body_of_read file k) 1 0)
  pub read_names : (k : ℕ) → k < s.r → read_name s k ≡ drop 2 (body_of_read file k)
  -- the body of 0x03 is the name
  pub output_names : (j : ℕ) → j < s.n → output_name s j ≡ body_of_output file j
  -- the body of 0x06 is the rest word
  pub rest : RestSays (bodies 0x06 (in_fields file)) s.rest
  -- by name: an output that rests on is the one that finding gives for the name bytes of the field with its number
  pub rest_by_name : (k : ℕ) → Bit k s.rest → find_told (find_of s (body_of_output file k)) ≡ 0 ∷ 1 ∷ k ∷ []
  -- constraint i has 0x07 exactly when it names a read point above 15
  pub wide : (i : ℕ) → i < s.m → ((field_of_constraint file i).tag ≡ 0x07) ↔ NamesAbove15 s i
  -- it is true at (w, v) exactly when every literal of its field is
  pub constraints : (i : ℕ) → i < s.m → (w v : ℕ)
      → TrueAt s w v i ↔ ((j : ℕ) → HasLiteral (field_of_constraint file i) j → LiteralTrue (first_byte (field_of_constraint file i) j) (point_number (field_of_constraint file i) j) w v)
  -- it names the points of its literals and no others, plain or negated as they are there
  pub masks : (i : ℕ) → i < s.m → (k : ℕ) → MasksSay file s i k
  -- the rank of each output literal
  pub ranks : (i : ℕ) → i < s.m → (j : ℕ) → HasLiteral (field_of_constraint file i) j → Bit 6 (first_byte (field_of_constraint file i) j)
      → rank (constraint s i) (point_number (field_of_constraint file i) j) ≡ rank_byte (field_of_constraint file i) j
  -- by name: the constraint written for 07 guards 07
  pub by_name : (i : ℕ) → i < s.m → (j : ℕ) → HasLiteral (field_of_constraint file i) j
      → Guards file s (first_byte (field_of_constraint file i) j) (point_number (field_of_constraint file i) j)
