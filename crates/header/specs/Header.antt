-- A field: one-byte tag, two-byte length (high byte first), body. First what every kind of file shares: the field at the front of what is left,
-- whatever its tag. Then the tests 1 to 4 of a set file's field, in that order.
-- Assumes nothing.
use Rattle.std.specs.Prelude.{ℕ, ◌+◌, ◌*◌, ◌%◌, Bool, true, false, cond, not, ◌&&◌, ◌||◌, List, [], ◌∷◌, Option, None as Cut, Some, ltb, leb, eqb, length, get_or, take, drop}
use Rattle.scan.specs.Set.{most_constraints}
use Rattle.header.specs.Tag.{is_constraint}
use Rattle.header.specs.declared.header.Field.{Field as FieldRead}

-- ---- the field at the front of what is left, whatever its tag

-- the body's length that a header states
abbrev pub body_length : List ℕ → ℕ
body_length s = get_or s 1 0 * 256 + get_or s 2 0

-- header or body runs past the end
abbrev pub is_cut : List ℕ → Bool
is_cut s = ltb (length s) 3 || ltb (length s) (3 + body_length s)

-- a field of this tag and a body of this length
abbrev pub whole : ℕ → ℕ → Option FieldRead
whole tag len = Some (record { tag = tag; len = len })

-- that it is cut, or its tag and the length of its body
unfoldable pub raw_of : List ℕ → Option FieldRead
raw_of s = cond (is_cut s) Cut (whole (get_or s 0 0) (body_length s))

-- the body of such a field
abbrev pub body_of : List ℕ → ℕ → List ℕ
body_of s len = take len (drop 3 s)

-- ---- the table by tag; there is no tag 0

-- tags are below this
abbrev pub tag_bound : ℕ
tag_bound = 8

-- the shortest body
abbrev pub shortest : ℕ → ℕ
shortest tag = get_or (0 ∷ 2 ∷ 3 ∷ 1 ∷ 2 ∷ 0 ∷ 2 ∷ 3 ∷ []) tag 0

-- the longest body
abbrev pub longest : ℕ → ℕ
longest tag = get_or (0 ∷ 2 ∷ 10 ∷ 8 ∷ 48 ∷ 0 ∷ 2 ∷ 72 ∷ []) tag 0

-- what a body's length is a multiple of
abbrev pub step : ℕ → ℕ
step tag = get_or (1 ∷ 1 ∷ 1 ∷ 1 ∷ 2 ∷ 1 ∷ 1 ∷ 3 ∷ []) tag 0

-- the length is in the table
abbrev pub fits_table : ℕ → ℕ → Bool
fits_table tag len = ltb tag tag_bound && (leb (shortest tag) len && (leb len (longest tag) && eqb (len % step tag) 0))

-- ---- the tests of a set file's field

-- the tag is due; where constraints are due, both their tags are, and the end is due too
abbrev pub is_due : ℕ → ℕ → Bool
is_due due tag = eqb tag due || (eqb due 4 && (eqb tag 5 || eqb tag 7))

-- a refusal's number; or the tag and the length of the body
pub data Header : Type 0 where
  Refused : ℕ → Header
  Field : ℕ → ℕ → Header

-- the rest if the test passes, else the refusal
abbrev pub need : Bool → ℕ → Header → Header
need true number rest = rest
need false number rest = Refused number

-- 1, or the tests 2 to 4 of a field that is there, where the tag `due` is due and m constraints have been loaded
abbrev pub header_by : ℕ → ℕ → Option FieldRead → Header
header_by due m Cut = Refused 1
header_by due m (Some f) =
    need (is_due due f.tag) 2
    (need (not (is_constraint f.tag && leb most_constraints m)) 3
    (need (fits_table f.tag f.len) 4
    (Field f.tag f.len)))

-- the field's tag and the length of its body, or the refusal
unfoldable pub header_of : List ℕ → ℕ → ℕ → Header
header_of s due m = header_by due m (raw_of s)

-- a field's header, beside the offset of its first byte
pub record Front : Type 0 where
  pub header : Header
  pub at : ℕ

-- the field at the place `at` of the file s
abbrev pub front_of : List ℕ → ℕ → ℕ → ℕ → Front
front_of s at due m = record { header = header_of (drop at s) due m; at = at }
