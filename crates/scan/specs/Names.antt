-- Names: 1 to 8 bytes in eight byte places, unused ones zero, compared byte by byte.
-- Assumes nothing.
use Rattle.std.specs.Prelude.{ℕ, ◌-◌, Bool, cond, ◌&&◌, ◌||◌, List, [], ◌∷◌, ◌++◌, eqb, leb, ltb, length, get_or, take, replicate}
use Rattle.words.specs.Loop.{every, all, first}
use Rattle.scan.specs.declared.set.ReadPoint.{ReadPoint}
use Rattle.scan.specs.declared.set.OutputPoint.{OutputPoint}
use Rattle.scan.specs.Set.{name_places, read_point, output_point}

-- a byte that a name may have
unfoldable pub name_byte : ℕ → Bool
name_byte b = leb 0x21 b && leb b 0x7E

-- every byte of a list is one
unfoldable pub all_name_bytes : List ℕ → Bool
all_name_bytes bytes = all (length bytes) (λ k. name_byte (get_or bytes k 0))

-- the bytes with zeros up to eight places
abbrev pub padded : List ℕ → List ℕ
padded bytes = bytes ++ replicate (name_places - length bytes) 0

-- 1 to 8 bytes
abbrev pub length_ok : List ℕ → Bool
length_ok bytes = leb 1 (length bytes) && leb (length bytes) name_places

-- byte place k is zero
abbrev pub zero_at : List ℕ → ℕ → Bool
zero_at name k = eqb (get_or name k 0) 0

-- how many bytes stand before the first zero
unfoldable pub name_length : List ℕ → ℕ
name_length name = first name_places (zero_at name)

-- the bytes of a name, without its zeros
unfoldable pub name_bytes : List ℕ → List ℕ
name_bytes name = take (name_length name) name

-- byte place k has a name byte before the name's end, and a zero after it
unfoldable pub place_ok : List ℕ → ℕ → Bool
place_ok name k = cond (ltb k (name_length name)) (name_byte (get_or name k 0)) (zero_at name k)

-- eight places: 1 to 8 name bytes, then zeros
unfoldable pub name_ok : List ℕ → Bool
name_ok name = every (eqb (length name) name_places ∷ ltb 0 (name_length name) ∷ all name_places (place_ok name) ∷ [])

-- eight zeros
unfoldable pub name_zero : List ℕ → Bool
name_zero name = every (eqb (length name) name_places ∷ all name_places (zero_at name) ∷ [])

-- byte place k is the same in both
abbrev pub same_at : List ℕ → List ℕ → ℕ → Bool
same_at a b k = eqb (get_or a k 0) (get_or b k 0)

-- two names are one, byte by byte
unfoldable pub same_name : List ℕ → List ℕ → Bool
same_name a b = all name_places (same_at a b)

-- read point k has the name
unfoldable pub read_has_name : List ReadPoint → List ℕ → ℕ → Bool
read_has_name reads name k = same_name (read_point reads k).name name

-- the first of the first i read points that has the name, or i
unfoldable pub first_read : List ReadPoint → ℕ → List ℕ → ℕ
first_read reads i name = first i (read_has_name reads name)

-- output k has the name
unfoldable pub output_named : List OutputPoint → List ℕ → ℕ → Bool
output_named outputs name k = same_name (output_point outputs k).name name

-- the first of the first j outputs that has the name, or j
unfoldable pub first_output : List OutputPoint → ℕ → List ℕ → ℕ
first_output outputs j name = first j (output_named outputs name)

-- one of the first i read points or of the first j outputs has the name
unfoldable pub is_used : List ReadPoint → ℕ → List OutputPoint → ℕ → List ℕ → Bool
is_used reads i outputs j name = ltb (first_read reads i name) i || ltb (first_output outputs j name) j
