-- A file in fields, by document 01's sentence "Fields: one-byte tag, two-byte length (high byte first), body" alone. No code computes this.
-- Assumes nothing.
use Rattle.std.specs.Prelude.{ℕ, zero, suc, ◌+◌, ◌*◌, Bool, true, false, cond, ◌||◌, List, [], ◌∷◌, eqb, ltb, length, get_or, take, drop}

-- field after field, from an offset on
pub data Fields : Type 0 where
  -- the file ends at this offset
  ends : ℕ → Fields
  -- at this offset header or body runs past the end
  cut : ℕ → Fields
  -- at this offset stands a field of this tag and this body, and then further ones
  field : ℕ → ℕ → List ℕ → Fields → Fields

-- the bytes of the field at the front of what is left: three and those that its header states, high byte first
abbrev pub field_size : List ℕ → ℕ
field_size left = 3 + (256 * get_or left 1 0 + get_or left 2 0)

-- what is left from the offset `at` on, in at most so many fields
unfoldable pub fields_from : ℕ → ℕ → List ℕ → Fields
fields_from zero at left = cut at
fields_from (suc most) at left =
    let size = field_size left in
    let more = fields_from most (at + size) (drop size left) in
    let whole = field at (get_or left 0 0) (drop 3 (take size left)) more in
    cond (eqb (length left) 0) (ends at) (cond (ltb (length left) size) (cut at) whole)

-- a file; a field has three bytes at least, so that so many are enough
unfoldable pub in_fields : List ℕ → Fields
in_fields file = fields_from (suc (length file)) 0 file

-- the file ends behind its last field
unfoldable pub is_whole : Fields → Bool
is_whole (ends at) = true
is_whole (cut at) = false
is_whole (field at tag body rest) = is_whole rest

-- the tags, in order
unfoldable pub tags : Fields → List ℕ
tags (ends at) = []
tags (cut at) = []
tags (field at tag body rest) = tag ∷ tags rest

-- the bodies of the fields of one tag, in order
unfoldable pub bodies : ℕ → Fields → List (List ℕ)
bodies wanted (ends at) = []
bodies wanted (cut at) = []
bodies wanted (field at tag body rest) = let more = bodies wanted rest in cond (eqb tag wanted) (body ∷ more) more

-- the tag and the body of a field
pub record TagBody : Type 0 where
  pub tag : ℕ
  pub body : List ℕ

-- the fields of constraints, of tag 0x04 or 0x07, in order
unfoldable pub constraints_in : Fields → List TagBody
constraints_in (ends at) = []
constraints_in (cut at) = []
constraints_in (field at tag body rest) =
    let more = constraints_in rest in
    cond (eqb tag 0x04 || eqb tag 0x07) (record { tag = tag; body = body } ∷ more) more
