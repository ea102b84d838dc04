-- The tags of a constraint's field. Four bits have no room for a read point above 15: a constraint that names one has tag 0x07 and is wide, with three
-- bytes for a literal; any other has 0x04, and two.
-- Assumes nothing.
use Rattle.std.specs.Prelude.{ℕ, ◌^◌, Bool, cond, ◌||◌, leb, eqb}
use Rattle.std.specs.Int.Bits.{bit_or}
use Rattle.scan.specs.declared.set.Constraint.{Constraint}

-- the tag is a constraint's
abbrev pub is_constraint : ℕ → Bool
is_constraint tag = eqb tag 4 || eqb tag 7

-- it is that of a wide one
abbrev pub is_wide : ℕ → Bool
is_wide tag = eqb tag 7

-- the tag of a constraint, wide or not
abbrev pub tag_by : Bool → ℕ
tag_by wide = cond wide 7 4

-- the bytes of a literal
abbrev pub literal_size : Bool → ℕ
literal_size wide = cond wide 3 2

-- the constraint names a read point above 15
unfoldable pub names_high : Constraint → Bool
names_high c = leb (2 ^ 16) (bit_or c.read_plain c.read_negated)
