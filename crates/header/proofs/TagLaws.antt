-- Laws of the tags of a constraint's field.
-- Assumes nothing.
use mathlib.Core.Path.{◌≡◌, refl}
use mathlib.Core.Bool.{Bool, true, false}
use Prim.Native.Nat.{◌≤◌}
use native.Mathlib.Omega.{arith}
use lib.Dec.{eqb}
use Rattle.header.specs.Tag.{is_constraint, is_wide, tag_by, literal_size}
use Rattle.header.specs.Header.{is_due}

-- a literal has two bytes or three
pub size_bounds : (wide : Bool) → (2 ≤ literal_size wide) × (literal_size wide ≤ 3)
size_bounds true = (omega arith, omega arith)
size_bounds false = (omega arith, omega arith)

-- either tag is a constraint's, says whether it is wide, and is due where constraints are; neither is the end's
pub record Tagged (wide : Bool) : Type 0 where
  pub constraint : is_constraint (tag_by wide) ≡ true
  pub is_wide_law : is_wide (tag_by wide) ≡ wide
  pub due : is_due 4 (tag_by wide) ≡ true
  pub not_end : eqb (tag_by wide) 5 ≡ false

pub tagged : (wide : Bool) → Tagged wide
tagged true = record { constraint = refl; is_wide_law = refl; due = refl; not_end = refl }
tagged false = record { constraint = refl; is_wide_law = refl; due = refl; not_end = refl }
