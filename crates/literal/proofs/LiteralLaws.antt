-- Steps of the definitions on literals.
-- Assumes nothing.
use mathlib.Core.Path.{◌≡◌, refl}
use mathlib.Core.Bool.{Bool, true, false, cond, ◌&&◌}
use mathlib.Core.List.{List, ◌∷◌}
use Prim.Native.Nat.{ℕ, ◌+◌, ◌≤◌, ◌<◌}
use native.Mathlib.Omega.{arith}
use lib.Dec.{ltb, eqb}
use borrow.Author.Tests.{le-leb, lt-leb, ltb-true}
use Rattle.words.proofs.BoolLaws.{and_true}
use Rattle.scan.specs.declared.set.Constraint.{Constraint}
use Rattle.scan.specs.Set.{most_reads, most_outputs}
use Rattle.literal.specs.declared.literal.Said.{Said}
use Rattle.literal.specs.Literal.{is_literal, place, with_literal, refused_literals, literals_from}

-- how many outputs or read points a constraint has room for
abbrev pub room : Bool → ℕ
room out = cond out most_outputs most_reads

-- the number of a read literal is a read point's
read_below : (l : Said) (r n : ℕ) → is_literal l r n ≡ true → l.out ≡ false → l.number < r
read_below l r n e o =
    let a = and_true l.clear (eqb l.rank 0 && ltb l.number r) (rw o at e) in
    ltb-true _ _ (and_true (eqb l.rank 0) (ltb l.number r) a.1).1

-- the number of an output literal is an output's
output_below : (l : Said) (r n : ℕ) → is_literal l r n ≡ true → l.out ≡ true → l.number < n
output_below l r n e o = ltb-true _ _ (and_true l.clear (ltb l.number n) (rw o at e)).1

-- a literal's point has room in a constraint
pub literal_fits_law : (l : Said) (r n : ℕ) → is_literal l r n ≡ true → r ≤ most_reads → n ≤ most_outputs → l.number < room l.out
literal_fits_law l r n e few h = go l.out refl
  where
    go : (o : Bool) → l.out ≡ o → l.number < room o
    go true o = let b = output_below l r n e o in omega arith
    go false o = let b = read_below l r n e o in omega arith

-- the literals l and then the rest
module _ (is_wide : Bool) (r n next : ℕ) (c : Constraint) (l : Said) (rest : List Said) where
  pub not_literal : is_literal l r n ≡ false → literals_from is_wide r n next c (l ∷ rest) ≡ refused_literals 9
  unfolding literals_from
  not_literal e = rw e

  pub not_rising : is_literal l r n ≡ true → place l < next → literals_from is_wide r n next c (l ∷ rest) ≡ refused_literals 10
  unfolding literals_from
  not_rising e h = rw (e, lt-leb _ _ h)

  pub one_more : is_literal l r n ≡ true → next ≤ place l → literals_from is_wide r n next c (l ∷ rest) ≡ literals_from is_wide r n (place l + 1) (with_literal c l) rest
  unfolding literals_from
  one_more e h = rw (e, le-leb _ _ h)
