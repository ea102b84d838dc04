-- Finding a point by its name.
-- Assumes nothing.
use Rattle.std.specs.Prelude.{ℕ, cond, not, List, ltb, Result, Ok, Err}
use Rattle.scan.specs.declared.set.Set.{Set}
use Rattle.shape.specs.declared.finding.Point.{Point}
use Rattle.shape.specs.declared.finding.Point.TheVariants.{Read, Output}
use Rattle.shape.specs.declared.finding.FindError.{FindError}
use Rattle.shape.specs.declared.finding.FindError.TheVariants.{BadSet, BadLength, Unknown}
use Rattle.scan.specs.Names.{length_ok, all_name_bytes, padded, first_read, first_output}
use Rattle.scan.specs.Shape.{well_formed}

-- the point, of the read points and then the outputs, whose eight byte places are these
unfoldable pub find_padded : Set → List ℕ → Result Point FindError
find_padded s name =
    let k = first_read s.reads s.r name in
    let j = first_output s.outputs s.n name in
    let rest = cond (ltb j s.n) (Ok (Output j)) (Err Unknown) in
    cond (ltb k s.r) (Ok (Read k)) rest

-- 20, 40, 41, or the point
unfoldable pub find_of : Set → List ℕ → Result Point FindError
find_of s bytes =
    let point = find_padded s (padded bytes) in
    cond (not (well_formed s)) (Err BadSet)
    (cond (not (length_ok bytes)) (Err BadLength)
    (cond (not (all_name_bytes bytes)) (Err Unknown) point))
