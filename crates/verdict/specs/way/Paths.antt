-- The code's way with walks at a read word: a walk is gone until it meets a mark, and its path is marked; the last vectors of a path are kept in a trail.
-- `next` is a pass.
-- Assumes nothing.
use Rattle.std.specs.Prelude.{◌≡◌, ℕ, zero, suc, ◌+◌, ◌%◌, ◌≤◌, ◌<◌, Bool, cond, not, Option, None, Some, List, ltb, length, get_or}
use Rattle.words.specs.Loop.{first, iterate}
use Rattle.verdict.specs.way.Marks.{marked, with_mark}

-- the passes from v to the first vector that is marked; limit + 1 if none of the vectors after 0 to `limit` passes is
unfoldable pub passes_to_mark : (ℕ → ℕ) → List ℕ → ℕ → ℕ → ℕ
passes_to_mark next marks limit v = first (limit + 1) (λ k. marked marks (iterate next k v))

-- these passes, if one of these vectors is marked
unfoldable pub mark_reached : (ℕ → ℕ) → List ℕ → ℕ → ℕ → Option ℕ
mark_reached next marks limit v = let k = passes_to_mark next marks limit v in cond (ltb limit k) None (Some k)

-- one of these vectors is marked
unfoldable pub comes_to_mark : (ℕ → ℕ) → List ℕ → ℕ → ℕ → Bool
comes_to_mark next marks limit v = not (ltb limit (passes_to_mark next marks limit v))

-- the first k vectors of the path from v are marked
unfoldable pub path_marked : (ℕ → ℕ) → ℕ → ℕ → List ℕ → List ℕ
path_marked next zero v marks = marks
path_marked next (suc k) v marks = with_mark (path_marked next k v marks) (iterate next k v)

-- the marks after a vector's walk: where it comes to a mark, its path up to there is marked
unfoldable pub settled : (ℕ → ℕ) → ℕ → ℕ → List ℕ → List ℕ
settled next limit v marks =
    let more = path_marked next (passes_to_mark next marks limit v) v marks in
    cond (comes_to_mark next marks limit v) more marks

-- ---- the trail

-- its places
abbrev pub trail_places : ℕ
trail_places = 1024

-- of the first `made` vectors of the path from v the last are in the trail, each at the number of its passes modulo the places
pub record Trail (next : ℕ → ℕ) (v made : ℕ) (trail : List ℕ) : Type 0 where
  pub long : length trail ≡ trail_places
  pub at : (k : ℕ) → k < made → made ≤ k + trail_places → get_or trail (k % trail_places) 0 ≡ iterate next k v

-- `more` vectors of the trail are marked, from the one after `begin` passes on
unfoldable pub trail_marked : List ℕ → ℕ → ℕ → List ℕ → List ℕ
trail_marked trail begin zero marks = marks
trail_marked trail begin (suc more) marks = with_mark (trail_marked trail begin more marks) (get_or trail ((begin + more) % trail_places) 0)
