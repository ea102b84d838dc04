-- The code's way with holds: both masks at once, made of the constraints that hold; the outputs that they leave to passes; and the most passes, told by the mask of
-- these.
-- Assumes nothing.
use Rattle.std.specs.Prelude.{ℕ, ◌-◌, ◌^◌, min, cond, List, get_or}
use Rattle.std.specs.Int.Bits.{bit_and}
use Rattle.words.specs.Word.{bit, popcount}
use Rattle.words.specs.Loop.{gather}
use Rattle.scan.specs.declared.set.Set.{Set}
use Rattle.scan.specs.declared.holds.Holds.{Holds}
use Rattle.scan.specs.declared.holds.Holds.TheVariants.{Forced, Clash}
use Rattle.scan.specs.Set.{most_constraints}
use Rattle.scan.specs.Holds.{reckoned, unheld_by}
use Rattle.scan.specs.way.Columns.{columns_of, active_by}

-- place i of a list, if the mask has bit i; else 0
unfoldable pub kept_at : List ℕ → ℕ → ℕ → ℕ
kept_at outs mask i = cond (bit i mask) (get_or outs i 0) 0

-- the holds of those of the first m constraints that the mask has, by the lists of the outputs named plain and negated
unfoldable pub holds_by : List ℕ → List ℕ → ℕ → ℕ → Holds
holds_by plain negated m mask = reckoned (gather (min m most_constraints) (kept_at plain mask)) (gather (min m most_constraints) (kept_at negated mask))

-- the holds of a set at the read word w, by its lists of literals
unfoldable pub holds_at : Set → ℕ → Holds
holds_at s w =
    let l = columns_of s in
    holds_by l.out_plain l.out_negated s.m (bit_and (active_by l.read_plain l.read_named s.m w) l.simple)

-- the outputs, of n, that these holds leave to passes: none at a clash
abbrev pub unheld_from : ℕ → Holds → ℕ
unheld_from n (Forced f0 f1) = unheld_by n f0 f1
unheld_from n (Clash k) = 0

-- the most passes of a walk where the outputs of the mask are unheld: 2 ^ f - 1
abbrev pub limit_by : ℕ → ℕ
limit_by mask = 2 ^ popcount mask - 1
