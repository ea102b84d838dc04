-- Change request K3, holds looked up once for a word: what judges one vector or walks one request is handed the word's holds and the constraints that are active
-- there, those whose read literals are all true, and no read word; and it gives document 01's answer. The table is what it is handed.
-- Assumes nothing.
use Rattle.std.specs.Prelude.{◌≡◌, ◌↔◌, ℕ, ◌<◌}
use Rattle.scan.specs.declared.set.Set.{Set}
use Rattle.scan.specs.Set.{constraint}
use Rattle.scan.specs.Constraint.{safe}
use Rattle.scan.specs.Active.{active_of}
use Rattle.scan.specs.Walk.{walk}
use Rattle.scan.specs.way.Columns.{columns_of, active_by}
use Rattle.scan.specs.way.Table.{table_of, safe_in, walk_in}
use Rattle.promise.specs.Terms.{Bit, ReadsTrue}
use Rattle.promise.specs.Clash.{HoldsAnswer}

-- Of a well-formed set at the read word w.
pub record ByActive (s : Set) (w : ℕ) : Type 0 where
  -- the mask of the active constraints, bit by bit: constraint i is one of the set's, and its read literals are all true
  pub mask : (i : ℕ) → Bit i (active_of s w) ↔ ((i < s.m) × ReadsTrue (constraint s i) w)
  -- it is the mask that the one function that sees a read word makes of the set's literals
  pub made : active_by (columns_of s).read_plain (columns_of s).read_named s.m w ≡ active_of s w
  -- the holds that are made of the mask are those of the word, output by output
  pub holds : HoldsAnswer s w (table_of s (active_of s w)).holds
  -- judging a vector, and walking a request, by what is made of the mask gives document 01's answer at the word
  pub judges : (v : ℕ) → safe_in (table_of s (active_of s w)) v ≡ safe s w v
  pub walks : (request : ℕ) → walk_in (table_of s (active_of s w)) request ≡ walk s w request
  -- two words with the same active constraints have the same safe vectors and the same walks
  pub alike : (u : ℕ) → active_of s u ≡ active_of s w → (v : ℕ) → (safe s u v ≡ safe s w v) × (walk s u v ≡ walk s w v)
