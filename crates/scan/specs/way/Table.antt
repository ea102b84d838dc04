-- The code's way to a pass and to safety: the table of the active constraints, with the holds, the most passes of a walk and, of each active constraint that is
-- not simple, the outputs named plain, all the outputs named, and those that yield.
-- Assumes nothing.
use Rattle.std.specs.Prelude.{ℕ, zero, suc, ◌+◌, ◌*◌, ◌/◌, min, Bool, false, cond, not, ◌&&◌, List, get_or, set, replicate}
use Rattle.std.specs.Int.Bits.{bit_and, bit_xor}
use Rattle.words.specs.Word.{bit, without, meets}
use Rattle.words.specs.Loop.{gather, some}
use Rattle.scan.specs.declared.set.Constraint.{Constraint}
use Rattle.scan.specs.declared.set.Set.{Set}
use Rattle.scan.specs.declared.holds.Holds.{Holds}
use Rattle.scan.specs.declared.holds.Holds.TheVariants.{Forced, Clash}
use Rattle.scan.specs.declared.table.Table.{Table}
use Rattle.scan.specs.declared.walk.Walk.{Walk}
use Rattle.scan.specs.Set.{most_outputs, most_constraints, constraint, outs}
use Rattle.scan.specs.Pass.{yielding}
use Rattle.scan.specs.Walk.{walk_held}
use Rattle.scan.specs.way.Holds.{holds_by, unheld_from, limit_by}
use Rattle.scan.specs.way.Columns.{counted, columns_of, entry_true}

-- ---- building it

-- the outputs that there are places for; of a well-formed set all
abbrev pub outputs_in : Set → ℕ
outputs_in s = min s.n most_outputs

-- the outputs that these holds leave to passes
unfoldable pub unheld_in : Set → Holds → ℕ
unheld_in s h = unheld_from (outputs_in s) h

-- of constraint i, where these are the holds, the outputs that yield
unfoldable pub yields_in : Set → Holds → ℕ → ℕ
yields_in s h i = yielding (outputs_in s) (constraint s i) (bit_and (outs (constraint s i)) (unheld_in s h))

-- the table with no entry yet: every place names no output and asks for one, and so is never true
abbrev pub empty_table : Set → Holds → Table
empty_table s h = record {
  holds = h;
  limit = limit_by (unheld_in s h);
  entries = record { count = 0; plain = replicate most_constraints 1; named = replicate most_constraints 0 };
  flip = replicate most_constraints 0;
}

-- the table with so many entries
abbrev pub with_count : ℕ → Table → Table
with_count count t = record {
  holds = t.holds;
  limit = t.limit;
  entries = record { count = count; plain = t.entries.plain; named = t.entries.named };
  flip = t.flip;
}

-- the table with an entry more, for a constraint and the outputs of it that yield
abbrev pub with_entry : Constraint → ℕ → Table → Table
with_entry c y t = record {
  holds = t.holds;
  limit = t.limit;
  entries = record {
    count = t.entries.count + 1;
    plain = set t.entries.plain t.entries.count c.out_plain;
    named = set t.entries.named t.entries.count (outs c);
  };
  flip = set t.flip t.entries.count y;
}

-- the table with these holds after the first i constraints, those of the mask having an entry
unfoldable pub table_upto : Set → Holds → ℕ → ℕ → Table
table_upto s h entered zero = empty_table s h
table_upto s h entered (suc i) =
    let t = table_upto s h entered i in
    cond (bit i entered) (with_entry (constraint s i) (yields_in s h i) t) t

-- the next multiple of sixteen
abbrev pub filled_up : ℕ → ℕ
filled_up count = (count + 15) / 16 * 16

-- the whole table: the entries are filled up to a multiple of sixteen with such that are never true
unfoldable pub table_by : Set → Holds → ℕ → Table
table_by s h entered = let t = table_upto s h entered (counted s) in with_count (filled_up t.entries.count) t

-- the table of a set where the constraints of the mask are active: the simple ones of them hold, the others have an entry
unfoldable pub table_of : Set → ℕ → Table
table_of s active =
    let l = columns_of s in
    table_by s (holds_by l.out_plain l.out_negated s.m (bit_and active l.simple)) (without active l.simple)

-- ---- using it: a pass and safety at the vector v, over the first `count` entries

-- what entry i flips
unfoldable pub entry_flips : List ℕ → List ℕ → List ℕ → ℕ → ℕ → ℕ
entry_flips plain named flip v i = cond (entry_true plain named v i) (get_or flip i 0) 0

-- what all entries flip
unfoldable pub flips_over : List ℕ → List ℕ → List ℕ → ℕ → ℕ → ℕ
flips_over plain named flip count v = gather (min count most_constraints) (entry_flips plain named flip v)

-- one pass over the entries
unfoldable pub pass_over : List ℕ → List ℕ → List ℕ → ℕ → ℕ → ℕ
pass_over plain named flip count v = bit_xor v (flips_over plain named flip count v)

-- some entry is true
unfoldable pub any_true : List ℕ → List ℕ → ℕ → ℕ → Bool
any_true plain named count v = some (min count most_constraints) (entry_true plain named v)

-- every held output is as it is held, and no entry is true
unfoldable pub safe_over : ℕ → ℕ → List ℕ → List ℕ → ℕ → ℕ → Bool
safe_over f0 f1 plain named count v = meets f1 f0 v && not (any_true plain named count v)

-- ---- by a table

-- safety by these holds: no vector is safe at a clash
abbrev pub safe_held : Holds → List ℕ → List ℕ → ℕ → ℕ → Bool
safe_held (Forced f0 f1) plain named count v = safe_over f0 f1 plain named count v
safe_held (Clash k) plain named count v = false

-- safety
abbrev pub safe_in : Table → ℕ → Bool
safe_in t = safe_held t.holds t.entries.plain t.entries.named t.entries.count

-- a pass
abbrev pub pass_in : Table → ℕ → ℕ
pass_in t = pass_over t.entries.plain t.entries.named t.flip t.entries.count

-- the walk from a request
abbrev pub walk_in : Table → ℕ → Walk
walk_in t request = walk_held (safe_in t) (pass_in t) t.limit request t.holds
