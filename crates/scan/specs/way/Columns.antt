-- The code's way to the active constraints: the literals of the constraints, one list for each kind, made once for a verdict or a scan.
-- Assumes nothing.
use Rattle.std.specs.Prelude.{ℕ, min, Bool, List, ◌++◌, eqb, get_or, drop, replicate}
use Rattle.std.specs.Int.Bits.{bit_and, bit_or}
use Rattle.words.specs.Loop.{listed, word}
use Rattle.scan.specs.declared.set.Constraint.{Constraint}
use Rattle.scan.specs.declared.set.Set.{Set}
use Rattle.scan.specs.declared.columns.Columns.{Columns}
use Rattle.scan.specs.Set.{most_constraints, constraint}
use Rattle.scan.specs.Constraint.{simple}

-- the constraints that there are places for; of a well-formed set all
abbrev pub counted : Set → ℕ
counted s = min s.m most_constraints

-- what f is of constraint i
abbrev pub of_each : Set → (Constraint → ℕ) → ℕ → ℕ
of_each s f i = f (constraint s i)

-- f of the number of each of the first i places, in order; then zeros
unfoldable pub places_upto : (ℕ → ℕ) → ℕ → List ℕ
places_upto f i = listed i f ++ drop i (replicate most_constraints 0)

-- what f is of each of the first i constraints, in order; then zeros
unfoldable pub column_upto : Set → (Constraint → ℕ) → ℕ → List ℕ
column_upto s f i = places_upto (of_each s f) i

-- of all of them
abbrev pub column : Set → (Constraint → ℕ) → List ℕ
column s f = column_upto s f (counted s)

-- the read points that a constraint names, plain or negated
abbrev pub reads_named : Constraint → ℕ
reads_named c = bit_or c.read_plain c.read_negated

-- constraint i is simple
unfoldable pub simple_at : Set → ℕ → Bool
simple_at s i = simple (constraint s i)

-- how many constraints a set has, its lists, and the mask of its simple constraints
unfoldable pub columns_of : Set → Columns
columns_of s = record {
  m = s.m;
  read_plain = column s (λ c. c.read_plain);
  read_named = column s reads_named;
  out_plain = column s (λ c. c.out_plain);
  out_negated = column s (λ c. c.out_negated);
  simple = word (counted s) (simple_at s);
}

-- place i asks for what the word has: the points that it names are as it names them
unfoldable pub entry_true : List ℕ → List ℕ → ℕ → ℕ → Bool
entry_true plain named v i = eqb (bit_and v (get_or named i 0)) (get_or plain i 0)

-- the active ones of the first m constraints, by the lists of the read points named plain and of all named
unfoldable pub active_by : List ℕ → List ℕ → ℕ → ℕ → ℕ
active_by plain named m w = word (min m most_constraints) (entry_true plain named w)
