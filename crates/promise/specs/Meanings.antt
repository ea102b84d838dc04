-- What the demands speak of means what document 01 says, and change request K2 of read words: on the left a definition that the code meets, on the
-- right the paper's sentence in the terms of specs/Terms. `Meanings` is said of every well-formed set, `ReadsMean` of every state, `NameBytesMean` of any bytes.
-- Assumes nothing.
use Rattle.std.specs.Prelude.{◌≡◌, Bool, true, false, List, ◌++◌, ◌↔◌, ◌⊎◌, ◌≢◌, ℕ, zero, suc, ◌-◌, ◌^◌, ◌<◌, ◌≤◌, length, replicate}
use Rattle.scan.specs.declared.set.Constraint.{Constraint}
use Rattle.scan.specs.declared.set.Set.{Set}
use Rattle.scan.specs.declared.set.State.{State}
use Rattle.scan.specs.Set.{read_point, output_point, constraint, kind, rank}
use Rattle.scan.specs.Names.{all_name_bytes}
use Rattle.scan.specs.Constraint.{simple, combined, true_at, safe}
use Rattle.scan.specs.Holds.{F0, F1, unheld_count, start_vector}
use Rattle.scan.specs.Pass.{pass}
use Rattle.scan.specs.Walk.{after, passes_due, vector_due}
use Rattle.machine.specs.Machine.{scan_of}
use Rattle.verdict.specs.Judge.{judge_of}
use Rattle.promise.specs.Zero.{all_zero_read, all_zero_output, all_zero_constraint}
use Rattle.promise.specs.Terms.{Bit, NamesOutput, Simple, Combined, TrueAt, Safe, HeldOff, HeldOn, IsUnheldCount, Flipped, BitRead, state_with}
use Rattle.promise.specs.Allowed.{word_of, read_name, output_name, IsName, NameBytes}

-- ---- constraints

pub record ConstraintsMean (s : Set) : Type 0 where
  -- a constraint is a product of literals, true when all are
  pub true_when : (w v i : ℕ) → i < s.m → (true_at s w v i ≡ true) ↔ TrueAt s w v i
  -- with just one output literal it is simple, with more it is combined
  pub simple_when : (i : ℕ) → i < s.m → (simple (constraint s i) ≡ true) ↔ Simple (constraint s i)
  pub combined_when : (i : ℕ) → i < s.m → (combined (constraint s i) ≡ true) ↔ Combined (constraint s i)
  -- a vector is safe when no constraint of the set, simple or combined, is true
  pub safe_when : (w v : ℕ) → (safe s w v ≡ true) ↔ Safe s w v
  -- two true constraints cannot pull one output opposite ways
  pub never_opposite : (w v i j k : ℕ) → true_at s w v i ≡ true → true_at s w v j ≡ true → Bit k (constraint s i).out_plain → ¬ Bit k (constraint s j).out_negated

-- ---- holds and the start vector

pub record HoldsMean (s : Set) (w : ℕ) : Type 0 where
  -- F0 and F1, output by output
  pub f0_when : (k : ℕ) → Bit k (F0 s w) ↔ HeldOff s w k
  pub f1_when : (k : ℕ) → Bit k (F1 s w) ↔ HeldOn s w k
  -- f is the number of outputs not held
  pub f_counts : IsUnheldCount s w (unheld_count s w)
  -- the start vector is (not F0 and request) or F1, for each output
  pub start_when : (request k : ℕ) → Bit k (start_vector s w request) ↔ (((¬ HeldOff s w k) × Bit k request) ⊎ HeldOn s w k)
  pub start_fits : (request : ℕ) → request < 2 ^ s.n → start_vector s w request < 2 ^ s.n

-- ---- passes and the walk

pub record PassMeans (s : Set) (w v k : ℕ) : Type 0 where
  -- an output is flipped exactly when some combined constraint that is true has it yield; flips are decided on one vector and done together
  pub flips : Flipped s w v k → Bit k (pass s w v) ↔ (¬ Bit k v)
  pub keeps : ¬ Flipped s w v k → Bit k (pass s w v) ↔ Bit k v

pub record WalkMeans (s : Set) (w request : ℕ) : Type 0 where
  -- the start vector, then one pass after another
  pub starts : after s w request zero ≡ start_vector s w request
  pub goes_on : (k : ℕ) → after s w request (suc k) ≡ pass s w (after s w request k)
  -- the vector due is the walk's first safe one, and the passes are those made before it
  pub due : request < 2 ^ s.n → (k : ℕ) → Safe s w (after s w request k) → ((j : ℕ) → j < k → ¬ Safe s w (after s w request j))
      → (vector_due s w request ≡ after s w request k) × (passes_due s w request ≡ k)

-- ---- names

pub record NamesMean (s : Set) : Type 0 where
  -- each point's name has 1 to 8 bytes, each 0x21 to 0x7E
  pub read : (k : ℕ) → k < s.r → IsName (read_name s k)
  pub output : (j : ℕ) → j < s.n → IsName (output_name s j)
  -- names are compared byte by byte: points whose names have the same bytes are one point
  pub one_read : (j k : ℕ) → j < s.r → k < s.r → read_name s j ≡ read_name s k → j ≡ k
  pub one_output : (j k : ℕ) → j < s.n → k < s.n → output_name s j ≡ output_name s k → j ≡ k
  pub two_kinds : (k j : ℕ) → k < s.r → j < s.n → read_name s k ≢ output_name s j

-- ---- places

pub record PlacesMean (s : Set) : Type 0 where
  -- each point keeps its name in eight byte places, unused ones zero
  pub read_name_bytes : (k : ℕ) → k < s.r → (read_point s.reads k).name ≡ read_name s k ++ replicate (8 - length (read_name s k)) 0
  pub output_name_bytes : (j : ℕ) → j < s.n → (output_point s.outputs j).name ≡ output_name s j ++ replicate (8 - length (output_name s j)) 0
  -- there are twenty places for read points, twelve for outputs, sixty-four for constraints and twelve for a constraint's ranks
  pub places : (length s.reads ≡ 20) × (length s.outputs ≡ 12) × (length s.constraints ≡ 64)
  pub rank_places : (i : ℕ) → i < s.m → length (constraint s i).ranks ≡ 12
  -- places beyond the counts are zero, and the rank of an output that a constraint does not name
  pub read_beyond : (k : ℕ) → s.r ≤ k → k < 20 → read_point s.reads k ≡ all_zero_read
  pub output_beyond : (j : ℕ) → s.n ≤ j → j < 12 → output_point s.outputs j ≡ all_zero_output
  pub constraint_beyond : (i : ℕ) → s.m ≤ i → i < 64 → constraint s i ≡ all_zero_constraint
  pub rank_unnamed : (i : ℕ) → i < s.m → (k : ℕ) → ¬ NamesOutput (constraint s i) k → rank (constraint s i) k ≡ 0

-- ---- all of these

pub record Meanings (s : Set) : Type 0 where
  pub constraints : ConstraintsMean s
  pub holds : (w : ℕ) → HoldsMean s w
  pub pass : (w v k : ℕ) → PassMeans s w v k
  pub walk : (w request : ℕ) → WalkMeans s w request
  pub names : NamesMean s
  pub places : PlacesMean s

-- ---- the read word of a scan: the sensor word, with past points filled from the state; past sensors from the sensor word itself until a scan is accepted

pub record ReadsMean (st : State) (present : ℕ) : Type 0 where
  -- where the state says that a scan was accepted since the start, a past sensor reads the past sensor word
  pub later : st.accepted ≡ true → (k : ℕ) → k < st.set.r
      → Bit k (word_of st present) ↔ BitRead (kind st.set k) st.past_output st.past_sensor present k
  -- where it says that none was, a past sensor reads as the sensor does now
  pub first : st.accepted ≡ false → (k : ℕ) → k < st.set.r
      → Bit k (word_of st present) ↔ BitRead (kind st.set k) st.past_output present present k
  pub above : (k : ℕ) → st.set.r ≤ k → ¬ Bit k (word_of st present)

-- ---- a lone output's rank is kept and never read

-- two constraints with the same literals, and with the same ranks if they are combined
pub record SameButLoneRank (c d : Constraint) : Type 0 where
  pub read_plain : c.read_plain ≡ d.read_plain
  pub read_negated : c.read_negated ≡ d.read_negated
  pub out_plain : c.out_plain ≡ d.out_plain
  pub out_negated : c.out_negated ≡ d.out_negated
  pub ranks : Combined c → c.ranks ≡ d.ranks

-- two sets that differ at most in names, in rest words and in the ranks of simple constraints
pub record SameButLoneRanks (s t : Set) : Type 0 where
  pub r : s.r ≡ t.r
  pub n : s.n ≡ t.n
  pub m : s.m ≡ t.m
  pub kinds : (k : ℕ) → k < s.r → kind s k ≡ kind t k
  pub constraints : (i : ℕ) → i < s.m → SameButLoneRank (constraint s i) (constraint t i)

-- such sets have the same verdicts, and scans of them the same answers
pub record LoneRanksUnread (s t : Set) : Type 0 where
  pub verdict : (room : ℕ) → judge_of s room ≡ judge_of t room
  pub scan : (output sensor : ℕ) (accepted : Bool) (present request : ℕ)
      → (scan_of (state_with s output sensor accepted) present request).answer ≡ (scan_of (state_with t output sensor accepted) present request).answer

-- ---- name bytes, of any bytes

abbrev pub NameBytesMean : List ℕ → Type 0
NameBytesMean bytes = (all_name_bytes bytes ≡ true) ↔ NameBytes bytes
