-- When a set is well formed: when some file loads to it. Every part up to the counts is right, and every place beyond them is zero.
-- A list of antt has any length and a rank any size, so that both are tested here.
-- Assumes nothing.
use Rattle.std.specs.Prelude.{ℕ, ◌+◌, ◌^◌, Bool, true, false, cond, ◌&&◌, ◌||◌, List, [], ◌∷◌, eqb, leb, ltb, length}
use Rattle.std.specs.Int.Bits.{bit_and}
use Rattle.words.specs.Word.{bit}
use Rattle.words.specs.Loop.{every, all}
use Rattle.scan.specs.declared.set.Kind.{Kind}
use Rattle.scan.specs.declared.set.Kind.TheVariants.{Sensor, PastOutput, PastSensor}
use Rattle.scan.specs.declared.set.ReadPoint.{ReadPoint}
use Rattle.scan.specs.declared.set.OutputPoint.{OutputPoint}
use Rattle.scan.specs.declared.set.Constraint.{Constraint}
use Rattle.scan.specs.declared.set.Set.{Set}
use Rattle.scan.specs.Set.{most_reads, most_outputs, most_points, most_constraints, rank_end, read_point, output_point, constraint, rank, outs}
use Rattle.scan.specs.Names.{name_ok, name_zero, first_read, first_output}

-- ---- counts and lengths

-- r at most 20, n 1 to 12, r + n at most 24, m at most 64
unfoldable pub count_tests : ℕ → ℕ → ℕ → List Bool
count_tests r n m = leb r most_reads ∷ leb 1 n ∷ leb n most_outputs ∷ leb (r + n) most_points ∷ leb m most_constraints ∷ []

-- twenty places for read points, twelve for outputs, sixty-four for constraints
unfoldable pub length_tests : Set → List Bool
length_tests s =
    eqb (length s.reads) most_reads ∷ eqb (length s.outputs) most_outputs ∷ eqb (length s.constraints) most_constraints ∷ []

-- ---- read points

-- kind 0
abbrev pub is_sensor : Kind → Bool
is_sensor Sensor = true
is_sensor (PastOutput i) = false
is_sensor (PastSensor i) = false

-- at read point k: a past output names one of the n outputs, a past sensor an earlier read point of kind 0
unfoldable pub kind_ok : List ReadPoint → ℕ → ℕ → Kind → Bool
kind_ok reads n k Sensor = true
kind_ok reads n k (PastOutput i) = ltb i n
kind_ok reads n k (PastSensor i) = ltb i k && is_sensor (read_point reads i).kind

-- read point k: its kind and its name are right, and no earlier read point has its name
unfoldable pub read_ok : List ReadPoint → ℕ → ℕ → Bool
read_ok reads n k =
    let p = read_point reads k in
    every (kind_ok reads n k p.kind ∷ name_ok p.name ∷ eqb (first_read reads k p.name) k ∷ [])

-- a read point of zeros
unfoldable pub read_zero : ReadPoint → Bool
read_zero p = every (is_sensor p.kind ∷ name_zero p.name ∷ [])

-- place k of the read points
unfoldable pub read_place : List ReadPoint → ℕ → ℕ → ℕ → Bool
read_place reads r n k = let ok = read_ok reads n k in let blank = read_zero (read_point reads k) in cond (ltb k r) ok blank

-- ---- outputs

-- output j: its name is right, and no read point and no earlier output has it
unfoldable pub output_ok : List ReadPoint → ℕ → List OutputPoint → ℕ → Bool
output_ok reads r outputs j =
    let name = (output_point outputs j).name in
    every (name_ok name ∷ eqb (first_read reads r name) r ∷ eqb (first_output outputs j name) j ∷ [])

-- place j of the outputs
unfoldable pub output_place : List ReadPoint → ℕ → List OutputPoint → ℕ → ℕ → Bool
output_place reads r outputs n j =
    let ok = output_ok reads r outputs j in let blank = name_zero (output_point outputs j).name in cond (ltb j n) ok blank

-- ---- constraints

-- a rank is below 256, and 0 at an output that the constraint does not name
unfoldable pub rank_ok : Constraint → ℕ → Bool
rank_ok c k = ltb (rank c k) rank_end && (bit k (outs c) || eqb (rank c k) 0)

-- literals of the r read points and n outputs only, no point both plain and negated, at least one output
unfoldable pub constraint_tests : ℕ → ℕ → Constraint → List Bool
constraint_tests r n c =
    ltb c.read_plain (2 ^ r)
    ∷ ltb c.read_negated (2 ^ r)
    ∷ eqb (bit_and c.read_plain c.read_negated) 0
    ∷ ltb c.out_plain (2 ^ n)
    ∷ ltb c.out_negated (2 ^ n)
    ∷ eqb (bit_and c.out_plain c.out_negated) 0
    ∷ ltb 0 (outs c)
    ∷ eqb (length c.ranks) most_outputs
    ∷ all most_outputs (rank_ok c)
    ∷ []

-- the rank of output k is 0
abbrev pub rank_zero : Constraint → ℕ → Bool
rank_zero c k = eqb (rank c k) 0

-- a constraint of zeros
unfoldable pub constraint_zero : Constraint → Bool
constraint_zero c =
    every (eqb c.read_plain 0 ∷ eqb c.read_negated 0 ∷ eqb c.out_plain 0 ∷ eqb c.out_negated 0
    ∷ eqb (length c.ranks) most_outputs ∷ all most_outputs (rank_zero c) ∷ [])

-- a constraint in use, or a place beyond them
unfoldable pub constraint_place : Set → ℕ → Bool
constraint_place s i =
    let c = constraint s i in
    let ok = every (constraint_tests s.r s.n c) in
    let blank = constraint_zero c in
    cond (ltb i s.m) ok blank

-- ---- the set

-- the tests of a whole set; the last is of its rest word, which has bits at outputs only
unfoldable pub set_tests : Set → List Bool
set_tests s =
    every (count_tests s.r s.n s.m)
    ∷ every (length_tests s)
    ∷ all most_reads (read_place s.reads s.r s.n)
    ∷ all most_outputs (output_place s.reads s.r s.outputs s.n)
    ∷ all most_constraints (constraint_place s)
    ∷ ltb s.rest (2 ^ s.n)
    ∷ []

-- document 01's "well formed"
unfoldable pub well_formed : Set → Bool
well_formed s = every (set_tests s)
