-- Sets for worked cases, written by their points and literals.
-- Assumes nothing.
use Rattle.std.specs.Prelude.{ℕ, List, [], ◌∷◌, ◌++◌, map, length, replicate, drop}
use Rattle.scan.specs.declared.set.Kind.{Kind}
use Rattle.scan.specs.declared.set.Kind.TheVariants.{Sensor, PastOutput, PastSensor}
use Rattle.scan.specs.declared.set.ReadPoint.{ReadPoint}
use Rattle.scan.specs.declared.set.OutputPoint.{OutputPoint}
use Rattle.scan.specs.declared.set.Constraint.{Constraint}
use Rattle.scan.specs.declared.set.Set.{Set}
use Rattle.scan.specs.Set.{most_reads, most_outputs, most_constraints, name_places, zero_read, zero_output, zero_constraint, zero_set, with_counts, with_reads, with_outputs, with_constraints}

-- ---- writing a set

-- a list filled up to so many places
abbrev pub filled : {A : Type 0} → ℕ → A → List A → List A
filled n z xs = xs ++ drop (length xs) (replicate n z)

-- a read point of this kind and name
abbrev pub read_of : Kind → List ℕ → ReadPoint
read_of k name = record { kind = k; name = filled name_places 0 name }

-- an output of this name
abbrev pub output_of : List ℕ → OutputPoint
output_of name = record { name = filled name_places 0 name }

-- masks of plain and negated read literals and of plain and negated output literals, and the ranks
abbrev pub product : ℕ → ℕ → ℕ → ℕ → List ℕ → Constraint
product rp rn op on ranks = record { read_plain = rp; read_negated = rn; out_plain = op; out_negated = on; ranks = filled most_outputs 0 ranks }

-- a set of these read points, outputs by name, and constraints
abbrev pub set_of : List ReadPoint → List (List ℕ) → List Constraint → Set
set_of reads names constraints =
    let counted = with_counts zero_set (length reads) (length names) (length constraints) in
    let pointed = with_outputs (with_reads counted (filled most_reads zero_read reads)) (filled most_outputs zero_output (map output_of names)) in
    with_constraints pointed (filled most_constraints zero_constraint constraints)

-- ---- names

-- 7
abbrev pub name7 : List ℕ
name7 = 0x37 ∷ []

-- 07
abbrev pub name07 : List ℕ
name07 = 0x30 ∷ name7

-- 007
abbrev pub name007 : List ℕ
name007 = 0x30 ∷ name07

-- A, output 0 of document 01's cases
abbrev pub name_a : List ℕ
name_a = 0x41 ∷ []

-- B, output 1
abbrev pub name_b : List ℕ
name_b = 0x42 ∷ []

-- C, output 2
abbrev pub name_c : List ℕ
name_c = 0x43 ∷ []

-- sensor s, read point 0
abbrev pub sensor_s : ReadPoint
sensor_s = read_of Sensor (0x73 ∷ [])

-- ---- sets of document 01's "Tried by hand"

-- P: sensor 007, outputs 07 and 7, "007 and 7", "07 and not 7"; the ranks of 07 and 7 in the second as given
abbrev pub set_p : ℕ → ℕ → Set
set_p a b = set_of (read_of Sensor name007 ∷ []) (name07 ∷ name7 ∷ []) (product 1 0 2 0 [] ∷ product 0 0 1 2 (a ∷ b ∷ []) ∷ [])

-- P, where 07 yields
abbrev pub P : Set
P = set_p 0 1

-- "s and not A", "s and A": no safe vector at word 1
abbrev pub clashing : Set
clashing = set_of (sensor_s ∷ []) (name_a ∷ []) (product 1 0 0 1 [] ∷ product 1 0 1 0 [] ∷ [])

-- no sensors; "A and not B", "A and B", B of rank 0 and A of rank 1 in both: a walk that never is safe
abbrev pub endless : Set
endless = set_of [] (name_a ∷ name_b ∷ []) (product 0 0 1 2 (1 ∷ 0 ∷ []) ∷ product 0 0 3 0 (1 ∷ 0 ∷ []) ∷ [])

-- "A and B", equal ranks
abbrev pub equal_ranks : Set
equal_ranks = set_of [] (name_a ∷ name_b ∷ []) (product 0 0 3 0 [] ∷ [])

-- "A and B" (A of lower rank), "A and C" (C of lower rank)
abbrev pub two_pairs : Set
two_pairs = set_of [] (name_a ∷ name_b ∷ name_c ∷ []) (product 0 0 3 0 (0 ∷ 1 ∷ []) ∷ product 0 0 5 0 (1 ∷ 0 ∷ 0 ∷ []) ∷ [])

-- read point 1 is the past of sensor 0; "now, not past, A"
abbrev pub rising_edge : Set
rising_edge = set_of (sensor_s ∷ read_of (PastSensor 0) (0x70 ∷ []) ∷ []) (name_a ∷ []) (product 1 2 1 0 [] ∷ [])

-- ---- sets for what those leave open

-- "s and not A": A is held to 1 while s is on
abbrev pub forced_on : Set
forced_on = set_of (sensor_s ∷ []) (name_a ∷ []) (product 1 0 0 1 [] ∷ [])

-- read point 0 is the past of output 1, B; "past and A": A is off in the scan after B was on
abbrev pub after_b : Set
after_b = set_of (read_of (PastOutput 1) (0x62 ∷ []) ∷ []) (name_a ∷ name_b ∷ []) (product 1 0 1 0 [] ∷ [])

-- "A and not B" where B yields, "A and B" where A does, "B and not A" where B does: the walk from A alone takes three passes, all that f = 2 allows
abbrev pub three_passes : Set
three_passes =
    set_of [] (name_a ∷ name_b ∷ [])
    (product 0 0 1 2 (1 ∷ 0 ∷ []) ∷ product 0 0 3 0 (0 ∷ 1 ∷ []) ∷ product 0 0 2 1 (1 ∷ 0 ∷ []) ∷ [])
