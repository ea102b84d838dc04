-- Change request K11, twenty sensors: "files of today load to the same sets". The file of a set as it was written before, by document 01's rule and K6's,
-- with a field 0x04 for every constraint; it is told byte by byte, and shares no definition with the writer.
-- Assumes nothing.
use Rattle.std.specs.Prelude.{◌≡◌, Bool, cond, List, [], ◌∷◌, ◌++◌, ℕ, ◌+◌, ◌/◌, ◌%◌, ◌^◌, eqb, length}
use Rattle.words.specs.Loop.{joined}
use Rattle.scan.specs.declared.set.Kind.{Kind}
use Rattle.scan.specs.declared.set.Kind.TheVariants.{Sensor, PastOutput, PastSensor}
use Rattle.scan.specs.declared.set.Constraint.{Constraint}
use Rattle.scan.specs.declared.set.Set.{Set}
use Rattle.scan.specs.Set.{kind, constraint, rank}
use Rattle.loader.specs.Load.{load_of}
use Rattle.loader.specs.Told.{load_told}
use Rattle.writer.specs.Write.{write_of}
use Rattle.promise.specs.Allowed.{read_name, output_name}

-- one-byte tag, two-byte length, high byte first, and the body
abbrev pub field_bytes : ℕ → List ℕ → List ℕ
field_bytes tag body = tag ∷ length body / 256 ∷ length body % 256 ∷ body

-- kind and index of a read point
abbrev pub kind_before : Kind → List ℕ
kind_before Sensor = 0 ∷ 0 ∷ []
kind_before (PastOutput i) = 1 ∷ i ∷ []
kind_before (PastSensor i) = 2 ∷ i ∷ []

-- bit k is set
abbrev pub has : ℕ → ℕ → Bool
has k word = eqb (word / 2 ^ k % 2) 1

-- the literal of point k, if it is named: two bytes, the number with bit 6 for an output and bit 7 for a negated literal, and the rank
unfoldable pub two_bytes : ℕ → ℕ → ℕ → ℕ → ℕ → List ℕ
two_bytes output plain negated rank k = cond (has k plain) ((output + k) ∷ rank ∷ []) (cond (has k negated) ((0x80 + output + k) ∷ rank ∷ []) [])

-- a constraint: its literals of read points 0 to 15, then those of outputs 0 to 11
unfoldable pub constraint_before : Constraint → List ℕ
constraint_before c =
    joined 16 (λ k. two_bytes 0 c.read_plain c.read_negated 0 k) ++ joined 12 (λ k. two_bytes 0x40 c.out_plain c.out_negated (rank c k) k)

-- the rest word, which is not written where it is 0
unfoldable pub rest_before : ℕ → List ℕ
rest_before word = let field = field_bytes 0x06 (word / 256 ∷ word % 256 ∷ []) in cond (eqb word 0) [] field

-- the file: counts, read points, outputs, rest word, constraints, end
unfoldable pub file_before : Set → List ℕ
file_before s =
    field_bytes 0x01 (s.r ∷ s.n ∷ [])
    ++ joined s.r (λ k. field_bytes 0x02 (kind_before (kind s k) ++ read_name s k))
    ++ joined s.n (λ j. field_bytes 0x03 (output_name s j))
    ++ rest_before s.rest
    ++ joined s.m (λ i. field_bytes 0x04 (constraint_before (constraint s i)))
    ++ field_bytes 0x05 []

-- Of every well-formed set with at most sixteen read points.
pub record FilesOfToday (s : Set) : Type 0 where
  -- its file is what it was
  pub same_file : write_of s ≡ file_before s
  -- and loads to the set
  pub loads : load_told (load_of (file_before s)).answer ≡ 0 ∷ []
  pub same_set : (load_of (file_before s)).set ≡ s
