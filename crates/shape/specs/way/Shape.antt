-- The code's way to well-formedness: tests told by lists of names and by the word of the sensors.
-- Assumes nothing.
use Rattle.std.specs.Prelude.{ℕ, Bool, true, cond, ◌&&◌, List, [], ◌∷◌, eqb, ltb, get_or}
use Rattle.words.specs.Word.{bit}
use Rattle.words.specs.Loop.{every, word}
use Rattle.scan.specs.declared.set.Kind.{Kind}
use Rattle.scan.specs.declared.set.Kind.TheVariants.{Sensor, PastOutput, PastSensor}
use Rattle.scan.specs.declared.set.ReadPoint.{ReadPoint}
use Rattle.scan.specs.Set.{most_reads, read_point}
use Rattle.scan.specs.Names.{name_ok, name_zero}
use Rattle.shape.specs.way.Names.{first_name}
use Rattle.scan.specs.Shape.{is_sensor, read_zero}

-- the word of the sensors at the places for read points
abbrev pub sensors_of : List ReadPoint → ℕ
sensors_of reads = word most_reads (λ k. is_sensor (read_point reads k).kind)

-- `kind_ok_law`, told by that word
unfoldable pub kind_by : ℕ → ℕ → ℕ → Kind → Bool
kind_by sensors n k Sensor = true
kind_by sensors n k (PastOutput i) = ltb i n
kind_by sensors n k (PastSensor i) = ltb i k && bit i sensors

-- `read_ok_law` of a read point at place k, told by the names and by that word
unfoldable pub read_by : List (List ℕ) → ℕ → ℕ → ℕ → ReadPoint → Bool
read_by names sensors n k p = every (kind_by sensors n k p.kind ∷ name_ok p.name ∷ eqb (first_name names k p.name) k ∷ [])

-- place k of the read points, told so
abbrev pub read_place_by : List (List ℕ) → ℕ → ℕ → ℕ → ℕ → ReadPoint → Bool
read_place_by names sensors r n k p = cond (ltb k r) (read_by names sensors n k p) (read_zero p)

-- `output_ok`, told by the names
unfoldable pub output_by : List (List ℕ) → ℕ → List (List ℕ) → ℕ → Bool
output_by reads r outputs j =
    let name = get_or outputs j [] in
    every (name_ok name ∷ eqb (first_name reads r name) r ∷ eqb (first_name outputs j name) j ∷ [])

-- place j of the outputs, told so
abbrev pub output_place_by : List (List ℕ) → ℕ → List (List ℕ) → ℕ → ℕ → Bool
output_place_by reads r outputs n j = cond (ltb j n) (output_by reads r outputs j) (name_zero (get_or outputs j []))
