-- Writing: the file of a set, the answer, and the buffer at exit.
-- Assumes nothing.
use Rattle.std.specs.Prelude.{ℕ, ◌+◌, ◌/◌, ◌%◌, Bool, cond, not, ◌&&◌, List, [], ◌∷◌, ◌++◌, eqb, leb, ltb, length, take, drop, Result, Ok, Err}
use Rattle.words.specs.Loop.{joined}
use Rattle.words.specs.Word.{bit}
use Rattle.scan.specs.declared.set.Kind.{Kind}
use Rattle.scan.specs.declared.set.Kind.TheVariants.{Sensor, PastOutput, PastSensor}
use Rattle.scan.specs.declared.set.ReadPoint.{ReadPoint}
use Rattle.scan.specs.declared.set.OutputPoint.{OutputPoint}
use Rattle.scan.specs.declared.set.Constraint.{Constraint}
use Rattle.scan.specs.declared.set.Set.{Set}
use Rattle.scan.specs.Set.{most_reads, most_outputs, rank}
use Rattle.scan.specs.Names.{name_bytes}
use Rattle.scan.specs.Shape.{well_formed}
use Rattle.header.specs.Tag.{tag_by, names_high}
use Rattle.shape.specs.declared.putting.PutError.{PutError}
use Rattle.shape.specs.declared.putting.PutError.TheVariants.{BadSet, Short}

-- ---- the file

-- a field: one-byte tag, two-byte length (high byte first), body
abbrev pub field_of : ℕ → List ℕ → List ℕ
field_of tag body = tag ∷ length body / 256 ∷ length body % 256 ∷ body

-- kind and index
abbrev pub kind_bytes : Kind → List ℕ
kind_bytes Sensor = 0 ∷ 0 ∷ []
kind_bytes (PastOutput k) = 1 ∷ k ∷ []
kind_bytes (PastSensor k) = 2 ∷ k ∷ []

-- the body of a read point
abbrev pub read_body : ReadPoint → List ℕ
read_body p = kind_bytes p.kind ++ name_bytes p.name

-- the body of an output
abbrev pub output_body : OutputPoint → List ℕ
output_body p = name_bytes p.name

-- the bytes of a literal: bits 7 and 6 with the number, and the rank; in a wide constraint the number has a byte of its own
abbrev pub literal_bytes : Bool → ℕ → ℕ → ℕ → List ℕ
literal_bytes wide flags number rank = cond wide (flags ∷ number ∷ rank ∷ []) ((flags + number) ∷ rank ∷ [])

-- the literal of read point k, if the constraint has one
unfoldable pub read_literal : Bool → Constraint → ℕ → List ℕ
read_literal wide c k =
    cond (bit k c.read_plain) (literal_bytes wide 0 k 0) (cond (bit k c.read_negated) (literal_bytes wide 0x80 k 0) [])

-- the literal of output k, if the constraint has one
unfoldable pub output_literal : Bool → Constraint → ℕ → List ℕ
output_literal wide c k =
    cond (bit k c.out_plain) (literal_bytes wide 0x40 k (rank c k)) (cond (bit k c.out_negated) (literal_bytes wide 0xC0 k (rank c k)) [])

-- the literals of a constraint, in wide form or not: those of read points by number, then those of outputs by number
unfoldable pub literals_by : Bool → Constraint → List ℕ
literals_by wide c = joined most_reads (read_literal wide c) ++ joined most_outputs (output_literal wide c)

-- the tag of a constraint: 0x07 where it names a read point above 15, else 0x04
abbrev pub constraint_tag : Constraint → ℕ
constraint_tag c = tag_by (names_high c)

-- its body
abbrev pub literal_body : Constraint → List ℕ
literal_body c = literals_by (names_high c) c

-- the tag of a read point
abbrev pub read_tag : ReadPoint → ℕ
read_tag p = 0x02

-- the tag of an output
abbrev pub output_tag : OutputPoint → ℕ
output_tag p = 0x03

-- the fields of a list's elements, one after the other
unfoldable pub fields_of : {A : Type 0} → (A → ℕ) → (A → List ℕ) → List A → List ℕ
fields_of tag body [] = []
fields_of tag body (p ∷ ps) = field_of (tag p) (body p) ++ fields_of tag body ps

-- the body of the rest word: two bytes, the high one first
abbrev pub rest_body : ℕ → List ℕ
rest_body rest = rest / 256 ∷ rest % 256 ∷ []

-- the field of the rest word; a rest word of 0 is never written
unfoldable pub rest_field : ℕ → List ℕ
rest_field rest = let field = field_of 0x06 (rest_body rest) in cond (eqb rest 0) [] field

-- one 0x01, r of 0x02, n of 0x03, the rest word, m of 0x04 or 0x07, one 0x05
unfoldable pub write_of : Set → List ℕ
write_of s =
    field_of 0x01 (s.r ∷ s.n ∷ [])
    ++ fields_of read_tag read_body (take s.r s.reads)
    ++ fields_of output_tag output_body (take s.n s.outputs)
    ++ rest_field s.rest
    ++ fields_of constraint_tag literal_body (take s.m s.constraints)
    ++ field_of 0x05 []

-- ---- writing it into a buffer

-- 20; 24 with the length needed where the buffer has fewer bytes; or the length
unfoldable pub write_answer : Set → ℕ → Result ℕ PutError
write_answer s room =
    let needed = length (write_of s) in
    cond (not (well_formed s)) (Err BadSet)
    (cond (ltb room needed) (Err (Short needed)) (Ok needed))

-- the file at the front and later bytes as they were; on a refusal the buffer as it was
unfoldable pub buffer_after : Set → List ℕ → List ℕ
buffer_after s buf =
    let file = write_of s in
    cond (well_formed s && leb (length file) (length buf)) (file ++ drop (length file) buf) buf
