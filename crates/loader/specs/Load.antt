-- Loading, front to back: one 0x01, r of 0x02, n of 0x03, at most one 0x06, up to `most_constraints` of 0x04 and 0x07, one 0x05, and nothing after. Each field is taken from the front of
-- what is left of the file s at the place `at`, which is the offset that a refusal gives. The tests of a field come in the order of their
-- numbers: 1 to 4 in header/specs/Header, 9 to 11 and 59 in literal/specs/Literal, the others here.
-- Assumes nothing.
use Rattle.std.specs.Prelude.{ℕ, zero, suc, ◌+◌, ◌*◌, ◌^◌, Bool, true, false, cond, ◌&&◌, List, ltb, eqb, length, get_or, drop, set as store, Option, None, Some}
use Rattle.words.specs.Loop.{every}
use Rattle.scan.specs.declared.set.Kind.{Kind}
use Rattle.scan.specs.declared.set.Kind.TheVariants.{Sensor, PastOutput, PastSensor}
use Rattle.scan.specs.declared.set.ReadPoint.{ReadPoint}
use Rattle.scan.specs.declared.set.Constraint.{Constraint}
use Rattle.scan.specs.declared.set.Set.{Set}
use Rattle.scan.specs.Set.{most_constraints, zero_name, zero_read, zero_set, with_counts, with_reads, with_outputs, with_constraints, with_rest, read_point}
use Rattle.shape.specs.Spelling.{spelling}
use Rattle.scan.specs.Names.{is_used}
use Rattle.scan.specs.Shape.{count_tests, is_sensor}
use Rattle.header.specs.Header.{Header, Refused as Stopped, Field, header_of, body_of}
use Rattle.header.specs.Fault.{Taken, Refused as Denied, Good}
use Rattle.literal.specs.Literal.{Literals, literals_of}
use Rattle.loader.specs.declared.loader.LoadAnswer.{LoadAnswer}
use Rattle.loader.specs.declared.loader.LoadAnswer.TheVariants.{Loaded as WasLoaded, Refused as WasRefused}
use Rattle.loader.specs.declared.loader.Loaded.{Loaded}
use Rattle.header.specs.Tag.{is_wide}

-- ---- how far a load has come

-- the place of the next field; or a refusal's number and the offset of the field's first byte
pub data Progress : Type 0 where
  At : ℕ → Progress
  Refused : ℕ → ℕ → Progress

-- the place of the next field, or the refusal; and the set so far
pub record Loading : Type 0 where
  pub progress : Progress
  pub set : Set

-- a refusal: its number, the offset of the field's first byte, and the zero set
abbrev pub refusal : ℕ → ℕ → Loading
refusal number at = record { progress = Refused number at; set = zero_set }

-- the place of the next field, and the set so far
abbrev pub going_on : ℕ → Set → Loading
going_on at set = record { progress = At at; set = set }

-- on from that place, unless the load was refused
abbrev pub then_from : Progress → Set → (ℕ → Set → Loading) → Loading
then_from (At at) set next = next at set
then_from (Refused number at) set next = record { progress = Refused number at; set = set }

-- one part of a load after another
abbrev pub and_then : Loading → (ℕ → Set → Loading) → Loading
and_then l next = then_from l.progress l.set next

-- ---- a field

-- a body of `len` bytes is refused, or gives the set and the place behind it
abbrev pub field_done : ℕ → ℕ → Taken → Set → Loading
field_done at len (Denied number) set = refusal number at
field_done at len Good set = going_on (at + 3 + len) set

-- by the field's header, then by what its body tells; `made` is the set with what the body gives
abbrev pub field_by : List ℕ → ℕ → (List ℕ → Taken) → (List ℕ → Set) → Header → Loading
field_by s at told made (Stopped number) = refusal number at
field_by s at told made (Field tag len) = field_done at len (told (body_of (drop at s) len)) (made (body_of (drop at s) len))

-- the field at the place `at`, where the tag `due` is due
abbrev pub field_at : List ℕ → ℕ → ℕ → (List ℕ → Taken) → (List ℕ → Set) → Loading
field_at s at due told made = field_by s at told made (header_of (drop at s) due 0)

-- ---- 0x01: r and n

-- a set of r read points and n outputs, with none of them loaded yet
abbrev pub of_counts : ℕ → ℕ → Set
of_counts r n = with_counts zero_set r n 0

-- good if the test passes, else the refusal
abbrev pub good_if : Bool → ℕ → Taken
good_if true number = Good
good_if false number = Denied number

-- 5, or the counts are good
abbrev pub counts_told : List ℕ → Taken
counts_told body = good_if (every (count_tests (get_or body 0 0) (get_or body 1 0) 0)) 5

-- the set of the counts in a body
abbrev pub counts_made : List ℕ → Set
counts_made body = of_counts (get_or body 0 0) (get_or body 1 0)

-- the first field
unfoldable pub counts_at : List ℕ → Loading
counts_at s = field_at s 0 1 counts_told counts_made

-- ---- names of points

-- what bytes give: whether they are taken, and the name
pub record NameField : Type 0 where
  pub taken : Taken
  pub name : List ℕ

-- 7, then 8, or the name; `used name` says that a point before has the name
abbrev pub name_told : (List ℕ → Bool) → Option (List ℕ) → NameField
name_told used None = record { taken = Denied 7; name = zero_name }
name_told used (Some name) = cond (used name) (record { taken = Denied 8; name = zero_name }) (record { taken = Good; name = name })

-- the name that bytes spell
unfoldable pub name_field : (List ℕ → Bool) → List ℕ → NameField
name_field used bytes = name_told used (spelling bytes)

-- ---- 0x02: kind, index, name

-- the kind if the test passes
abbrev pub kind_if : Bool → Kind → Option Kind
kind_if true k = Some k
kind_if false k = None

-- read point i of a set of n outputs: kind 0 is a sensor, index 0; kind 1 the past of an output; kind 2 the past of an earlier read point of kind 0,
-- as `sensor k` says of read point k
unfoldable pub kind_of : ℕ → (ℕ → Bool) → ℕ → ℕ → ℕ → Option Kind
kind_of n sensor i kind index =
    cond (eqb kind 0) (kind_if (eqb index 0) Sensor)
    (cond (eqb kind 1) (kind_if (ltb index n) (PastOutput index))
    (cond (eqb kind 2) (kind_if (ltb index i && sensor index) (PastSensor index))
    None))

-- what a body gives: whether it is taken, and the read point
pub record ReadField : Type 0 where
  pub taken : Taken
  pub read : ReadPoint

-- 6, or the read point of the kind and the name
abbrev pub read_told : NameField → Option Kind → ReadField
read_told named None = record { taken = Denied 6; read = zero_read }
read_told named (Some kind) = record { taken = named.taken; read = record { kind = kind; name = named.name } }

-- read point i of a body
unfoldable pub read_field : ℕ → (ℕ → Bool) → (List ℕ → Bool) → ℕ → List ℕ → ReadField
read_field n sensor used i body = read_told (name_field used (drop 2 body)) (kind_of n sensor i (get_or body 0 0) (get_or body 1 0))

-- read point k of a list is a sensor
abbrev pub sensor_at : List ReadPoint → ℕ → Bool
sensor_at reads k = is_sensor (read_point reads k).kind

-- read point i of a body, behind the points of the set
unfoldable pub read_of : Set → ℕ → List ℕ → ReadField
read_of set i = read_field set.n (sensor_at set.reads) (is_used set.reads i set.outputs 0) i

-- the set with read point i
abbrev pub with_read : Set → ℕ → ReadPoint → Set
with_read set i p = with_reads set (store set.reads i p)

-- read point i
unfoldable pub read_at : List ℕ → ℕ → Set → ℕ → Loading
read_at s at set i = field_at s at 2 (λ body. (read_of set i body).taken) (λ body. with_read set i (read_of set i body).read)

-- `left` read points, from read point i on
unfoldable pub reads_from : List ℕ → ℕ → ℕ → ℕ → Set → Loading
reads_from s zero i at set = going_on at set
reads_from s (suc left) i at set = and_then (read_at s at set i) (reads_from s left (i + 1))

-- ---- 0x03: name

-- the name of output j in a body, behind the points of the set
unfoldable pub output_of : Set → ℕ → List ℕ → NameField
output_of set j = name_field (is_used set.reads set.r set.outputs j)

-- the set with output j of the name
abbrev pub with_output : Set → ℕ → List ℕ → Set
with_output set j name = with_outputs set (store set.outputs j (record { name = name }))

-- output j
unfoldable pub output_at : List ℕ → ℕ → Set → ℕ → Loading
output_at s at set j = field_at s at 3 (λ body. (output_of set j body).taken) (λ body. with_output set j (output_of set j body).name)

-- `left` outputs, from output j on
unfoldable pub outputs_from : List ℕ → ℕ → ℕ → ℕ → Set → Loading
outputs_from s zero j at set = going_on at set
outputs_from s (suc left) j at set = and_then (output_at s at set j) (outputs_from s left (j + 1))

-- ---- 0x06: the rest word, if there is one

-- the two bytes of a body, the high one first
abbrev pub rest_word : List ℕ → ℕ
rest_word body = get_or body 0 0 * 256 + get_or body 1 0

-- 54, or the rest word of a set of n outputs is good: it is not 0, and has bits at outputs only
abbrev pub rest_good : ℕ → ℕ → Taken
rest_good rest n = good_if (ltb 0 rest && ltb rest (2 ^ n)) 54

-- the rest word, if its field stands here; a field of another tag is left to the constraints and the end, which test it
unfoldable pub rest_at : List ℕ → ℕ → Set → Loading
rest_at s at set =
    let given = field_at s at 6 (λ body. rest_good (rest_word body) set.n) (λ body. with_rest set (rest_word body)) in
    cond (eqb (get_or (drop at s) 0 0) 6) given (going_on at set)

-- ---- 0x04 and 0x07: literals

-- the set with a constraint more
abbrev pub with_constraint : Set → Constraint → Set
with_constraint set c = with_counts (with_constraints set (store set.constraints set.m c)) set.r set.n (set.m + 1)

-- by what its literals give
abbrev pub constraint_given : ℕ → ℕ → Set → Literals → Loading
constraint_given at len set got = field_done at len got.taken (with_constraint set got.made)

-- a constraint of this tag whose body has `len` bytes
unfoldable pub constraint_at : List ℕ → ℕ → ℕ → ℕ → Set → Loading
constraint_at s at tag len set = constraint_given at len set (literals_of (is_wide tag) set.r set.n (body_of (drop at s) len))

-- ---- 0x05: the end

-- 12 with the offset of the first byte that follows, or the end
abbrev pub end_at : List ℕ → ℕ → Set → Loading
end_at s at set = cond (ltb (at + 3) (length s)) (refusal 12 (at + 3)) (going_on (at + 3) set)

-- by the header: the end, or a constraint and what follows it
abbrev pub constraints_given : List ℕ → ℕ → Set → (ℕ → Set → Loading) → Header → Loading
constraints_given s at set next (Stopped number) = refusal number at
constraints_given s at set next (Field tag len) =
    let on = and_then (constraint_at s at tag len set) next in
    cond (eqb tag 5) (end_at s at set) on

-- constraints up to the end, at most `left` fields; a constraint above the most is refused by its header, so that one field more is enough and
-- `left` does not run out
unfoldable pub constraints_from : List ℕ → ℕ → ℕ → Set → Loading
constraints_from s zero at set = refusal 3 at
constraints_from s (suc left) at set = constraints_given s at set (constraints_from s left) (header_of (drop at s) 4 set.m)

-- ---- the whole

-- what follows the rest word
abbrev pub after_rest : List ℕ → ℕ → Set → Loading
after_rest s at set = constraints_from s (suc most_constraints) at set

-- what follows the outputs
abbrev pub after_outputs : List ℕ → ℕ → Set → Loading
after_outputs s at set = and_then (rest_at s at set) (after_rest s)

-- what follows the read points
abbrev pub after_reads : List ℕ → ℕ → Set → Loading
after_reads s at set = and_then (outputs_from s set.n 0 at set) (after_outputs s)

-- what follows the counts
abbrev pub after_counts : List ℕ → ℕ → Set → Loading
after_counts s at set = and_then (reads_from s set.r 0 at set) (after_reads s)

-- the whole file, with the place behind its last field
unfoldable pub load_from : List ℕ → Loading
load_from s = and_then (counts_at s) (after_counts s)

-- the answer of a load that has come to its end
abbrev pub answer_of : Progress → LoadAnswer
answer_of (At at) = WasLoaded
answer_of (Refused number at) = WasRefused number at

-- what is answered of it, beside its set
abbrev pub answered : Loading → Loaded
answered l = record { answer = answer_of l.progress; set = l.set }

-- loading a file: the set, or the refusal's number and offset beside the zero set
unfoldable pub load_of : List ℕ → Loaded
load_of s = answered (load_from s)
