-- The code's way of loading: a field's step gives a read point or a name alone, read points and outputs are kept in lists of their own beside their
-- names and the list of which read points are pasts, and the set is made of them.
-- Assumes nothing.
use Rattle.std.specs.Prelude.{ℕ, ◌+◌, ◌≡◌, Bool, false, cond, not, List, Result, Ok, Err, map, ltb, eqb, length, get_or, drop}
use Rattle.scan.specs.declared.set.ReadPoint.{ReadPoint}
use Rattle.scan.specs.declared.set.OutputPoint.{OutputPoint}
use Rattle.scan.specs.declared.set.Constraint.{Constraint}
use Rattle.scan.specs.declared.set.Set.{Set}
use Rattle.scan.specs.Set.{with_counts, with_reads, with_outputs, with_constraints, with_rest}
use Rattle.scan.specs.Shape.{is_sensor}
use Rattle.header.specs.declared.numbers.Fault.{Fault}
use Rattle.header.specs.declared.numbers.Refusal.{Refusal}
use Rattle.header.specs.Fault.{number, Taken, Refused as Denied, Good}
use Rattle.header.specs.Header.{Header, Refused as Stopped, Field, header_of, body_of}
use Rattle.loader.specs.declared.loader.Loaded.{Loaded}
use Rattle.loader.specs.declared.loader.LoadAnswer.{LoadAnswer}
use Rattle.loader.specs.declared.loader.LoadAnswer.TheVariants.{Loaded as WasLoaded, Refused as WasRefused}
use Rattle.loader.specs.Load.{Progress, At, Refused, Loading, NameField, ReadField, refusal, going_on, of_counts, rest_word, rest_good}

-- ---- pasts

-- place k of the list says no past
abbrev pub not_past : List Bool → ℕ → Bool
not_past pasts k = not (get_or pasts k false)

-- the list says of each read point whether it is a past
abbrev pub Pasts : List Bool → List ReadPoint → Type 0
Pasts pasts reads = pasts ≡ map (λ (p : ReadPoint). not (is_sensor p.kind)) reads

-- ---- what the code's answers say: a fault is told by its number

-- of a body
abbrev pub given : {A : Type 0} → Result A Fault → Result A ℕ
given (Ok x) = Ok x
given (Err fault) = Err (number fault)

-- a step over a field: what the field gives and the place behind it; or a refusal's number and the field's place
abbrev pub Step : Type 0 → Type 0
Step A = Result (A × ℕ) (ℕ × ℕ)

-- of a step
abbrev pub numbered : {A : Type 0} → Result (A × ℕ) Refusal → Step A
numbered (Ok x) = Ok x
numbered (Err r) = Err (number r.fault, r.offset)

-- of the end
abbrev pub end_told : Result ℕ Refusal → Progress
end_told (Ok at) = At at
end_told (Err r) = Refused (number r.fault) r.offset

-- an answer, beside the set that was lent
abbrev pub loaded_with : LoadAnswer → Set → Loaded
loaded_with answer set = record { answer = answer; set = set }

-- of a whole file, beside the set that was lent
abbrev pub loaded_told : Result ℕ Refusal → Set → Loaded
loaded_told (Ok end) set = loaded_with WasLoaded set
loaded_told (Err r) set = loaded_with (WasRefused (number r.fault) r.offset) set

-- ---- what the definitions give, without what stands beside a refusal

-- a value, if it is taken
abbrev pub if_taken : {A : Type 0} → Taken → A → Result A ℕ
if_taken Good x = Ok x
if_taken (Denied number) x = Err number

-- a name
abbrev pub name_given : NameField → Result (List ℕ) ℕ
name_given f = if_taken f.taken f.name

-- a read point
abbrev pub read_given : ReadField → Result ReadPoint ℕ
read_given f = if_taken f.taken f.read

-- the rest word in a body, of a set of n outputs
abbrev pub rest_given : ℕ → List ℕ → Result ℕ ℕ
rest_given n body = if_taken (rest_good (rest_word body) n) (rest_word body)

-- ---- steps

-- by what a body gives
abbrev pub step_done : {A : Type 0} → ℕ → ℕ → Result A ℕ → Step A
step_done at behind (Ok x) = Ok (x, behind)
step_done at behind (Err number) = Err (number, at)

-- by the field's header, and then by what its body gives
abbrev pub step_by : {A : Type 0} → List ℕ → ℕ → (List ℕ → Result A ℕ) → Header → Step A
step_by s at got (Stopped number) = Err (number, at)
step_by s at got (Field tag len) = step_done at (at + 3 + len) (got (body_of (drop at s) len))

-- over the rest word's field, if it stands here
unfoldable pub rest_place : List ℕ → ℕ → ℕ → Step ℕ
rest_place s at n =
    let step = step_by s at (rest_given n) (header_of (drop at s) 6 0) in cond (eqb (get_or (drop at s) 0 0) 6) step (Ok (0, at))

-- ---- the set so far

-- a load that has come so far, with this set where it goes on
abbrev pub reached : Progress → Set → Loading
reached (At at) set = going_on at set
reached (Refused number at) set = refusal number at

-- the same by a step, whose field gives that set
abbrev pub brought : {A : Type 0} → Step A → (A → Set) → Loading
brought (Ok x) made = going_on x.1 (made x.0)
brought (Err e) made = refusal e.0 e.1

-- and by the code's answer
abbrev pub reached_by : {A : Type 0} → Result (A × ℕ) Refusal → (A → Set) → Loading
reached_by x made = brought (numbered x) made

-- the place behind the end, or 12
abbrev pub end_place : List ℕ → ℕ → Progress
end_place s at = cond (ltb (at + 3) (length s)) (Refused 12 (at + 3)) (At (at + 3))

-- a set of r read points and n outputs, with neither its rest word nor its constraints loaded yet
abbrev pub points_set : ℕ → ℕ → List ReadPoint → List OutputPoint → Set
points_set r n reads outputs = with_outputs (with_reads (of_counts r n) reads) outputs

-- the set with its rest word
abbrev pub rested_set : ℕ → ℕ → ℕ → List ReadPoint → List OutputPoint → Set
rested_set r n rest reads outputs = with_rest (points_set r n reads outputs) rest

-- the set with m constraints, too
abbrev pub whole_set : ℕ → ℕ → ℕ → ℕ → List ReadPoint → List OutputPoint → List Constraint → Set
whole_set r n m rest reads outputs constraints = with_counts (with_constraints (rested_set r n rest reads outputs) constraints) r n m
