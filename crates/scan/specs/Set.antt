-- What a set is made of, document 01's "Points and words": its limits, its parts by number, and the values with every field zero.
-- Assumes nothing.
use Rattle.std.specs.Prelude.{ℕ, Bool, false, List, [], get_or, replicate}
use Rattle.std.specs.Int.Bits.{bit_or}
use Rattle.scan.specs.declared.set.Kind.{Kind}
use Rattle.scan.specs.declared.set.Kind.TheVariants.{Sensor}
use Rattle.scan.specs.declared.set.ReadPoint.{ReadPoint}
use Rattle.scan.specs.declared.set.OutputPoint.{OutputPoint}
use Rattle.scan.specs.declared.set.Constraint.{Constraint}
use Rattle.scan.specs.declared.set.Set.{Set}
use Rattle.scan.specs.declared.set.State.{State}

-- ---- limits

-- the most read points of a set
abbrev pub most_reads : ℕ
most_reads = 20

-- the most outputs
abbrev pub most_outputs : ℕ
most_outputs = 12

-- the most read points and outputs together
abbrev pub most_points : ℕ
most_points = 24

-- the most constraints
abbrev pub most_constraints : ℕ
most_constraints = 64

-- the byte places of a name
abbrev pub name_places : ℕ
name_places = 8

-- ranks are below this
abbrev pub rank_end : ℕ
rank_end = 256

-- ---- zero values; a zero point is of kind 0, index 0: a sensor

-- eight zero bytes
abbrev pub zero_name : List ℕ
zero_name = replicate name_places 0

-- a read point of zeros
abbrev pub zero_read : ReadPoint
zero_read = record { kind = Sensor; name = zero_name }

-- an output of zeros
abbrev pub zero_output : OutputPoint
zero_output = record { name = zero_name }

-- a constraint of zeros
abbrev pub zero_constraint : Constraint
zero_constraint = record { read_plain = 0; read_negated = 0; out_plain = 0; out_negated = 0; ranks = replicate most_outputs 0 }

-- the set with every field zero, which a refused load carries
unfoldable pub zero_set : Set
zero_set = record {
  r = 0;
  n = 0;
  m = 0;
  rest = 0;
  reads = replicate most_reads zero_read;
  outputs = replicate most_outputs zero_output;
  constraints = replicate most_constraints zero_constraint;
}

-- ---- a set with some of its parts changed: the fields of a set are listed in `zero_set` and here, and nowhere else

-- the set with the counts r, n and m
abbrev pub with_counts : Set → ℕ → ℕ → ℕ → Set
with_counts s r n m = record { r = r; n = n; m = m; rest = s.rest; reads = s.reads; outputs = s.outputs; constraints = s.constraints }

-- the set with these read points
abbrev pub with_reads : Set → List ReadPoint → Set
with_reads s reads = record { r = s.r; n = s.n; m = s.m; rest = s.rest; reads = reads; outputs = s.outputs; constraints = s.constraints }

-- the set with these outputs
abbrev pub with_outputs : Set → List OutputPoint → Set
with_outputs s outputs = record { r = s.r; n = s.n; m = s.m; rest = s.rest; reads = s.reads; outputs = outputs; constraints = s.constraints }

-- the set with these constraints
abbrev pub with_constraints : Set → List Constraint → Set
with_constraints s constraints = record { r = s.r; n = s.n; m = s.m; rest = s.rest; reads = s.reads; outputs = s.outputs; constraints = constraints }

-- the set with this rest word
abbrev pub with_rest : Set → ℕ → Set
with_rest s rest = record { r = s.r; n = s.n; m = s.m; rest = rest; reads = s.reads; outputs = s.outputs; constraints = s.constraints }

-- ---- states

-- a state of the set with the two pasts, and the mark whether a scan was accepted since the start
abbrev pub state_of : Set → ℕ → ℕ → Bool → State
state_of s output sensor accepted = record { set = s; past_output = output; past_sensor = sensor; accepted = accepted }

-- the state that a start of the set gives: its rest word as the past output word, past sensor word 0, and no scan accepted yet
abbrev pub fresh_state : Set → State
fresh_state s = state_of s s.rest 0 false

-- the state with every field zero, which a refused start carries
abbrev pub zero_state : State
zero_state = state_of zero_set 0 0 false

-- ---- the parts by number; past the end of a list stands what the machine reads there: zeros, the first variant, no elements

-- what is read past the last read point
abbrev pub no_read : ReadPoint
no_read = record { kind = Sensor; name = [] }

-- what is read past the last output
abbrev pub no_output : OutputPoint
no_output = record { name = [] }

-- what is read past the last constraint
abbrev pub no_constraint : Constraint
no_constraint = record { read_plain = 0; read_negated = 0; out_plain = 0; out_negated = 0; ranks = [] }

-- read point k of a list
abbrev pub read_point : List ReadPoint → ℕ → ReadPoint
read_point reads k = get_or reads k no_read

-- output j of a list
abbrev pub output_point : List OutputPoint → ℕ → OutputPoint
output_point outputs j = get_or outputs j no_output

-- the kind of read point k
unfoldable pub kind : Set → ℕ → Kind
kind s k = (read_point s.reads k).kind

-- constraint i
unfoldable pub constraint : Set → ℕ → Constraint
constraint s i = get_or s.constraints i no_constraint

-- the rank of output k in a constraint
abbrev pub rank : Constraint → ℕ → ℕ
rank c k = get_or c.ranks k 0

-- the outputs that a constraint names, plain or negated
abbrev pub outs : Constraint → ℕ
outs c = bit_or c.out_plain c.out_negated
