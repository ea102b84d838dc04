-- Values with every field zero, written out in full: what a refused load or start carries, and what stands in places beyond the counts. A zero point
-- is kind 0, index 0.
-- Assumes nothing.
use Rattle.std.specs.Prelude.{false, replicate}
use Rattle.scan.specs.declared.set.Kind.TheVariants.{Sensor}
use Rattle.scan.specs.declared.set.ReadPoint.{ReadPoint}
use Rattle.scan.specs.declared.set.OutputPoint.{OutputPoint}
use Rattle.scan.specs.declared.set.Constraint.{Constraint}
use Rattle.scan.specs.declared.set.Set.{Set}
use Rattle.scan.specs.declared.set.State.{State}

-- a read point: a sensor without a name
abbrev pub all_zero_read : ReadPoint
all_zero_read = record { kind = Sensor; name = replicate 8 0 }

-- an output without a name
abbrev pub all_zero_output : OutputPoint
all_zero_output = record { name = replicate 8 0 }

-- a constraint without literals
abbrev pub all_zero_constraint : Constraint
all_zero_constraint = record { read_plain = 0; read_negated = 0; out_plain = 0; out_negated = 0; ranks = replicate 12 0 }

-- no read points, outputs or constraints, rest word 0, and zeros in every place
abbrev pub all_zero_set : Set
all_zero_set = record {
  r = 0;
  n = 0;
  m = 0;
  rest = 0;
  reads = replicate 20 all_zero_read;
  outputs = replicate 12 all_zero_output;
  constraints = replicate 64 all_zero_constraint;
}

-- that set, both pasts 0, and no scan accepted
abbrev pub all_zero_state : State
all_zero_state = record { set = all_zero_set; past_output = 0; past_sensor = 0; accepted = false }
