-- `machine::past::read_points` meets its contract. The invariant: of the read points passed, `past` has the past points, and `word` what they read. Assumes nothing.
use mathlib.Core.Path.{◌≡◌}
use Rattle.words.specs.Loop.{word}
use Rattle.machine.specs.Past.{reading_at}
use Rattle.machine.specs.Machine.{is_past}
use Rattle.machine.proofs.past.read_points.Given as goal

abbrev pub invariant-loop-k : goal.invariant-loop-k
invariant-loop-k l = (l.past ≡ word l.k (is_past l.s)) × (l.word ≡ word l.k (reading_at l.s l.output l.sensor l.present))
