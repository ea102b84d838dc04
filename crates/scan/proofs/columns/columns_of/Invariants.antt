-- `scan::columns::columns_of` meets its contract. The invariant: each list has the literals of the constraints passed, and then zeros. Assumes nothing.
use mathlib.Core.Path.{◌≡◌}
use Rattle.words.specs.Loop.{word}
use Rattle.scan.specs.way.Columns.{column_upto, reads_named, simple_at}
use Rattle.scan.proofs.columns.columns_of.Given as goal

abbrev pub invariant-loop-i : goal.invariant-loop-i
invariant-loop-i l =
    (l.read_plain ≡ column_upto l.set (λ c. c.read_plain) l.i) × (l.read_named ≡ column_upto l.set reads_named l.i)
    × (l.out_plain ≡ column_upto l.set (λ c. c.out_plain) l.i) × (l.out_negated ≡ column_upto l.set (λ c. c.out_negated) l.i) × (l.simple ≡ word l.i (simple_at l.set))
