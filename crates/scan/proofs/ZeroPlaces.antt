-- A point or constraint that passes the tests of a place beyond the counts is the one of zeros.
-- Assumes nothing.
use mathlib.Core.Path.{◌≡◌, sym, ◌∙◌}
use mathlib.Core.Bool.{true}
use mathlib.Core.List.{List, [], ◌∷◌}
use Prim.Native.Nat.{ℕ, ◌<◌}
use native.Mathlib.Omega.{arith}
use lib.Dec.{eqb}
use lib.ListN.{length, get_or, replicate, length-replicate, get_or-replicate}
use lib.Seq.{ext_get_or}
use borrow.Author.Tests.{eqb-true}
use Rattle.words.specs.Loop.{all}
use Rattle.words.proofs.BoolLaws.{every_at}
use Rattle.words.proofs.LoopLaws.{all_at}
use Rattle.scan.specs.declared.set.ReadPoint.{ReadPoint}
use Rattle.scan.specs.declared.set.OutputPoint.{OutputPoint}
use Rattle.scan.specs.declared.set.Constraint.{Constraint}
use Rattle.scan.specs.Set.{most_outputs, name_places, zero_name, zero_read, zero_output, zero_constraint}
use Rattle.scan.specs.Names.{zero_at, name_zero}
use Rattle.scan.proofs.ShapeLaws.{is_sensor_law}
use Rattle.scan.specs.Shape.{is_sensor, read_zero, rank_zero, constraint_zero}

-- numbers that are all zero
zeros : (N : ℕ) (l : List ℕ) → length l ≡ N → ((k : ℕ) → k < N → eqb (get_or l k 0) 0 ≡ true) → l ≡ replicate N 0
zeros N l e z =
    ext_get_or 0 l (replicate N 0) (e ∙ sym (length-replicate N 0))
    (λ k h. let w : k < N = omega arith in eqb-true (get_or l k 0) 0 (z k w) ∙ sym (get_or-replicate N k 0 0 w))

-- a name that passes the test of zeros
name_blank : (name : List ℕ) → name_zero name ≡ true → name ≡ zero_name
unfolding name_zero
name_blank name e =
    let t = every_at (eqb (length name) name_places ∷ all name_places (zero_at name) ∷ []) e in
    zeros name_places name (eqb-true (length name) name_places (t 0)) (all_at name_places (zero_at name) (t 1))

-- a read point that does
pub read_blank : (p : ReadPoint) → read_zero p ≡ true → p ≡ zero_read
unfolding read_zero
read_blank p e =
    let t = every_at (is_sensor p.kind ∷ name_zero p.name ∷ []) e in
    let k = is_sensor_law p.kind (t 0) in
    let n = name_blank p.name (t 1) in
    λ i. record { kind = k i; name = n i }

-- an output
pub output_blank : (p : OutputPoint) → name_zero p.name ≡ true → p ≡ zero_output
output_blank p e = let n = name_blank p.name e in λ i. record { name = n i }

-- a constraint
pub constraint_blank : (c : Constraint) → constraint_zero c ≡ true → c ≡ zero_constraint
unfolding constraint_zero
constraint_blank c e =
    let t = every_at (eqb c.read_plain 0 ∷ eqb c.read_negated 0 ∷ eqb c.out_plain 0 ∷ eqb c.out_negated 0 ∷ eqb (length c.ranks) most_outputs ∷ all most_outputs (rank_zero c) ∷ []) e in
    let p = eqb-true c.read_plain 0 (t 0) in
    let q = eqb-true c.read_negated 0 (t 1) in
    let u = eqb-true c.out_plain 0 (t 2) in
    let v = eqb-true c.out_negated 0 (t 3) in
    let k = zeros most_outputs c.ranks (eqb-true (length c.ranks) most_outputs (t 4)) (all_at most_outputs (rank_zero c) (t 5)) in
    λ i. record { read_plain = p i; read_negated = q i; out_plain = u i; out_negated = v i; ranks = k i }
