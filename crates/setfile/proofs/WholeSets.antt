-- A set whose counts pass, whose parts fit and which has zeros beyond them is well formed.
-- Assumes nothing.
use mathlib.Core.Path.{◌≡◌, refl, sym, ◌∙◌, ap, ap₂}
use mathlib.Core.Bool.{Bool, true, cond, ◌&&◌}
use mathlib.Core.List.{[], ◌∷◌}
use Prim.Native.Nat.{ℕ, ◌+◌, ◌^◌, ◌≤◌, ◌<◌}
use native.Mathlib.Decide.{dec_lt}
use native.Mathlib.Omega.{arith}
use lib.Dec.{ltb}
use lib.ListN.{length, get_or}
use borrow.Author.Tests.{eq-eqb, lt-ltb, le-ltb, le-leb, leb-true}
use Rattle.words.specs.Loop.{every, all}
use Rattle.words.proofs.BoolLaws.{every_at, cond_true, cond_false}
use Rattle.words.proofs.LoopLaws.{all_true}
use Rattle.scan.specs.declared.set.OutputPoint.{OutputPoint}
use Rattle.scan.specs.declared.set.Set.{Set}
use Rattle.scan.specs.Set.{most_reads, most_outputs, most_points, most_constraints, zero_read, zero_output, zero_constraint, read_point, output_point, constraint, no_read, no_output, no_constraint}
use Rattle.scan.specs.Names.{name_zero}
use Rattle.scan.specs.Shape.{count_tests, length_tests, read_ok, read_zero, read_place, output_ok, output_place, constraint_tests, constraint_zero, constraint_place, set_tests, well_formed}
use Rattle.setfile.proofs.PointsFit.{ReadFits, OutputFits, fits_read, fits_output}
use Rattle.setfile.proofs.FieldRuns.{Filled}

-- each place passes its test, up to the count and beyond it
placed : (N M : ℕ) (ok blank : ℕ → Bool) → ((k : ℕ) → k < N → ok k ≡ true) → ((k : ℕ) → N ≤ k → k < M → blank k ≡ true) → all M (λ k. cond (ltb k N) (ok k) (blank k)) ≡ true
placed N M ok blank f g = all_true M (λ k. cond (ltb k N) (ok k) (blank k)) (λ k h. go k h (dec_lt k N))
  where
    go : (k : ℕ) → k < M → Dec (k < N) → cond (ltb k N) (ok k) (blank k) ≡ true
    go k h (yes l) = sym (cond_true (ltb k N) (ok k) (blank k) (lt-ltb k N l)) ∙ f k l
    go k h (no l) = sym (cond_false (ltb k N) (ok k) (blank k) (le-ltb k N (omega arith))) ∙ g k (omega arith) h

zero_read_law : read_zero zero_read ≡ true
unfolding read_zero name_zero all
zero_read_law = refl

zero_output_law : name_zero zero_output.name ≡ true
unfolding name_zero all
zero_output_law = refl

zero_constraint_law : constraint_zero zero_constraint ≡ true
unfolding constraint_zero all
zero_constraint_law = refl

five : (a b c d e : Bool) → a ≡ true → b ≡ true → c ≡ true → d ≡ true → e ≡ true → every (a ∷ b ∷ c ∷ d ∷ e ∷ []) ≡ true
five a b c d e a' b' c' d' e' = rw (a', b', c', d', e')

six : (a b c d e f : Bool) → a ≡ true → b ≡ true → c ≡ true → d ≡ true → e ≡ true → f ≡ true → every (a ∷ b ∷ c ∷ d ∷ e ∷ f ∷ []) ≡ true
six a b c d e f a' b' c' d' e' f' = ap₂ ◌&&◌ a' (five b c d e f b' c' d' e' f')

-- the counts pass with as many constraints as there are
counts_pass : (r n m : ℕ) → every (count_tests r n 0) ≡ true → m ≤ most_constraints → every (count_tests r n m) ≡ true
unfolding count_tests
counts_pass r n m e h = let t = every_at (count_tests r n 0) e in five _ _ _ _ _ (t 0) (t 1) (t 2) (t 3) (le-leb m most_constraints h)

-- Counts that pass are within the limits.
pub limits : (r n : ℕ) → every (count_tests r n 0) ≡ true → (r ≤ most_reads) × (n ≤ most_outputs) × (r + n ≤ most_points)
unfolding count_tests
limits r n e = let t = every_at (count_tests r n 0) e in (leb-true r most_reads (t 0), leb-true n most_outputs (t 2), leb-true (r + n) most_points (t 3))

-- a set of counts that pass and parts that fit, its rest word too, with zeros beyond
pub record Whole (s : Set) : Type 0 where
  pub counts : every (count_tests s.r s.n 0) ≡ true
  pub few : s.m ≤ most_constraints
  pub reads : Filled zero_read no_read most_reads s.r s.reads
  pub reads_fit : (k : ℕ) → k < s.r → ReadFits s.n s.reads k (read_point s.reads k)
  pub outputs : Filled zero_output no_output most_outputs s.n s.outputs
  pub outputs_fit : (k : ℕ) → k < s.n → OutputFits s.reads s.r s.outputs k (output_point s.outputs k)
  pub constraints : Filled zero_constraint no_constraint most_constraints s.m s.constraints
  pub rest_fits : s.rest < 2 ^ s.n
  pub constraints_fit : (k : ℕ) → k < s.m → every (constraint_tests s.r s.n (get_or s.constraints k no_constraint)) ≡ true

-- Such a set is well formed.
pub whole_formed : (s : Set) → Whole s → well_formed s ≡ true
unfolding well_formed set_tests length_tests read_place output_place constraint_place constraint
whole_formed s w =
    six _ _ _ _ _ _
    (counts_pass s.r s.n s.m w.counts w.few)
    lengths_pass
    (placed s.r most_reads (read_ok s.reads s.n) (λ k. read_zero (read_point s.reads k))
    (λ k h. fits_read s.n s.reads k (w.reads_fit k h)) (λ k h l. ap read_zero (w.reads.blank k h l) ∙ zero_read_law))
    (placed s.n most_outputs (output_ok s.reads s.r s.outputs) (λ k. name_zero (output_point s.outputs k).name)
    (λ k h. fits_output s.reads s.r s.outputs k (w.outputs_fit k h)) (λ k h l. ap (λ (p : OutputPoint). name_zero p.name) (w.outputs.blank k h l) ∙ zero_output_law))
    (placed s.m most_constraints (λ k. every (constraint_tests s.r s.n (get_or s.constraints k no_constraint))) (λ k. constraint_zero (get_or s.constraints k no_constraint))
    w.constraints_fit (λ k h l. ap constraint_zero (w.constraints.blank k h l) ∙ zero_constraint_law))
    (lt-ltb s.rest (2 ^ s.n) w.rest_fits)
  where
    lengths_pass : every (length_tests s) ≡ true
    lengths_pass = rw (eq-eqb (length s.reads) most_reads w.reads.long, eq-eqb (length s.outputs) most_outputs w.outputs.long, eq-eqb (length s.constraints) most_constraints w.constraints.long)
