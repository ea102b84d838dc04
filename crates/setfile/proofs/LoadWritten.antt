-- The file of a well-formed set loads to the set.
-- Assumes nothing.
use mathlib.Core.Path.{◌≡◌, refl, ◌∙◌, ap}
use mathlib.Core.Bool.{Bool, true, false}
use mathlib.Core.List.{List, [], ◌∷◌, ◌++◌, append_assoc}
use Prim.Native.Nat.{ℕ, suc, ◌+◌, ◌-◌, ◌≤◌, ◌<◌}
use native.Mathlib.Omega.{arith}
use lib.Dec.{eqb}
use lib.ListN.{length, get_or, take, drop}
use borrow.Author.Tests.{le-leb}
use Rattle.words.specs.Loop.{every}
use Rattle.scan.specs.declared.set.Constraint.{Constraint}
use Rattle.scan.specs.declared.set.Set.{Set}
use Rattle.scan.specs.Set.{most_reads, most_outputs, most_points, most_constraints, zero_set, zero_constraint, no_constraint, read_point, output_point, constraint}
use Rattle.scan.specs.Shape.{count_tests, constraint_tests, well_formed}
use Rattle.scan.proofs.ShapeLaws.{constraint_ok, counts, rest_lt, beyond_zero, points_formed}
use Rattle.header.specs.Tag.{tag_by, names_high}
use Rattle.loader.specs.declared.loader.LoadAnswer.TheVariants.{Loaded}
use Rattle.loader.specs.Load.{Loading, going_on, and_then, field_done, field_by, of_counts, good_if, counts_told, counts_made, counts_at, constraints_from, after_counts, after_reads, after_outputs, after_rest, answered, load_from, load_of}
use Rattle.writer.specs.Write.{field_of, read_body, output_body, constraint_tag, literal_body, read_tag, output_tag, fields_of, rest_field, write_of}
use Rattle.setfile.proofs.Fields.{field_back}
use Rattle.setfile.proofs.PointsFit.{read_fits, output_fits}
use Rattle.scan.proofs.ZeroPlaces.{read_blank, output_blank, constraint_blank}
use Rattle.setfile.proofs.FieldRuns.{run_back}
use Rattle.setfile.proofs.PointRuns.{points_back}
use Rattle.setfile.proofs.PointKinds.{read_points, outputs_base, no_rest, output_points}
use Rattle.setfile.proofs.RestFields.{rest_back}
use Rattle.setfile.proofs.ConstraintRuns.{rest_base, constraint_run, constraint_step, end_back}

-- the fields of constraints and the end
abbrev pub behind_rest : Set → List ℕ
behind_rest s = fields_of constraint_tag literal_body (take s.m s.constraints) ++ field_of 0x05 []

-- they begin with the tag of a constraint or of the end
last_tag : (l : List Constraint) → eqb (get_or (fields_of constraint_tag literal_body l ++ field_of 0x05 []) 0 0) 6 ≡ false
unfolding fields_of
last_tag [] = refl
last_tag (c ∷ l) = go (names_high c)
  where
    go : (wide : Bool) → eqb (tag_by wide) 6 ≡ false
    go true = refl
    go false = refl

-- that of the rest word, too
abbrev pub behind_outputs : Set → List ℕ
behind_outputs s = rest_field s.rest ++ behind_rest s

-- those of outputs, too
abbrev pub behind_reads : Set → List ℕ
behind_reads s = fields_of output_tag output_body (take s.n s.outputs) ++ behind_outputs s

-- those of read points, too
abbrev pub behind_counts : Set → List ℕ
behind_counts s = fields_of read_tag read_body (take s.r s.reads) ++ behind_reads s

-- A set's file is the counts and those.
pub file_parts : (s : Set) → write_of s ≡ field_of 0x01 (s.r ∷ s.n ∷ []) ++ behind_counts s
unfolding write_of
file_parts s = simp append_assoc

module _ (s : Set) (ok : well_formed s ≡ true) where
  counts_pass : every (count_tests s.r s.n 0) ≡ true
  unfolding count_tests
  counts_pass = let c = counts s ok in rw (le-leb s.r most_reads c.r_le, le-leb 1 s.n c.n_pos, le-leb s.n most_outputs c.n_le, le-leb (s.r + s.n) most_points c.sum_le)

  constraint_fits : (k : ℕ) → k < s.m → every (constraint_tests s.r s.n (get_or s.constraints k no_constraint)) ≡ true
  unfolding constraint
  constraint_fits = constraint_ok s ok

  constraint_rest : (k : ℕ) → s.m ≤ k → k < most_constraints → get_or s.constraints k no_constraint ≡ zero_constraint
  unfolding constraint
  constraint_rest k h l = constraint_blank (get_or s.constraints k no_constraint) (beyond_zero s ok k h l)

  module _ (file : List ℕ) (e : file ≡ field_of 0x01 (s.r ∷ s.n ∷ []) ++ behind_counts s) where
    counts_back : counts_at file ≡ going_on 5 (of_counts s.r s.n)
    unfolding counts_at
    counts_back =
        ap counts_at e
        ∙ ap (field_by (field_of 0x01 (s.r ∷ s.n ∷ []) ++ behind_counts s) 0 counts_told counts_made) (field_back 1 (s.r ∷ s.n ∷ []) (behind_counts s) 1 0 refl refl refl)
        ∙ ap (λ (b : Bool). field_done 0 2 (good_if b 5) (of_counts s.r s.n)) counts_pass

    loads : load_from file ≡ going_on (length file) s
    unfolding load_from zero_set
    loads =
        let c = counts s ok in
        let p = points_formed s ok in
        let a = points_back file (read_points file s.r s.n) s.reads s.r p.reads_long p.reads_few
        (λ k h. read_fits s.n s.reads k (p.read_ok_law k h)) (λ k h l. read_blank (read_point s.reads k) (p.read_zero_law k h l)) 5 (behind_reads s) (ap (drop 5) e) in
        let b = points_back file (output_points file s.r s.n s.reads) s.outputs s.n p.outputs_long p.outputs_few
        (λ k h. output_fits s.reads s.r s.outputs k (p.output_ok_law k h)) (λ k h l. output_blank (output_point s.outputs k) (p.output_zero k h l)) a.0 (behind_outputs s) a.2 in
        let w = rest_back file b.0 (outputs_base s.r s.n s.reads s.n s.outputs) (no_rest s.r s.n s.reads s.n s.outputs) s.rest (behind_rest s) (rest_lt s ok) (last_tag (take s.m s.constraints)) b.2 in
        let left = most_constraints - s.m in
        let few = c.m_le in
        let sum : suc most_constraints ≡ s.m + suc left = omega arith in
        let d = run_back file (constraint_run file s.r s.n s.reads s.outputs s.rest)
        (constraint_step file s.r s.n c.r_le c.n_le c.sum_le s.reads s.outputs s.rest)
        s.constraints s.m p.constraints_long c.m_le constraint_fits constraint_rest (suc left) w.0 (field_of 0x05 []) w.2 in
        ap (λ (l : Loading). and_then l (after_counts file)) counts_back
        ∙ ap (λ (l : Loading). and_then l (after_reads file)) a.1
        ∙ ap (λ (l : Loading). and_then l (after_outputs file)) b.1
        ∙ ap (λ (l : Loading). and_then l (after_rest file)) w.1
        ∙ ap (λ (k : ℕ). constraints_from file k w.0 (rest_base s.r s.n s.reads s.outputs s.rest)) sum
        ∙ d.1
        ∙ end_back file s.r s.n c.r_le c.n_le c.sum_le s.reads s.outputs s.rest left s.m d.0 s.constraints d.2

-- Loading the file of a well-formed set comes to its end.
pub loads_written : (s : Set) → well_formed s ≡ true → load_from (write_of s) ≡ going_on (length (write_of s)) s
loads_written s ok = loads s ok (write_of s) (file_parts s)

-- The file of a well-formed set loads to the set.
pub load_written : (s : Set) → well_formed s ≡ true → load_of (write_of s) ≡ record { answer = Loaded; set = s }
unfolding load_of
load_written s ok = ap answered (loads_written s ok)
