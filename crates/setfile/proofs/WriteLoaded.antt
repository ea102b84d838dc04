-- A file that loads is the file of the set that it loads to, and that set is well formed.
-- Assumes nothing.
use mathlib.Core.Path.{◌≡◌, refl, sym, ◌∙◌, ap, ap₂}
use mathlib.Core.Bool.{Bool, true, false}
use mathlib.Core.List.{List, [], ◌∷◌, ◌++◌}
use Prim.Native.Nat.{ℕ, suc, ◌+◌, ◌≤◌}
use native.Mathlib.Omega.{arith}
use lib.ListN.{length, get_or, take, drop}
use borrow.Author.Tests.{eqb-false}
use Rattle.words.specs.Loop.{every}
use Rattle.scan.specs.declared.set.ReadPoint.{ReadPoint}
use Rattle.scan.specs.declared.set.OutputPoint.{OutputPoint}
use Rattle.scan.specs.declared.set.Constraint.{Constraint}
use Rattle.scan.specs.declared.set.Set.{Set}
use Rattle.scan.specs.Set.{most_reads, most_outputs, most_points, most_constraints, zero_set}
use Rattle.scan.specs.Shape.{count_tests, well_formed}
use Rattle.header.specs.Header.{Header, Refused as Stopped, Field, header_of, body_of, fits_table}
use Rattle.loader.specs.Load.{Progress, At, Refused, Loading, going_on, then_from, and_then, field_done, field_by, of_counts, good_if, counts_told, counts_made, counts_at, reads_from, outputs_from, rest_at, constraints_from, after_counts, after_reads, after_outputs, after_rest, answer_of, load_from, load_of}
use Rattle.loader.specs.declared.loader.LoadAnswer.TheVariants.{Loaded}
use Rattle.header.specs.Bytes.{Bytes}
use Rattle.writer.specs.Write.{field_of, fields_of, read_body, output_body, constraint_tag, literal_body, read_tag, output_tag, rest_field, write_of}
use Rattle.header.proofs.HeaderLaws.{table_bounds, due_is}
use Rattle.setfile.proofs.Fields.{two_bytes, found}
use Rattle.setfile.proofs.FieldRuns.{Done, run_taken}
use Rattle.setfile.proofs.PointRuns.{points_taken}
use Rattle.setfile.proofs.PointKinds.{reads_base, read_run, read_points, outputs_base, no_rest, output_run, output_points}
use Rattle.setfile.proofs.RestFields.{Took, rest_taken}
use Rattle.setfile.proofs.ConstraintRuns.{rest_base, constraints_base, constraint_run, EndHere, constraints_zero, constraint_moved}
use Rattle.setfile.proofs.WholeSets.{limits, whole_formed}
use Rattle.setfile.proofs.LoadWritten.{file_parts}

-- ---- the parts of a load that came to its end

came : (l : Loading) (next : ℕ → Set → Loading) (last : ℕ) → (and_then l next).progress ≡ At last → (at : ℕ) × (l.progress ≡ At at)
came l next last e = go l.progress refl e
  where
    go : (p : Progress) → l.progress ≡ p → (then_from p l.set next).progress ≡ At last → (at : ℕ) × (l.progress ≡ At at)
    go (At at) t u = (at, t)
    go (Refused number at) t u = let z : ◌≡◌ {A = ℕ} 0 1 = cc in absurd (omega arith)

-- what the first field tells
record Counted (file : List ℕ) : Type 0 where
  reads : ℕ
  outputs : ℕ
  passed : every (count_tests reads outputs 0) ≡ true
  loaded : counts_at file ≡ going_on 5 (of_counts reads outputs)
  written : file ≡ field_of 1 (reads ∷ outputs ∷ []) ++ drop 5 file

counted : (file : List ℕ) → Bytes file → (at : ℕ) → (counts_at file).progress ≡ At at → Counted file
unfolding counts_at
counted file bytes at e = by_header (header_of file 1 0) refl e
  where
    by_test : (tag len : ℕ) → header_of file 1 0 ≡ Field tag len → (t : Bool) → every (count_tests (get_or (body_of file len) 0 0) (get_or (body_of file len) 1 0) 0) ≡ t
        → (field_done 0 len (good_if t 5) (counts_made (body_of file len))).progress ≡ At at → Counted file
    by_test tag len hd false t u = let z : ◌≡◌ {A = ℕ} 0 1 = cc in absurd (omega arith)
    by_test tag len hd true t u =
        let f = found file 0 1 0 tag len bytes hd in
        let one : tag ≡ 1 = due_is 1 tag (eqb-false 1 4 refl) f.awaited in
        let bounds = table_bounds 1 len (ap (λ (x : ℕ). fits_table x len) (sym one) ∙ f.table) in
        let two : len ≡ 2 = omega (arith, bounds) in
        let r = get_or (body_of file len) 0 0 in
        let n = get_or (body_of file len) 1 0 in
        let whole : file ≡ field_of 1 (r ∷ n ∷ []) ++ drop (0 + 3 + len) file =
        f.whole ∙ ap₂ (λ (x : ℕ) (b : List ℕ). field_of x b ++ drop (0 + 3 + len) file) one (two_bytes (body_of file len) (f.long ∙ two)) in
        record {
          reads = r;
          outputs = n;
          passed = t;
          loaded =
              ap (field_by file 0 counts_told counts_made) hd ∙ ap (λ (b : Bool). field_done 0 len (good_if b 5) (of_counts r n)) t
              ∙ ap (λ (x : ℕ). going_on (3 + x) (of_counts r n)) two;
          written = whole ∙ ap (λ (x : ℕ). field_of 1 (r ∷ n ∷ []) ++ drop (0 + 3 + x) file) two;
        }

    by_header : (h : Header) → header_of file 1 0 ≡ h → (field_by file 0 counts_told counts_made h).progress ≡ At at → Counted file
    by_header (Stopped number) t u = let z : ◌≡◌ {A = ℕ} 0 1 = cc in absurd (omega arith)
    by_header (Field tag len) t u = by_test tag len t (every (count_tests (get_or (body_of file len) 0 0) (get_or (body_of file len) 1 0) 0)) refl u

-- ---- the whole file

not_last : (m left : ℕ) → m + left ≡ suc most_constraints → 1 ≤ left → m ≤ most_constraints
not_last m left e h = omega arith

-- what a load that came to its end tells: the set, its file, and that it is well formed
record Read (file : List ℕ) : Type 0 where
  set : Set
  loaded : load_from file ≡ going_on (length file) set
  written : write_of set ≡ file
  formed : well_formed set ≡ true

-- The parts of the file are taken one after the other.
module _ (file : List ℕ) (bytes : Bytes file) (last : ℕ) (c : Counted file) where
  abbrev r : ℕ
  r = c.reads

  abbrev n : ℕ
  n = c.outputs

  limited : (r ≤ most_reads) × (n ≤ most_outputs) × (r + n ≤ most_points)
  limited = limits r n c.passed

  module _ (at1 : ℕ) (reads : List ReadPoint) (a : Done file (read_run file r n) 5 r at1 reads) (a-load : reads_from file r 0 5 (of_counts r n) ≡ going_on at1 (reads_base r n r reads)) where
    module _ (at2 : ℕ) (outputs : List OutputPoint) (b : Done file (output_run file r n reads) at1 n at2 outputs)
        (b-load : outputs_from file n 0 at1 (reads_base r n r reads) ≡ going_on at2 (outputs_base r n reads n outputs)) where
      module _ (at3 : ℕ) (w : Took file at2 (outputs_base r n reads n outputs) (no_rest r n reads n outputs) at3) where
        -- the rest word
        abbrev word : ℕ
        word = w.word

        -- all of them
        ended : (m left at4 : ℕ) (full : List Constraint) → m + left ≡ suc most_constraints → Done file (constraint_run file r n reads outputs word) at3 m at4 full
            → EndHere file (constraints_base r n reads outputs word) left m at4 full
            → constraints_from file (suc most_constraints) at3 (rest_base r n reads outputs word) ≡ constraints_from file left at4 (constraints_base r n reads outputs word m full) → Read file
        unfolding load_from
        ended m left at4 full total d stop d-load =
            let s = constraints_base r n reads outputs word m full in
            record {
              set = s;
              loaded =
                  ap (λ (l : Loading). and_then l (after_counts file)) c.loaded
                  ∙ ap (λ (l : Loading). and_then l (after_reads file)) a-load
                  ∙ ap (λ (l : Loading). and_then l (after_outputs file)) b-load
                  ∙ ap (λ (l : Loading). and_then l (after_rest file)) w.loaded
                  ∙ d-load ∙ stop.2;
              written =
                  file_parts s
                  ∙ sym (c.written
                  ∙ ap (λ (l : List ℕ). field_of 1 (r ∷ n ∷ []) ++ l) (a.written
                  ∙ ap (λ (l : List ℕ). fields_of read_tag read_body (take r reads) ++ l) (b.written
                  ∙ ap (λ (l : List ℕ). fields_of output_tag output_body (take n outputs) ++ l) (w.written
                  ∙ ap (λ (l : List ℕ). rest_field word ++ l) (d.written
                  ∙ ap (λ (l : List ℕ). fields_of constraint_tag literal_body (take m full) ++ l) stop.0)))));
              formed =
                  whole_formed s
                  (record {
                    counts = c.passed;
                    few = not_last m left total stop.1;
                    reads = a.filled;
                    reads_fit = a.fits;
                    outputs = b.filled;
                    outputs_fit = b.fits;
                    constraints = d.filled;
                    rest_fits = w.small;
                    constraints_fit = d.fits;
                  });
            }

        -- the constraints
        constraints_read : (constraints_from file (suc most_constraints) at3 (rest_base r n reads outputs word)).progress ≡ At last → Read file
        unfolding zero_set
        constraints_read e =
            let t = limited in
            let d = run_taken file (constraint_run file r n reads outputs word) (suc most_constraints) last (EndHere file (constraints_base r n reads outputs word))
            (constraints_zero file r n t.0 t.1 t.2 reads outputs word last) (constraint_moved file r n t.0 t.1 t.2 reads outputs word bytes last) at3 e in
            ended d.count d.spare d.place d.full d.total d.done d.stop d.loaded

      -- the rest word
      rest_read : (and_then (rest_at file at2 (outputs_base r n reads n outputs)) (after_rest file)).progress ≡ At last → Read file
      unfolding zero_set
      rest_read e =
          let s = came (rest_at file at2 (outputs_base r n reads n outputs)) (after_rest file) last e in
          let w = rest_taken file at2 (outputs_base r n reads n outputs) (no_rest r n reads n outputs) bytes s.0 s.1 in
          constraints_read s.0 w (ap (λ (l : Loading). (and_then l (after_rest file)).progress) (sym w.loaded) ∙ e)

    -- the outputs
    outputs_read : (and_then (outputs_from file n 0 at1 (reads_base r n r reads)) (after_outputs file)).progress ≡ At last → Read file
    unfolding zero_set
    outputs_read e =
        let s = came (outputs_from file n 0 at1 (reads_base r n r reads)) (after_outputs file) last e in
        let b = points_taken file (output_points file r n reads) bytes n limited.1 at1 s.0 s.1 in
        rest_read b.0 b.1 b.2 b.3 (ap (λ (l : Loading). (and_then l (after_outputs file)).progress) (sym b.3) ∙ e)

  -- the read points
  reads_read : (and_then (reads_from file r 0 5 (of_counts r n)) (after_reads file)).progress ≡ At last → Read file
  unfolding zero_set
  reads_read e =
      let s = came (reads_from file r 0 5 (of_counts r n)) (after_reads file) last e in
      let a = points_taken file (read_points file r n) bytes r limited.0 5 s.0 s.1 in
      outputs_read a.0 a.1 a.2 a.3 (ap (λ (l : Loading). (and_then l (after_reads file)).progress) (sym a.3) ∙ e)

read : (file : List ℕ) → Bytes file → (last : ℕ) → (load_from file).progress ≡ At last → Read file
unfolding load_from
read file bytes last e =
    let s = came (counts_at file) (after_counts file) last e in
    let c = counted file bytes s.0 s.1 in
    reads_read file bytes last c (ap (λ (l : Loading). (and_then l (after_counts file)).progress) (sym c.loaded) ∙ e)

-- A file that loads is the file of the set that it loads to, and the set is well formed.
pub write_loaded : (file : List ℕ) → Bytes file → (load_of file).answer ≡ Loaded → (write_of (load_of file).set ≡ file) × (well_formed (load_of file).set ≡ true)
unfolding load_of
write_loaded file bytes e = go (load_from file).progress refl e
  where
    go : (p : Progress) → (load_from file).progress ≡ p → answer_of p ≡ Loaded → (write_of (load_from file).set ≡ file) × (well_formed (load_from file).set ≡ true)
    go (At at) t u =
        let r = read file bytes at t in
        let same : (load_from file).set ≡ r.set = ap (λ (l : Loading). l.set) r.loaded in
        (ap write_of same ∙ r.written, ap well_formed same ∙ r.formed)
    go (Refused number at) t u = let z : ◌≡◌ {A = ℕ} 0 1 = cc in absurd (omega arith)
