-- The fields of read points and the fields of outputs, as runs of points.
-- Assumes nothing.
use mathlib.Core.Path.{◌≡◌, refl, ap}
use mathlib.Core.Bool.{true}
use mathlib.Core.List.{List}
use Prim.Native.Nat.{ℕ, suc, ◌+◌}
use native.Mathlib.Nat.{mod-one}
use native.Mathlib.Omega.{arith}
use lib.ListN.{length, drop, length-append}
use borrow.Author.Tests.{le-leb}
use Rattle.scan.specs.declared.set.Kind.{Kind}
use Rattle.scan.specs.declared.set.Kind.TheVariants.{Sensor, PastOutput, PastSensor}
use Rattle.scan.specs.declared.set.ReadPoint.{ReadPoint}
use Rattle.scan.specs.declared.set.OutputPoint.{OutputPoint}
use Rattle.scan.specs.declared.set.Set.{Set}
use Rattle.scan.specs.Set.{most_reads, most_outputs, name_places, zero_read, zero_output, zero_set, with_reads, with_outputs, no_read, no_output}
use Rattle.scan.specs.Names.{name_bytes}
use Rattle.header.specs.Fault.{Taken, Good}
use Rattle.loader.specs.Load.{ReadField, NameField, going_on, and_then, of_counts, read_of, read_at, reads_from, output_of, output_at, outputs_from}
use Rattle.header.specs.Header.{header_of, fits_table}
use Rattle.writer.specs.Write.{kind_bytes, read_body, output_body, read_tag, output_tag}
use Rattle.header.proofs.HeaderLaws.{table_bounds}
use Rattle.setfile.proofs.NamesBack.{name_bounds}
use Rattle.setfile.proofs.PointsFit.{ReadFits, OutputFits, read_local, output_local}
use Rattle.setfile.proofs.PointFields.{read_back, read_taken, output_back, output_taken}
use Rattle.setfile.proofs.FieldRuns.{Run}
use Rattle.setfile.proofs.PointRuns.{point_by, PointRun}

-- ---- read points

-- the set of r and n with these read points
abbrev pub reads_base : ℕ → ℕ → ℕ → List ReadPoint → Set
reads_base r n i l = with_reads (of_counts r n) l

abbrev pub read_run : List ℕ → ℕ → ℕ → Run ReadPoint
read_run file r n = record {
  tag = read_tag;
  body = read_body;
  places = most_reads;
  blank = zero_read;
  past = no_read;
  base = reads_base r n;
  from = reads_from file;
  Fits = ReadFits n;
  local = read_local n;
}

abbrev pub read_said : List ℕ → Set → ℕ → Taken
read_said b s i = (read_of s i b).taken

abbrev pub read_value : List ℕ → Set → ℕ → ReadPoint
read_value b s i = (read_of s i b).read

module _ (file : List ℕ) (r n : ℕ) where
  pub reads_give : (l : List ReadPoint) (i : ℕ) (p : ReadPoint) → ReadFits n l i p
      → (fits_table 2 (length (read_body p)) ≡ true) × (read_said (read_body p) (reads_base r n i l) i ≡ Good) × (read_value (read_body p) (reads_base r n i l) i ≡ p)
  reads_give l i p f =
      let b = name_bounds p.name f.name_ok_law in
      let k : length (kind_bytes p.kind) ≡ 2 = two p.kind in
      let w = length-append (kind_bytes p.kind) (name_bytes p.name) in
      let len = length (read_body p) in
      let t = read_back (reads_base r n i l) i p f in (
        simp (le-leb 3 len (omega (arith, w, k, b)), le-leb len (2 + name_places) (omega (arith, w, k, b)), mod-one len),
        ap (λ (x : ReadField). x.taken) t,
        ap (λ (x : ReadField). x.read) t,
      )
    where
      two : (x : Kind) → length (kind_bytes x) ≡ 2
      two Sensor = refl
      two (PastOutput k) = refl
      two (PastSensor k) = refl

  pub reads_end : (i at : ℕ) (s : Set) → reads_from file 0 i at s ≡ going_on at s
  unfolding reads_from
  reads_end i at s = refl

  pub reads_open : (left i at : ℕ) (l : List ReadPoint)
      → reads_from file (suc left) i at (reads_base r n i l) ≡ and_then (point_by file (read_run file r n) read_said read_value at i l (header_of (drop at file) 2 0)) (reads_from file left (i + 1))
  unfolding reads_from read_at
  reads_open left i at l = refl

  -- Fields of read points, for a set of r and n.
  abbrev pub read_points : PointRun ReadPoint file
  read_points = record {
    run = read_run file r n;
    said = read_said;
    value = read_value;
    due = 2;
    one_tag = λ p. refl;
    plain = refl;
    ends = reads_end;
    opens = reads_open;
    gives = reads_give;
    takes = λ b l i t g. let w = table_bounds 2 (length b) t in read_taken b (reads_base r n i l) i w.0 w.1 g;
  }

-- ---- outputs

-- the set with these outputs
abbrev pub outputs_base : ℕ → ℕ → List ReadPoint → ℕ → List OutputPoint → Set
outputs_base r n reads j l = with_outputs (reads_base r n 0 reads) l

-- its rest word is 0 so far
pub no_rest : (r n : ℕ) (reads : List ReadPoint) (j : ℕ) (l : List OutputPoint) → (outputs_base r n reads j l).rest ≡ 0
unfolding zero_set
no_rest r n reads j l = refl

abbrev pub output_run : List ℕ → ℕ → ℕ → List ReadPoint → Run OutputPoint
output_run file r n reads = record {
  tag = output_tag;
  body = output_body;
  places = most_outputs;
  blank = zero_output;
  past = no_output;
  base = outputs_base r n reads;
  from = outputs_from file;
  Fits = OutputFits reads r;
  local = output_local reads r;
}

abbrev pub output_said : List ℕ → Set → ℕ → Taken
output_said b s j = (output_of s j b).taken

abbrev pub output_value : List ℕ → Set → ℕ → OutputPoint
output_value b s j = record { name = (output_of s j b).name }

module _ (file : List ℕ) (r n : ℕ) (reads : List ReadPoint) where
  pub outputs_give : (l : List OutputPoint) (j : ℕ) (p : OutputPoint) → OutputFits reads r l j p
      → (fits_table 3 (length (output_body p)) ≡ true) × (output_said (output_body p) (outputs_base r n reads j l) j ≡ Good) × (output_value (output_body p) (outputs_base r n reads j l) j ≡ p)
  outputs_give l j p f =
      let b = name_bounds p.name f.name_ok_law in
      let len = length (output_body p) in
      let t = output_back (outputs_base r n reads j l) j p f in
      (simp (le-leb 1 len b.0, le-leb len name_places b.1, mod-one len), ap (λ (x : NameField). x.taken) t, ap (λ (x : NameField). record { name = x.name }) t)

  pub outputs_end : (j at : ℕ) (s : Set) → outputs_from file 0 j at s ≡ going_on at s
  unfolding outputs_from
  outputs_end j at s = refl

  pub outputs_open : (left j at : ℕ) (l : List OutputPoint)
      → outputs_from file (suc left) j at (outputs_base r n reads j l) ≡ and_then (point_by file (output_run file r n reads) output_said output_value at j l (header_of (drop at file) 3 0)) (outputs_from file left (j + 1))
  unfolding outputs_from output_at
  outputs_open left j at l = refl

  -- Fields of outputs, for a set of r, n and these read points.
  abbrev pub output_points : PointRun OutputPoint file
  output_points = record {
    run = output_run file r n reads;
    said = output_said;
    value = output_value;
    due = 3;
    one_tag = λ p. refl;
    plain = refl;
    ends = outputs_end;
    opens = outputs_open;
    gives = outputs_give;
    takes = λ b l j t g. let w = table_bounds 3 (length b) t in output_taken b (outputs_base r n reads j l) j w.0 w.1 g;
  }
