-- The fields of constraints and the end: those written are taken, and those taken are the ones that are written.
-- Assumes nothing.
use mathlib.Core.Path.{◌≡◌, refl, sym, ◌∙◌, ap, ap₂}
use mathlib.Core.Logic.{◌⊎◌, inl, inr}
use mathlib.Core.Bool.{Bool, true, false, cond, ◌&&◌}
use mathlib.Core.List.{List, [], ◌∷◌, ◌++◌}
use Prim.Native.Nat.{ℕ, suc, ◌+◌, ◌-◌, ◌*◌, ◌%◌, ◌≤◌, ◌<◌}
use native.Mathlib.Omega.{arith}
use lib.Dec.{ltb, leb, eqb}
use lib.ListN.{length, drop, set, length-append, length-drop, drop_of_length-le}
use borrow.Author.Tests.{le-leb, lt-leb, leb-false, eqb-true, eqb-false, eq-eqb, le-ltb, ltb-false}
use Rattle.words.specs.Word.{bit}
use Rattle.words.specs.Loop.{every}
use Rattle.words.proofs.BitLaws.{bit_above}
use Rattle.scan.specs.declared.set.Constraint.{Constraint}
use Rattle.scan.specs.declared.set.ReadPoint.{ReadPoint}
use Rattle.scan.specs.declared.set.OutputPoint.{OutputPoint}
use Rattle.scan.specs.declared.set.Set.{Set}
use Rattle.scan.specs.Set.{most_reads, most_outputs, most_points, most_constraints, zero_constraint, with_counts, with_constraints, with_rest, no_constraint}
use Rattle.scan.specs.Shape.{constraint_tests}
use Rattle.scan.proofs.ShapeLaws.{Masks, constraint_masks}
use Rattle.header.specs.Header.{Header, Refused as Stopped, Field, header_of, body_of, fits_table}
use Rattle.literal.specs.Literal.{Literals, narrows, wides, good_literals, literals_from, literals_of}
use Rattle.header.specs.Fault.{Taken, Refused as Denied, Good}
use Rattle.loader.specs.Load.{At, refusal, going_on, and_then, field_done, with_constraint, constraint_given, constraint_at, end_at, constraints_given, constraints_from}
use Rattle.header.specs.Bytes.{Bytes}
use Rattle.header.specs.Tag.{is_constraint, is_wide, tag_by, literal_size, names_high}
use Rattle.writer.specs.Write.{field_of, literals_by, constraint_tag, literal_body}
use Rattle.setfile.proofs.LiteralPlaces.{mask}
use Rattle.setfile.proofs.BodyPlaces.{up_to, worth, said_if, said_of, all_said, by_kind, upto_long}
use Rattle.setfile.proofs.LiteralBytes.{bytes_long, body_said}
use Rattle.setfile.proofs.OneLiteral.{size}
use Rattle.setfile.proofs.ConstraintBits.{Fine, fine}
use Rattle.setfile.proofs.LiteralsBack.{literals_back}
use Rattle.setfile.proofs.LiteralsTaken.{literals_taken}
use Rattle.header.proofs.TagLaws.{tagged}
use Rattle.header.proofs.HeaderLaws.{table_bounds, constraint_due}
use Rattle.setfile.proofs.Fields.{body_back, field_back, found}
use Rattle.setfile.proofs.PointKinds.{outputs_base}
use Rattle.setfile.proofs.FieldRuns.{Run, Moved}

-- ---- how long a body is

-- at most one literal each
one_said : (o p q : Bool) (k x : ℕ) → length (said_if o p q k x) ≤ 1
one_said o true q k x = omega arith
one_said o false true k x = omega arith
one_said o false false k x = omega arith

-- a body that gives a constraint has bytes
no_literals : (wide : Bool) (r n : ℕ) → (literals_of wide r n []).taken ≡ Good → ⊥
unfolding literals_from narrows wides names_high
no_literals true r n e = let z : ◌≡◌ {A = ℕ} 0 1 = cc in omega arith
no_literals false r n e = let z : ◌≡◌ {A = ℕ} 0 1 = cc in omega arith

not_empty : (wide : Bool) (r n : ℕ) (c : Constraint) (body : List ℕ) → literals_of wide r n body ≡ good_literals c → 1 ≤ length body
not_empty wide r n c [] e = absurd (no_literals wide r n (ap (λ (x : Literals). x.taken) e))
not_empty wide r n c (x ∷ xs) e = omega arith

-- A well-formed constraint's body has a length of the table.
pub body_fits : (r n : ℕ) (c : Constraint) → r ≤ most_reads → n ≤ most_outputs → r + n ≤ most_points → Masks r n c → fits_table (constraint_tag c) (length (literal_body c)) ≡ true
body_fits r n c hr hn hs m = go (names_high c) (ap length (body_said (names_high c) c) ∙ bytes_long (names_high c) (all_said c)) (not_empty (names_high c) r n c (literal_body c) (literals_back r n c hr hn m))
  where
    f : Fine r n c
    f = fine r n c m

    few : (o : Bool) (N : ℕ) → (length (up_to N (said_of c o)) ≤ N) × (length (up_to N (said_of c o)) ≤ size r n o)
    few o N =
        upto_long (said_of c o) (size r n o) N (λ k. one_said o (bit k (mask o false c)) (bit k (mask o true c)) k (worth o c k))
        (λ k h. ap₂ (λ (p q : Bool). said_if o p q k (worth o c k)) (bit_above (size r n o) k (mask o false c) (f.small o false) h) (bit_above (size r n o) k (mask o true c) (f.small o true) h))

    -- no more literals than points
    most : length (all_said c) ≤ most_points
    most =
        let a = few false most_reads in
        let b = few true most_outputs in
        let l = length-append (up_to most_reads (said_of c false)) (up_to most_outputs (said_of c true)) in
        let k : length (all_said c) ≡ length (up_to most_reads (said_of c false) ++ up_to most_outputs (said_of c true)) = ap length (by_kind c) in
        omega (arith, k, l, a, b)

    go : (wide : Bool) → length (literals_by wide c) ≡ literal_size wide * length (all_said c) → 1 ≤ length (literals_by wide c) → fits_table (tag_by wide) (length (literals_by wide c)) ≡ true
    go true w some =
        let len = length (literals_by true c) in
        simp (le-leb 3 len (omega (arith, w, some)), le-leb len 72 (omega (arith, w, most)), eq-eqb (len % 3) 0 (omega (arith, w)))
    go false w some =
        let len = length (literals_by false c) in
        simp (le-leb 2 len (omega (arith, w, some)), le-leb len 48 (omega (arith, w, most)), eq-eqb (len % 2) 0 (omega (arith, w)))

-- ---- one field

-- the set with this rest word
abbrev pub rest_base : ℕ → ℕ → List ReadPoint → List OutputPoint → ℕ → Set
rest_base r n reads outputs word = with_rest (outputs_base r n reads 0 outputs) word

-- with these constraints, too
abbrev pub constraints_base : ℕ → ℕ → List ReadPoint → List OutputPoint → ℕ → ℕ → List Constraint → Set
constraints_base r n reads outputs word k l = with_counts (with_constraints (rest_base r n reads outputs word) l) r n k

-- fields of constraints; a constraint fits whichever there are before it
abbrev pub constraint_run : List ℕ → ℕ → ℕ → List ReadPoint → List OutputPoint → ℕ → Run Constraint
constraint_run file r n reads outputs word = record {
  tag = constraint_tag;
  body = literal_body;
  places = most_constraints;
  blank = zero_constraint;
  past = no_constraint;
  base = constraints_base r n reads outputs word;
  from = λ left k at s. constraints_from file left at s;
  Fits = λ l k c. every (constraint_tests r n c) ≡ true;
  local = λ a b k c s f. f;
}

-- the end of the file is here
abbrev pub EndHere : List ℕ → (ℕ → List Constraint → Set) → ℕ → ℕ → ℕ → List Constraint → Type 0
EndHere file base left k at l = (drop at file ≡ field_of 5 []) × (1 ≤ left) × (constraints_from file left at (base k l) ≡ going_on (length file) (base k l))

module _ (file : List ℕ) (r n : ℕ) (hr : r ≤ most_reads) (hn : n ≤ most_outputs) (hs : r + n ≤ most_points) (reads : List ReadPoint) (outputs : List OutputPoint) (word : ℕ) where
  abbrev base : ℕ → List Constraint → Set
  base = constraints_base r n reads outputs word

  -- A field whose body is that of a well-formed constraint is taken.
  pub constraint_step : (left k at : ℕ) (l : List Constraint) (c : Constraint) (rest : List ℕ) → k < most_constraints → every (constraint_tests r n c) ≡ true
      → drop at file ≡ field_of (constraint_tag c) (literal_body c) ++ rest
      → constraints_from file (suc left) at (base k l) ≡ constraints_from file left (at + 3 + length (literal_body c)) (base (k + 1) (set l k c))
  unfolding constraints_from constraint_at
  constraint_step left k at l c rest h f e =
      let tag = constraint_tag c in
      let body = literal_body c in
      let len = length body in
      let m = constraint_masks r n c f in
      let t = literals_back r n c hr hn m in
      let w = tagged (names_high c) in
      let few : (is_constraint tag && leb most_constraints k) ≡ false = ap₂ ◌&&◌ w.constraint (lt-leb most_constraints k h) in
      let hd : header_of (drop at file) 4 k ≡ Field tag len = ap (λ (s : List ℕ). header_of s 4 k) e ∙ field_back tag body rest 4 k w.due few (body_fits r n c hr hn hs m) in
      let bd : body_of (drop at file) len ≡ body = ap (λ (s : List ℕ). body_of s len) e ∙ body_back tag body rest in
      ap (constraints_given file at (base k l) (constraints_from file left)) hd
      ∙ ap (λ (b : Bool). cond b (end_at file at (base k l)) (and_then (constraint_at file at tag len (base k l)) (constraints_from file left))) w.not_end
      ∙ ap (λ (x : Literals). and_then (constraint_given at len (base k l) x) (constraints_from file left)) (ap₂ (λ (b : Bool). literals_of b r n) w.is_wide_law bd ∙ t)

  -- The end of the file is found.
  pub end_back : (left k at : ℕ) (l : List Constraint) → drop at file ≡ field_of 5 [] → constraints_from file (suc left) at (base k l) ≡ going_on (length file) (base k l)
  unfolding constraints_from
  end_back left k at l e =
      let w : length file - at ≡ 3 = sym (length-drop at file) ∙ ap length e in
      let n : at + 3 ≡ length file = omega arith in
      let hd : header_of (drop at file) 4 k ≡ Field 5 0 = ap (λ (s : List ℕ). header_of s 4 k) e ∙ field_back 5 [] [] 4 k refl refl refl in
      ap (constraints_given file at (base k l) (constraints_from file left)) hd
      ∙ rw (le-ltb (at + 3) (length file) (omega arith)) (ap (λ (x : ℕ). going_on x (base k l)) n)

  -- A load does not run out of fields.
  pub constraints_zero : (last k at : ℕ) (l : List Constraint) → k + 0 ≡ suc most_constraints → (constraints_from file 0 at (base k l)).progress ≡ At last → EndHere file base 0 k at l
  unfolding constraints_from
  constraints_zero last k at l t e = let z : ◌≡◌ {A = ℕ} 0 1 = cc in absurd (omega arith)

  -- A field that was taken is the end, or the one written for a well-formed constraint.
  pub constraint_moved : Bytes file → (last left k at : ℕ) (l : List Constraint) → k + suc left ≡ suc most_constraints → (constraints_from file (suc left) at (base k l)).progress ≡ At last
      → EndHere file base (suc left) k at l ⊎ Moved file (constraint_run file r n reads outputs word) left k at l
  unfolding constraints_from constraint_at
  constraint_moved bytes last left k at l total e = by_header (header_of (drop at file) 4 k) refl e
    where
      Move : Type 0
      Move = Moved file (constraint_run file r n reads outputs word) left k at l

      opens : (x : Header) → header_of (drop at file) 4 k ≡ x → constraints_from file (suc left) at (base k l) ≡ constraints_given file at (base k l) (constraints_from file left) x
      opens x t = ap (constraints_given file at (base k l) (constraints_from file left)) t

      by_end : (tag len : ℕ) → header_of (drop at file) 4 k ≡ Field tag len → eqb tag 5 ≡ true → (b : Bool) → ltb (at + 3) (length file) ≡ b
          → (cond b (refusal 12 (at + 3)) (going_on (at + 3) (base k l))).progress ≡ At last → EndHere file base (suc left) k at l
      by_end tag len hd s true w u = let z : ◌≡◌ {A = ℕ} 0 1 = cc in absurd (omega arith)
      by_end tag len hd s false w u =
          let f = found file at 4 k tag len bytes hd in
          let five : tag ≡ 5 = eqb-true tag 5 s in
          let short = table_bounds 5 len (ap (λ (x : ℕ). fits_table x len) (sym five) ∙ f.table) in
          let none : len ≡ 0 = omega (arith, short) in
          let past : length file ≤ at + 3 = ltb-false (at + 3) (length file) w in
          let here : drop at file ≡ field_of 5 [] =
          f.whole ∙ ap₂ (λ (x y : ℕ). field_of x (body_of (drop at file) y) ++ drop (at + 3 + len) file) five none
          ∙ ap (λ (y : List ℕ). field_of 5 [] ++ y) (drop_of_length-le file {i = at + 3 + len} (omega arith)) in
          (here, omega arith, end_back left k at l here)

      by_taken : (tag len : ℕ) → header_of (drop at file) 4 k ≡ Field tag len → eqb tag 5 ≡ false → (t : Taken) → (literals_of (is_wide tag) r n (body_of (drop at file) len)).taken ≡ t
          → (and_then (field_done at len t (with_constraint (base k l) (literals_of (is_wide tag) r n (body_of (drop at file) len)).made)) (constraints_from file left)).progress ≡ At last → Move
      by_taken tag len hd s (Denied number) t u = let z : ◌≡◌ {A = ℕ} 0 1 = cc in absurd (omega arith)
      by_taken tag len hd s Good t u =
          let f = found file at 4 k tag len bytes hd in
          let b = body_of (drop at file) len in
          let wide = is_wide tag in
          let c = (literals_of wide r n b).made in
          let same : tag ≡ tag_by wide = constraint_due tag (eqb-false tag 5 s) f.awaited in
          let g = literals_taken wide r n b hr hn f.bytes t in
          let few : leb most_constraints k ≡ false = ap (λ (x : Bool). x && leb most_constraints k) (sym (ap is_constraint same ∙ (tagged wide).constraint)) ∙ f.few in
          record {
            point = c;
            after = at + 3 + len;
            inside = leb-false most_constraints k few;
            fit = g.0;
            field = f.whole ∙ ap₂ (λ (x : ℕ) (y : List ℕ). field_of x y ++ drop (at + 3 + len) file) (same ∙ ap tag_by (sym g.1)) (sym g.2);
            on =
                opens (Field tag len) hd
                ∙ ap (λ (x : Bool). cond x (end_at file at (base k l)) (and_then (field_done at len (literals_of wide r n b).taken (with_constraint (base k l) c)) (constraints_from file left))) s
                ∙ ap (λ (x : Taken). and_then (field_done at len x (with_constraint (base k l) c)) (constraints_from file left)) t;
          }

      by_tag : (tag len : ℕ) → header_of (drop at file) 4 k ≡ Field tag len → (b : Bool) → eqb tag 5 ≡ b
          → (cond b (end_at file at (base k l)) (and_then (constraint_at file at tag len (base k l)) (constraints_from file left))).progress ≡ At last → EndHere file base (suc left) k at l ⊎ Move
      by_tag tag len hd true s u = inl (by_end tag len hd s (ltb (at + 3) (length file)) refl u)
      by_tag tag len hd false s u = inr (by_taken tag len hd s (literals_of (is_wide tag) r n (body_of (drop at file) len)).taken refl u)

      by_header : (x : Header) → header_of (drop at file) 4 k ≡ x → (constraints_given file at (base k l) (constraints_from file left) x).progress ≡ At last → EndHere file base (suc left) k at l ⊎ Move
      by_header (Stopped number) t u = let z : ◌≡◌ {A = ℕ} 0 1 = cc in absurd (omega arith)
      by_header (Field tag len) t u = by_tag tag len t (eqb tag 5) refl u
