-- The fields behind the outputs: the column's tests of constraints and of the end tell how far they are loaded.
-- Assumes nothing.
use mathlib.Core.Path.{◌≡◌, refl, sym, ap, subst, ◌∙◌}
use mathlib.Core.Bool.{Bool, true, false, cond, ◌&&◌, ◌||◌, or_assoc, or_comm}
use mathlib.Core.List.{List, [], ◌∷◌, ◌++◌}
use mathlib.Core.Logic.{inl}
use Prim.Native.Nat.{ℕ, zero, suc, ◌+◌, ◌%◌, ◌≤◌, ◌<◌}
use native.Mathlib.Omega.{arith}
use lib.Dec.{ltb, leb, eqb, lit≤}
use lib.ListN.{length, get_or, drop, length-drop}
use borrow.Author.Tests.{eqb-true, eqb-false, eq-eqb, ne_eqb, ltb-true, ltb-false}
use Rattle.words.proofs.BoolLaws.{by_test}
use Rattle.scan.specs.declared.set.Set.{Set}
use Rattle.scan.specs.Set.{most_reads, most_outputs, most_constraints}
use Rattle.header.specs.Header.{Field, header_of, body_length, body_of, fits_table}
use Rattle.header.specs.Test.{Test, test, FirstFails, NoneFails}
use Rattle.header.specs.Tag.{is_constraint, is_wide, literal_size}
use Rattle.header.proofs.HeaderLaws.{found, table_bounds, field_within, constraint_length}
use Rattle.literal.specs.Literal.{literals_of}
use Rattle.loader.specs.Load.{Progress, Loading, refusal, going_on, and_then, with_constraint, constraint_at, end_at, constraints_given, constraints_from}
use Rattle.promise.specs.Fields.{Fields, field_size, fields_from}
use Rattle.promise.specs.Column.{body_tests, end_tests, constraints_tests}
use Rattle.promise.proofs.HeadTests.{Agrees, Tells, by_header, done_tells}
use Rattle.promise.proofs.LiteralTests.{body_tells}

-- so many fields are enough for what is left from a place of the file on
abbrev pub Enough : List ℕ → ℕ → ℕ → Type 0
Enough file most at = (at ≤ length file) × (length file < most + at)

pub enough_on : (file : List ℕ) (most at due m tag len : ℕ) → header_of (drop at file) due m ≡ Field tag len → Enough file (suc most) at → Enough file most (at + 3 + len)
enough_on file most at due m tag len h n = let w = field_within file at due m tag len h in let l = n.1 in (w, omega arith)

-- ---- behind the last field

-- nothing is left
fields_end : (at : ℕ) (left : List ℕ) (most : ℕ) → length left < most → length left ≡ 0 → end_tests (fields_from most at left) ≡ []
unfolding fields_from end_tests
fields_end at left zero h e = absurd (omega arith)
fields_end at left (suc most) h e = rw (eq-eqb (length left) 0 e)

-- something is left
fields_follow : (at : ℕ) (left : List ℕ) (most : ℕ) → 0 < length left → end_tests (fields_from most at left) ≡ test 12 at true ∷ []
unfolding fields_from end_tests
fields_follow at left zero h = refl
fields_follow at left (suc most) h =
    let some : eqb (length left) 0 ≡ false = ne_eqb (length left) 0 (λ z. omega arith) in
    by_test (ltb (length left) (field_size left)) (λ t. rw (some, t)) (λ t. rw (some, t))

end_tells : (file : List ℕ) (most at : ℕ) (s : Set) → Enough file most (at + 3) → Tells (end_at file at s) (end_tests (fields_from most (at + 3) (drop (at + 3) file)))
end_tells file most at s n =
    let long = length-drop (at + 3) file in
    let a = n.0 in
    let b = n.1 in
    by_test (ltb (at + 3) (length file))
    (λ t. let h = ltb-true (at + 3) (length file) t in
    subst (λ (x : Bool). Tells (cond x (refusal 12 (at + 3)) (going_on (at + 3) s)) (end_tests fields)) (sym t)
    (subst (λ (x : List Test). FirstFails x 12 (at + 3)) (sym (fields_follow (at + 3) (drop (at + 3) file) most (omega arith))) (inl (refl, refl, refl))))
    (λ t. let h = ltb-false (at + 3) (length file) t in
    subst (λ (x : Bool). Tells (cond x (refusal 12 (at + 3)) (going_on (at + 3) s)) (end_tests fields)) (sym t)
    (subst NoneFails (sym (fields_end (at + 3) (drop (at + 3) file) most (omega arith) (omega arith))) tt))
  where
    fields : Fields
    fields = fields_from most (at + 3) (drop (at + 3) file)

-- ---- constraints, and then the end

pub constraints_tell : (file : List ℕ) (left most at : ℕ) (s : Set) → s.m + left ≡ suc most_constraints → s.m ≤ most_constraints → s.r ≤ most_reads → s.n ≤ most_outputs
    → Enough file most at
    → Tells (constraints_from file left at s) (constraints_tests s.r s.n s.m (fields_from most at (drop at file)))
unfolding constraints_from constraints_tests constraint_at
constraints_tell file zero most at s sum few few-reads few-outputs n = absurd (omega arith)
constraints_tell file (suc left) zero at s sum few few-reads few-outputs n = let a = n.0 in let b = n.1 in absurd (omega arith)
constraints_tell file (suc left) (suc most) at s sum few few-reads few-outputs n =
    by_header file most at 4 s.m column
    (record {
      due = λ tag. is_constraint tag || eqb tag 5;
      full = λ tag. is_constraint tag && leb most_constraints s.m;
      more = λ tag body rest. cond (eqb tag 5) (end_tests rest) (body_tests at s.r s.n tag body ++ constraints_tests s.r s.n (s.m + 1) rest);
      low = lit≤ tt;
      high = lit≤ tt;
      same_due = λ tag. ap (λ (b : Bool). eqb tag 4 || b) (or_comm (eqb tag 5) (eqb tag 7)) ∙ sym (or_assoc (eqb tag 4) (eqb tag 7) (eqb tag 5));
      same_full = λ tag. refl;
      at_end = refl;
      at_cut = refl;
      at_field = λ tag body rest. refl;
    })
    (λ c h x. subst (λ (l : Loading). Tells l whole) (sym (ap (constraints_given file at s next) h)) x)
    (λ h long f. subst (λ (l : Loading). Tells l whole) (sym (ap (constraints_given file at s next) h))
    (go (eqb tag 5) f
    (λ e. let t = eqb-true tag 5 e in
    let w = (table_bounds 5 len (subst (λ (k : ℕ). fits_table k len ≡ true) t (found (drop at file) 4 s.m tag len h).table)).1 in
    let same : at + 3 ≡ at + 3 + len = omega arith in
    let on = enough_on file most at 4 s.m tag len h n in
    subst (λ (k : ℕ). Tells (end_at file at s) (end_tests (fields_from most k (drop k file)))) same
    (end_tells file most at s (subst (Enough file most) (sym same) on)))
    (λ e. let c = constraint_length (drop at file) s.m tag len (eqb-false tag 5 e) h in
    let whole_literals : length body % literal_size (is_wide tag) ≡ 0 = ap (λ (k : ℕ). k % literal_size (is_wide tag)) long ∙ c.0 in
    let low = c.1 in
    let got = literals_of (is_wide tag) s.r s.n body in
    done_tells at len got.taken (with_constraint s got.made) next (Unit {0}) (body_tests at s.r s.n tag body) _
    (body_tells at s.r s.n tag body whole_literals few-reads few-outputs)
    (λ u. constraints_tell file left most (at + 3 + len) (with_constraint s got.made) (omega arith) (omega arith) few-reads few-outputs (enough_on file most at 4 s.m tag len h n)))))
  where
    column : Fields → List Test
    column = constraints_tests s.r s.n s.m

    whole : List Test
    whole = column (fields_from (suc most) at (drop at file))

    next : ℕ → Set → Loading
    next = constraints_from file left

    tag : ℕ
    tag = get_or (drop at file) 0 0

    len : ℕ
    len = body_length (drop at file)

    body : List ℕ
    body = body_of (drop at file) len

    rest : Fields
    rest = fields_from most (at + 3 + len) (drop (at + 3 + len) file)

    more : List Test
    more = body_tests at s.r s.n tag body ++ constraints_tests s.r s.n (s.m + 1) rest

    go : (b : Bool) → ((p : Progress) → Agrees p (cond b (end_tests rest) more) → Agrees p whole) → (b ≡ true → Tells (end_at file at s) (end_tests rest))
        → (b ≡ false → Tells (and_then (constraint_at file at tag len s) next) more) → Tells (cond b (end_at file at s) (and_then (constraint_at file at tag len s) next)) whole
    go true f x y = f (end_at file at s).progress (x refl)
    go false f x y = f (and_then (constraint_at file at tag len s) next).progress (y refl)
