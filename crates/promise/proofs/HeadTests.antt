-- One field: the tests of its header tell what `header_of` finds, and with the tests of its body what is loaded by it.
-- Assumes nothing.
use mathlib.Core.Path.{◌≡◌, refl, sym, ap, subst, ◌∙◌}
use mathlib.Core.Bool.{Bool, true, false, not, ◌&&◌, ◌||◌}
use mathlib.Core.List.{List, ◌∷◌, ◌++◌}
use mathlib.Core.Logic.{inl, inr, ⊎_elim}
use Prim.Native.Nat.{ℕ, zero, suc, ◌+◌, ◌%◌, ◌≤◌}
use native.Mathlib.Omega.{arith}
use lib.Dec.{leb, eqb}
use lib.ListN.{length, get_or, drop}
use borrow.Author.Tests.{eqb-true, eqb-false, leb-true, le-leb, eq-eqb}
use Rattle.words.proofs.BoolLaws.{by_test, and_true, and_unit, and_false, and_assoc, or_true}
use Rattle.scan.specs.declared.set.Set.{Set}
use Rattle.scan.specs.Set.{most_constraints}
use Rattle.header.specs.Header.{Refused as Stopped, Field, header_of, body_of, body_length, is_cut, is_due, fits_table}
use Rattle.header.specs.Fault.{Taken, Refused as Denied, Good}
use Rattle.header.specs.Test.{Test, FirstFails, NoneFails}
use Rattle.header.specs.Tag.{is_constraint}
use Rattle.header.proofs.TestLaws.{first_front, first_behind, none_joined}
use Rattle.header.proofs.HeaderLaws.{raw_cut, raw_field, past_end, not_due, too_many, not_in_table, a_field}
use Rattle.loader.specs.Load.{Progress, At, Refused, Loading, and_then, field_done, field_by, field_at}
use Rattle.promise.specs.Fields.{Fields, fields_from}
use Rattle.promise.specs.Fields.Fields.{ends, cut, field}
use Rattle.promise.specs.Column.{missing, within, length_fits, head_tests}
use Rattle.promise.proofs.FieldsLaws.{body_long, fields_cut, fields_at}

-- ---- a load and its column

-- no test fails where the load goes on; the first that fails is the refusal
abbrev pub Agrees : Progress → List Test → Type 0
Agrees (At at) column = NoneFails column
Agrees (Refused c o) column = FirstFails column c o

abbrev pub Tells : Loading → List Test → Type 0
Tells l column = Agrees l.progress column

agrees_behind : (p : Progress) (a b : List Test) → NoneFails a → Agrees p b → Agrees p (a ++ b)
agrees_behind (At at) a b n x = none_joined a b n x
agrees_behind (Refused c o) a b n x = first_behind a b c o n x

-- what a body tells agrees with its tests; where it is taken, P holds
abbrev pub BodyTells : ℕ → Taken → List Test → Type 0 → Type 0
BodyTells at (Denied c) column P = FirstFails column c at
BodyTells at Good column P = NoneFails column × P

-- behind a test that does not fail
pub body_behind : (at : ℕ) (t : Taken) (x : Test) (column : List Test) (P Q : Type 0) → x.fails ≡ false → (P → Q) → BodyTells at t column P → BodyTells at t (x ∷ column) Q
body_behind at (Denied c) x column P Q n f y = inr (n, y)
body_behind at Good x column P Q n f y = ((n, y.0), f y.1)

-- ---- the table of lengths

-- every length is a multiple of 1
mod_one : (len : ℕ) → eqb (len % 1) 0 ≡ true
mod_one len = eq-eqb (len % 1) 0 (omega arith)

-- one length
table_one : (want len : ℕ) → eqb len want ≡ leb want len && (leb len want && eqb (len % 1) 0)
table_one want len =
    by_test (eqb len want)
    (λ t. let e = eqb-true len want t in rw (t, le-leb want len (omega arith), le-leb len want (omega arith), mod_one len))
    (λ t. by_test (leb want len)
    (λ a. by_test (leb len want)
    (λ b. let l = leb-true want len a in let h = leb-true len want b in absurd (eqb-false len want t (omega arith)))
    (λ b. rw (t, a, b)))
    (λ a. rw (t, a)))

or_none : (b : Bool) → b || false ≡ b
or_none true = refl
or_none false = refl

-- one row of the table, where no later one fits
table_row : (a b c : Bool) → ((a && b) && c) || false ≡ a && (b && c)
table_row a b c = or_none ((a && b) && c) ∙ sym (and_assoc a b c)

-- some lengths, all that there are between two
table_all : (low high len : ℕ) → within low high len || false ≡ leb low len && (leb len high && eqb (len % 1) 0)
table_all low high len =
    ap (λ (b : Bool). b || false) (sym (and_unit (within low high len))) ∙ table_row (leb low len) (leb len high) true ∙ ap (λ (b : Bool). leb low len && (leb len high && b)) (sym (mod_one len))

-- both tables are one; there is no tag 0
table_same : (tag len : ℕ) → 1 ≤ tag → tag ≤ 7 → length_fits tag len ≡ fits_table tag len
unfolding length_fits
table_same zero len l h = absurd (omega arith)
table_same (suc zero) len l h = or_none (eqb len 2) ∙ table_one 2 len
table_same (suc (suc zero)) len l h = table_all 3 10 len
table_same (suc (suc (suc zero))) len l h = table_all 1 8 len
table_same (suc (suc (suc (suc zero)))) len l h = table_row (leb 2 len) (leb len 48) (eqb (len % 2) 0)
table_same (suc (suc (suc (suc (suc zero))))) len l h = or_none (eqb len 0) ∙ table_one 0 len
table_same (suc (suc (suc (suc (suc (suc zero)))))) len l h = or_none (eqb len 2) ∙ table_one 2 len
table_same (suc (suc (suc (suc (suc (suc (suc zero))))))) len l h = sym (and_assoc (leb 3 len) (leb len 72) (eqb (len % 3) 0))
table_same (suc (suc (suc (suc (suc (suc (suc (suc tag)))))))) len l h = absurd (omega arith)

due_between : (wanted tag : ℕ) → 1 ≤ wanted → wanted ≤ 6 → is_due wanted tag ≡ true → (1 ≤ tag) × (tag ≤ 7)
due_between wanted tag l h e =
    by_test (eqb tag wanted)
    (λ t. let s = eqb-true tag wanted t in (omega arith, omega arith))
    (λ t. let others = (and_true (eqb wanted 4) (eqb tag 5 || eqb tag 7) (or_true (eqb tag wanted) _ e t)).1 in
    by_test (eqb tag 5)
    (λ u. let s = eqb-true tag 5 u in (omega arith, omega arith))
    (λ u. let s = eqb-true tag 7 (or_true (eqb tag 5) (eqb tag 7) others u) in (omega arith, omega arith)))

-- ---- the header

-- A column of tests over the fields at a place: where no field is, one is missing; else the tests of its header, and more.
pub record HeadColumn (at wanted m : ℕ) (column : Fields → List Test) : Type 1 where
  pub due : ℕ → Bool
  pub full : ℕ → Bool
  pub more : ℕ → List ℕ → Fields → List Test
  pub low : 1 ≤ wanted
  pub high : wanted ≤ 6
  pub same_due : (tag : ℕ) → is_due wanted tag ≡ due tag
  pub same_full : (tag : ℕ) → (is_constraint tag && leb most_constraints m) ≡ full tag
  pub at_end : column (ends at) ≡ missing at
  pub at_cut : column (cut at) ≡ missing at
  pub at_field : (tag : ℕ) (body : List ℕ) (rest : Fields) → column (field at tag body rest) ≡ head_tests at (due tag) (full tag) tag body ++ more tag body rest

module _ (file : List ℕ) (most at wanted m : ℕ) (column : Fields → List Test) (C : HeadColumn at wanted m column) where
  abbrev left : List ℕ
  left = drop at file

  abbrev tag : ℕ
  tag = get_or left 0 0

  abbrev len : ℕ
  len = body_length left

  abbrev body : List ℕ
  body = body_of left len

  abbrev rest : Fields
  rest = fields_from most (at + 3 + len) (drop (at + 3 + len) file)

  abbrev all : List Test
  all = column (fields_from (suc most) at left)

  -- a field is missing
  none_first : is_cut left ≡ true → FirstFails all 1 at
  none_first e =
      ⊎_elim (λ f. subst (λ (t : List Test). FirstFails t 1 at) (sym (ap column f ∙ C.at_end)) (inl (refl, refl, refl)))
      (λ f. subst (λ (t : List Test). FirstFails t 1 at) (sym (ap column f ∙ C.at_cut)) (inl (refl, refl, refl)))
      (fields_cut at left (suc most) e)

  -- by the way that a header's tests go
  pub by_header : {R : Type 0} → ((c : ℕ) → header_of left wanted m ≡ Stopped c → FirstFails all c at → R)
      → (header_of left wanted m ≡ Field tag len → length body ≡ len → ((p : Progress) → Agrees p (C.more tag body rest) → Agrees p all) → R) → R
  unfolding head_tests
  by_header stop go =
      by_test (is_cut left)
      (λ f1. stop 1 (past_end left wanted m (raw_cut left f1)) (none_first f1))
      (λ n1.
      let e = raw_field left n1 in
      let w = ap column (fields_at file most at n1) ∙ C.at_field tag body rest in
      let told : (c : ℕ) → FirstFails (head_tests at (C.due tag) (C.full tag) tag body ++ C.more tag body rest) c at → FirstFails all c at =
      λ c x. subst (λ (t : List Test). FirstFails t c at) (sym w) x in
      let long : length body ≡ len = body_long left n1 in
      by_test (C.due tag)
      (λ d. let d' = C.same_due tag ∙ d in
      let b = due_between wanted tag C.low C.high d' in
      let same : length_fits tag (length body) ≡ fits_table tag len = ap (length_fits tag) long ∙ table_same tag len b.0 b.1 in
      by_test (C.full tag)
      (λ f3. stop 3 (too_many left wanted m tag len e d' (C.same_full tag ∙ f3)) (told 3 (inr (refl, inr (ap not d, inl (f3, refl, refl))))))
      (λ n3. by_test (fits_table tag len)
      (λ n4. go (a_field left wanted m tag len e d' (C.same_full tag ∙ n3) n4) long
      (λ p x. subst (Agrees p) (sym w) (agrees_behind p (head_tests at (C.due tag) (C.full tag) tag body) (C.more tag body rest) (refl, (ap not d, (n3, (ap not (same ∙ n4), tt)))) x)))
      (λ f4. stop 4 (not_in_table left wanted m tag len e d' (C.same_full tag ∙ n3) f4)
      (told 4 (inr (refl, inr (ap not d, inr (n3, inl (ap not (same ∙ f4), refl, refl)))))))))
      (λ d. stop 2 (not_due left wanted m tag len e (C.same_due tag ∙ d)) (told 2 (inr (refl, inl (ap not d, refl, refl))))))

-- ---- the field

-- what a body tells, and then what follows it
pub done_tells : (at len : ℕ) (t : Taken) (s : Set) (next : ℕ → Set → Loading) (P : Type 0) (tests others : List Test) → BodyTells at t tests P
    → (P → Tells (next (at + 3 + len) s) others) → Tells (and_then (field_done at len t s) next) (tests ++ others)
done_tells at len (Denied c) s next P tests others x y = first_front tests others c at x
done_tells at len Good s next P tests others x y = agrees_behind (next (at + 3 + len) s).progress tests others x.0 (y x.1)

-- A field of one tag that is due tells what its header's tests tell, then what its body tells, and then what follows it.
pub field_tells : (file : List ℕ) (most at wanted : ℕ) → 1 ≤ wanted → wanted ≤ 6 → eqb wanted 4 ≡ false → (column : Fields → List Test)
    (told : List ℕ → Taken) (made : List ℕ → Set) (next : ℕ → Set → Loading) (P : List ℕ → Type 0) (tests : List ℕ → List Test) (later : List ℕ → Fields → List Test)
    → column (ends at) ≡ missing at → column (cut at) ≡ missing at
    → ((tag : ℕ) (body : List ℕ) (rest : Fields) → column (field at tag body rest) ≡ head_tests at (eqb tag wanted) false tag body ++ (tests body ++ later body rest))
    → ((tag len : ℕ) (body : List ℕ) → header_of (drop at file) wanted 0 ≡ Field tag len → length body ≡ len → BodyTells at (told body) (tests body) (P body))
    → ((tag len : ℕ) (body : List ℕ) → header_of (drop at file) wanted 0 ≡ Field tag len → length body ≡ len → P body
    → Tells (next (at + 3 + len) (made body)) (later body (fields_from most (at + 3 + len) (drop (at + 3 + len) file))))
    → Tells (and_then (field_at file at wanted told made) next) (column (fields_from (suc most) at (drop at file)))
field_tells file most at wanted low high single column told made next P tests later none torn split one on =
    by_header file most at wanted 0 column
    (record {
      due = λ tag. eqb tag wanted;
      full = λ tag. false;
      more = λ tag body rest. tests body ++ later body rest;
      low = low;
      high = high;
      same_due = λ tag. ap (λ (b : Bool). eqb tag wanted || (b && (eqb tag 5 || eqb tag 7))) single ∙ or_none (eqb tag wanted);
      same_full = λ tag. and_false (is_constraint tag) false refl;
      at_end = none;
      at_cut = torn;
      at_field = split;
    })
    (λ c h x. subst (λ (l : Loading). Tells (and_then l next) whole) (sym (ap (field_by file at told made) h)) x)
    (λ h long f. subst (λ (l : Loading). Tells (and_then l next) whole) (sym (ap (field_by file at told made) h))
    (f (and_then (field_done at n (told b) (made b)) next).progress (done_tells at n (told b) (made b) next (P b) (tests b) _ (one t n b h long) (on t n b h long))))
  where
    whole : List Test
    whole = column (fields_from (suc most) at (drop at file))

    t : ℕ
    t = get_or (drop at file) 0 0

    n : ℕ
    n = body_length (drop at file)

    b : List ℕ
    b = body_of (drop at file) n
