-- Behind the outputs: the column's tests of the rest word, if its field stands there, and then those of the constraints tell how far they are loaded.
-- Assumes nothing.
use mathlib.Core.Path.{◌≡◌, refl, sym, ap, subst}
use mathlib.Core.Bool.{Bool, true, false, not, cond, ◌&&◌}
use mathlib.Core.List.{List, [], ◌∷◌, ◌++◌}
use mathlib.Core.Logic.{inl}
use Prim.Native.Nat.{ℕ, zero, suc, ◌+◌, ◌*◌, ◌^◌, ◌≤◌}
use native.Mathlib.Omega.{arith}
use lib.Dec.{ltb, eqb, lit≤}
use lib.ListN.{get_or, drop}
use Rattle.words.proofs.BoolLaws.{by_test}
use Rattle.scan.specs.declared.set.Set.{Set}
use Rattle.scan.specs.Set.{most_reads, most_outputs, most_constraints, with_rest}
use Rattle.header.specs.Fault.{Taken}
use Rattle.header.specs.Test.{Test, test}
use Rattle.loader.specs.Load.{going_on, and_then, good_if, field_at, rest_word, rest_good, rest_at, constraints_from, after_rest}
use Rattle.promise.specs.Fields.{Fields, fields_from}
use Rattle.promise.specs.Fields.Fields.{ends, cut, field}
use Rattle.promise.specs.Column.{missing, head_tests, rest_fits, rest_tests, constraints_tests}
use Rattle.promise.proofs.FieldsLaws.{columns_same}
use Rattle.promise.proofs.HeadTests.{Tells, BodyTells, field_tells}
use Rattle.promise.proofs.EndFields.{Enough, enough_on, constraints_tell}

-- the same number, however it is put together
fits_same : (n : ℕ) (body : List ℕ) → rest_fits n body ≡ (ltb 0 (rest_word body) && ltb (rest_word body) (2 ^ n))
unfolding rest_fits
fits_same n body =
    let same : 256 * get_or body 0 0 + get_or body 1 0 ≡ rest_word body = omega arith in
    ap (λ (word : ℕ). ltb 0 word && ltb word (2 ^ n)) same

-- what a body tells agrees with its test
body_tells : (at n : ℕ) (body : List ℕ) → BodyTells at (rest_good (rest_word body) n) (test 54 at (not (rest_fits n body)) ∷ []) (Unit {0})
body_tells at n body =
    subst (λ (b : Bool). BodyTells at (rest_good (rest_word body) n) (test 54 at (not b) ∷ []) (Unit {0})) (sym (fits_same n body))
    (go (ltb 0 (rest_word body) && ltb (rest_word body) (2 ^ n)))
  where
    go : (b : Bool) → BodyTells at (good_if b 54) (test 54 at (not b) ∷ []) (Unit {0})
    go true = ((refl, tt), tt)
    go false = inl (refl, refl, refl)

module _ (file : List ℕ) (at : ℕ) (s : Set) (none : s.m ≡ 0) (few-reads : s.r ≤ most_reads) (few-outputs : s.n ≤ most_outputs) where
  -- what its body tells and gives
  abbrev told : List ℕ → Taken
  told body = rest_good (rest_word body) s.n

  abbrev made : List ℕ → Set
  made body = with_rest s (rest_word body)

  -- the constraints, behind a rest word or none
  constraints_behind : (word most place : ℕ) → Enough file most place
      → Tells (constraints_from file (suc most_constraints) place (with_rest s word)) (constraints_tests s.r s.n 0 (fields_from most place (drop place file)))
  constraints_behind word most place n =
      subst (λ (m : ℕ). Tells (constraints_from file (suc most_constraints) place (with_rest s word)) (constraints_tests s.r s.n m (fields_from most place (drop place file)))) none
      (constraints_tell file (suc most_constraints) most place (with_rest s word) (omega arith) (omega arith) few-reads few-outputs n)

  -- the column where the field of the rest word stands
  abbrev given : Fields → List Test
  given (ends place) = missing place
  given (cut place) = missing place
  given (field place tag body rest) = head_tests place (eqb tag 6) false tag body ++ ((test 54 place (not (rest_fits s.n body)) ∷ []) ++ constraints_tests s.r s.n 0 rest)

  -- A rest word's field, or none, and the constraints behind it.
  pub rest_tells : (most : ℕ) → Enough file most at → Tells (and_then (rest_at file at s) (after_rest file)) (rest_tests s.r s.n (fields_from most at (drop at file)))
  unfolding rest_at rest_tests constraints_tests
  rest_tells zero n = let x = n.0 in let y = n.1 in absurd (omega arith)
  rest_tells (suc most) n =
      by_test (eqb (get_or (drop at file) 0 0) 6)
      (λ q.
      subst (λ (b : Bool). Tells (and_then (cond b (field_at file at 6 told made) (going_on at s)) (after_rest file)) whole) (sym q)
      (subst (Tells (and_then (field_at file at 6 told made) (after_rest file)))
      (sym (columns_same (rest_tests s.r s.n) given at (drop at file) most refl refl (λ body rest. rw q)))
      (field_tells file most at 6 (lit≤ tt) (lit≤ tt) refl given told made (after_rest file) (λ body. Unit {0}) (λ body. test 54 at (not (rest_fits s.n body)) ∷ [])
      (λ body rest. constraints_tests s.r s.n 0 rest) refl refl (λ tag body rest. refl) (λ tag len body h long. body_tells at s.n body)
      (λ tag len body h long u. constraints_behind (rest_word body) most (at + 3 + len) (enough_on file most at 6 0 tag len h n)))))
      (λ q.
      subst (λ (b : Bool). Tells (and_then (cond b (field_at file at 6 told made) (going_on at s)) (after_rest file)) whole) (sym q)
      (subst (Tells (after_rest file at s)) (sym (columns_same (rest_tests s.r s.n) (constraints_tests s.r s.n 0) at (drop at file) most refl refl (λ body rest. rw q)))
      (constraints_behind s.rest (suc most) at n)))
    where
      whole : List Test
      whole = rest_tests s.r s.n (fields_from (suc most) at (drop at file))
