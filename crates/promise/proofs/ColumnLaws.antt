-- What a load answers is told by the column of tests over the file's fields: the first that fails, or none.
-- Assumes nothing.
use mathlib.Core.Path.{◌≡◌, refl, sym, ap₂, subst, ◌∙◌}
use mathlib.Core.Bool.{Bool, true, false, not, ◌&&◌}
use mathlib.Core.List.{List, [], ◌∷◌, ◌++◌, append-nil, append_assoc}
use mathlib.Core.Logic.{inl, ◌↔◌}
use Prim.Native.Nat.{ℕ, zero, suc, ◌+◌, ◌≤◌}
use native.Mathlib.Omega.{arith}
use lib.Dec.{leb, lit≤}
use lib.ListN.{length, get_or, drop, length-set}
use Rattle.words.specs.Loop.{every}
use Rattle.scan.specs.declared.set.OutputPoint.{OutputPoint}
use Rattle.scan.specs.declared.set.Set.{Set}
use Rattle.scan.specs.Set.{most_reads, most_outputs, zero_set}
use Rattle.scan.specs.Shape.{count_tests}
use Rattle.scan.proofs.ShapeLaws.{counts_told_law}
use Rattle.header.specs.Test.{test, FirstFails, NoneFails}
use Rattle.header.proofs.HeaderLaws.{read_length, output_length}
use Rattle.header.proofs.TestLaws.{first_once, none_first}
use Rattle.loader.specs.Load.{Progress, At, Refused, Loading, then_from, and_then, good_if, counts_told, counts_made, counts_at, read_of, with_read, read_at, reads_from, output_of, with_output, output_at, outputs_from, after_counts, after_reads, after_outputs, answer_of, load_from, load_of}
use Rattle.loader.specs.Told.{load_told}
use Rattle.promise.specs.Fields.{fields_from, in_fields}
use Rattle.promise.specs.Column.{counts_fit, name_tests, read_tests, outputs_tests, reads_tests, counts_tests, load_tests}
use Rattle.promise.proofs.HeadTests.{Agrees, Tells, BodyTells, field_tells}
use Rattle.promise.proofs.NamesSoFar.{Named, NamesAre, names_none, name_of_read, name_of_output}
use Rattle.promise.proofs.PointTests.{ReadsSoFar, ReadMade, reads_none, reads_more, read_tells, output_tells, outputs_more}
use Rattle.promise.proofs.EndFields.{Enough, enough_on}
use Rattle.promise.proofs.RestTests.{rest_tells}

-- ---- the points

-- two parts of a load and then a third
then_then : (l : Loading) (f g : ℕ → Set → Loading) → and_then (and_then l f) g ≡ and_then l (λ at s. and_then (f at s) g)
then_then l f g = go l.progress
  where
    go : (p : Progress) → and_then (then_from p l.set f) g ≡ then_from p l.set (λ at s. and_then (f at s) g)
    go (At at) = refl
    go (Refused c o) = refl

-- what holds of the set while its points are loaded
abbrev Fresh : Set → Type 0
Fresh s = (s.m ≡ 0) × (length s.outputs ≡ most_outputs) × (s.r ≤ most_reads) × (s.n ≤ most_outputs)

outputs_tell : (file : List ℕ) (left j most at : ℕ) (s : Set) (a b : List (List ℕ)) → NamesAre (name_of_read s.reads) s.r a → NamesAre (name_of_output s.outputs) j b
    → j + left ≡ s.n → Fresh s → Enough file most at
    → Tells (and_then (outputs_from file left j at s) (after_outputs file)) (outputs_tests left s.r s.n (a ++ b) (fields_from most at (drop at file)))
unfolding outputs_from outputs_tests output_at
outputs_tell file zero j most at s a b ra rb sum fresh n = rest_tells file at s fresh.0 fresh.2 fresh.3 most n
outputs_tell file (suc left) j zero at s a b ra rb sum fresh n = let x = n.0 in let y = n.1 in absurd (omega arith)
outputs_tell file (suc left) j (suc most) at s a b ra rb sum fresh n =
    subst (λ (l : Loading). Tells l (outputs_tests (suc left) s.r s.n (a ++ b) (fields_from (suc most) at (drop at file))))
    (sym (then_then (output_at file at s j) (outputs_from file left (j + 1)) (after_outputs file)))
    (field_tells file most at 3 (lit≤ tt) (lit≤ tt) refl (outputs_tests (suc left) s.r s.n (a ++ b)) (λ body. (output_of s j body).taken) (made)
    (λ k t. and_then (outputs_from file left (j + 1) k t) (after_outputs file)) (λ body. Named (output_of s j body).name body) (name_tests at (a ++ b))
    (λ body rest. outputs_tests left s.r s.n ((a ++ b) ++ (body ∷ [])) rest) refl refl (λ tag body rest. refl)
    (λ tag len body h long. let w = output_length (drop at file) tag len h in let low = w.0 in let high = w.1 in
    output_tells at s j a b body ra rb (omega arith) (omega arith))
    (λ tag len body h long named.
    let wide = fresh.1 in let few = fresh.3 in
    subst (λ (names : List (List ℕ)). Tells (and_then (outputs_from file left (j + 1) (at + 3 + len) (made body)) (after_outputs file))
    (outputs_tests left s.r s.n names (fields_from most (at + 3 + len) (drop (at + 3 + len) file)))) (sym (append_assoc a b (body ∷ [])))
    (outputs_tell file left (j + 1) most (at + 3 + len) (made body) a (b ++ (body ∷ [])) ra (outputs_more s.outputs j b (point body) body (omega arith) named rb) (omega arith)
    (fresh.0, length-set s.outputs j (point body) ∙ fresh.1, fresh.2, fresh.3) (enough_on file most at 3 0 tag len h n))))
  where
    point : List ℕ → OutputPoint
    point body = record { name = (output_of s j body).name }

    made : List ℕ → Set
    made body = with_output s j (output_of s j body).name

reads_tell : (file : List ℕ) (left i most at : ℕ) (s : Set) (kinds : List ℕ) (names : List (List ℕ)) → ReadsSoFar s.reads i kinds names → i + left ≡ s.r → Fresh s → Enough file most at
    → Tells (and_then (reads_from file left i at s) (after_reads file)) (reads_tests left s.r s.n kinds names (fields_from most at (drop at file)))
unfolding reads_from reads_tests read_at
reads_tell file zero i most at s kinds names so sum fresh n =
    let all : i ≡ s.r = omega arith in
    subst (λ (l : List (List ℕ)). Tells (after_reads file at s) (outputs_tests s.n s.r s.n l (fields_from most at (drop at file)))) (append-nil names)
    (outputs_tell file s.n 0 most at s names [] (subst (λ (k : ℕ). NamesAre (name_of_read s.reads) k names) all so.named) (names_none (name_of_output s.outputs)) (omega arith) fresh n)
reads_tell file (suc left) i zero at s kinds names so sum fresh n = let x = n.0 in let y = n.1 in absurd (omega arith)
reads_tell file (suc left) i (suc most) at s kinds names so sum fresh n =
    subst (λ (l : Loading). Tells l (reads_tests (suc left) s.r s.n kinds names (fields_from (suc most) at (drop at file))))
    (sym (then_then (read_at file at s i) (reads_from file left (i + 1)) (after_reads file)))
    (field_tells file most at 2 (lit≤ tt) (lit≤ tt) refl (reads_tests (suc left) s.r s.n kinds names) (λ body. (read_of s i body).taken) (λ body. with_read s i (read_of s i body).read)
    (λ k t. and_then (reads_from file left (i + 1) k t) (after_reads file)) (λ body. ReadMade (read_of s i body).read body) (read_tests at s.n kinds names)
    (λ body rest. reads_tests left s.r s.n (kinds ++ (get_or body 0 0 ∷ [])) (names ++ (drop 2 body ∷ [])) rest) refl refl (λ tag body rest. refl)
    (λ tag len body h long. let w = read_length (drop at file) tag len h in let low = w.0 in let high = w.1 in
    read_tells at s i kinds names body so (omega arith) (omega arith))
    (λ tag len body h long made.
    let few = fresh.2 in
    reads_tell file left (i + 1) most (at + 3 + len) (with_read s i (read_of s i body).read) (kinds ++ (get_or body 0 0 ∷ [])) (names ++ (drop 2 body ∷ []))
    (reads_more s.reads i kinds names (read_of s i body).read body (omega arith) made so) (omega arith) fresh (enough_on file most at 2 0 tag len h n)))

-- ---- the whole file

counts_same : (a b c d : Bool) → a && ((b && c) && d) ≡ a && (b && (c && (d && true)))
counts_same false b c d = refl
counts_same true false c d = refl
counts_same true true false d = refl
counts_same true true true false = refl
counts_same true true true true = refl

fit_same : (r n : ℕ) → counts_fit r n ≡ every (count_tests r n 0)
unfolding counts_fit count_tests
fit_same r n = counts_same (leb r 20) (leb 1 n) (leb n 12) (leb (r + n) 24)

load_tells : (file : List ℕ) → Tells (load_from file) (load_tests file)
unfolding load_from load_tests in_fields counts_tests counts_at zero_set
load_tells file =
    field_tells file (length file) 0 1 (lit≤ tt) (lit≤ tt) refl counts_tests counts_told counts_made (after_counts file) (λ body. every (count_tests (get_or body 0 0) (get_or body 1 0) 0) ≡ true)
    (λ body. test 5 0 (not (counts_fit (get_or body 0 0) (get_or body 1 0))) ∷ []) (λ body rest. reads_tests (get_or body 0 0) (get_or body 0 0) (get_or body 1 0) [] [] rest) refl refl
    (λ tag body rest. refl)
    (λ tag len body h long. subst (λ (b : Bool). BodyTells 0 (counts_told body) (test 5 0 (not b) ∷ []) (every (count_tests (get_or body 0 0) (get_or body 1 0) 0) ≡ true))
    (sym (fit_same (get_or body 0 0) (get_or body 1 0))) (go (every (count_tests (get_or body 0 0) (get_or body 1 0) 0))))
    (λ tag len body h long fits.
    let few = counts_told_law (get_or body 0 0) (get_or body 1 0) 0 fits in
    reads_tell file (get_or body 0 0) 0 (length file) (0 + 3 + len) (counts_made body) [] [] (reads_none zero_set.reads refl) (omega arith) (refl, refl, few.0, few.1)
    (enough_on file (length file) 0 1 0 tag len h (omega arith, omega arith)))
  where
    go : (b : Bool) → BodyTells 0 (good_if b 5) (test 5 0 (not b) ∷ []) (b ≡ true)
    go true = ((refl, tt), refl)
    go false = inl (refl, refl, refl)

-- ---- the answer

-- A file is refused with a number and an offset exactly when the first of its tests that fails has them.
pub load_refused : (file : List ℕ) (c o : ℕ) → (load_told (load_of file).answer ≡ c ∷ o ∷ []) ↔ FirstFails (load_tests file) c o
unfolding load_of
load_refused file c o = (there (load_from file).progress (load_tells file), back (load_from file).progress (load_tells file))
  where
    there : (p : Progress) → Agrees p (load_tests file) → load_told (answer_of p) ≡ c ∷ o ∷ [] → FirstFails (load_tests file) c o
    there (At at) n e = let z : ◌≡◌ {A = ℕ} 0 1 = cc in absurd (omega arith)
    there (Refused d p) x e =
        let same : d ≡ c = cc in let also : p ≡ o = cc in subst (λ (k : ℕ). FirstFails (load_tests file) c k) also (subst (λ (k : ℕ). FirstFails (load_tests file) k p) same x)

    back : (p : Progress) → Agrees p (load_tests file) → FirstFails (load_tests file) c o → load_told (answer_of p) ≡ c ∷ o ∷ []
    back (At at) n x = absurd (none_first (load_tests file) c o n x)
    back (Refused d p) y x = let s = first_once (load_tests file) d p c o y x in ap₂ (λ (k j : ℕ). k ∷ j ∷ []) s.0 s.1

-- It is loaded exactly when none of its tests fails.
pub load_taken : (file : List ℕ) → (load_told (load_of file).answer ≡ 0 ∷ []) ↔ NoneFails (load_tests file)
unfolding load_of
load_taken file = (there (load_from file).progress (load_tells file), back (load_from file).progress (load_tells file))
  where
    there : (p : Progress) → Agrees p (load_tests file) → load_told (answer_of p) ≡ 0 ∷ [] → NoneFails (load_tests file)
    there (At at) n e = n
    there (Refused d p) x e = let z : ◌≡◌ {A = ℕ} 0 1 = cc in absurd (omega arith)

    back : (p : Progress) → Agrees p (load_tests file) → NoneFails (load_tests file) → load_told (answer_of p) ≡ 0 ∷ []
    back (At at) n m = refl
    back (Refused d p) x m = absurd (none_first (load_tests file) d p m x)
