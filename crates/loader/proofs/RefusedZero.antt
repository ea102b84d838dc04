-- A refused load carries the zero set, and a loaded set has an output, so that it is not the zero set.
-- Assumes nothing.
use mathlib.Core.Path.{◌≡◌, refl, sym, ap, subst}
use mathlib.Core.Logic.{◌≢◌}
use mathlib.Core.Bool.{Bool, true, false, cond}
use mathlib.Core.List.{List}
use Prim.Native.Nat.{ℕ, zero, suc, ◌+◌, ◌≤◌}
use native.Mathlib.Omega.{arith}
use lib.Dec.{eqb, ltb}
use lib.ListN.{length, get_or, drop}
use borrow.Author.Tests.{leb-true}
use Rattle.words.specs.Loop.{every}
use Rattle.words.proofs.BoolLaws.{every_at}
use Rattle.scan.specs.declared.set.Constraint.{Constraint}
use Rattle.scan.specs.declared.set.Set.{Set}
use Rattle.scan.specs.Set.{most_constraints, zero_set, with_rest}
use Rattle.scan.specs.Shape.{count_tests}
use Rattle.header.specs.Header.{Header, Refused as Stopped, Field, header_of, body_of}
use Rattle.header.specs.Fault.{Taken, Refused as Denied, Good}
use Rattle.loader.specs.Load.{Progress, At, Refused, Loading, refusal, going_on, then_from, and_then, field_done, field_by, good_if, counts_told, counts_made, counts_at, read_of, with_read, read_at, reads_from, output_of, with_output, output_at, outputs_from, rest_word, rest_good, rest_at, after_rest, after_outputs, with_constraint, constraint_at, end_at, constraints_given, constraints_from, after_counts, after_reads, answer_of, load_from, load_of}
use Rattle.loader.specs.declared.loader.LoadAnswer.TheVariants.{Loaded, Refused as WasRefused}
use Rattle.header.specs.Tag.{is_wide}
use Rattle.literal.specs.Literal.{literals_of}

-- a refusal has the zero set, and a set on its way has an output
abbrev Shown : Progress → Set → Type 0
Shown (At at) s = 1 ≤ s.n
Shown (Refused number at) s = s ≡ zero_set

abbrev Shows : Loading → Type 0
Shows l = Shown l.progress l.set

-- so with one part after another
then_shows : (l : Loading) (next : ℕ → Set → Loading) → Shows l → ((at : ℕ) (s : Set) → 1 ≤ s.n → Shows (next at s)) → Shows (and_then l next)
then_shows l next h f = go l.progress h
  where
    go : (p : Progress) → Shown p l.set → Shows (then_from p l.set next)
    go (At at) e = f at l.set e
    go (Refused number at) e = e

cond_shows : (b : Bool) (l m : Loading) → (b ≡ true → Shows l) → Shows m → Shows (cond b l m)
cond_shows true l m h f = h refl
cond_shows false l m h f = f

-- so with a field, where what its body gives has an output if it is good
field_shows : (file : List ℕ) (at : ℕ) (told : List ℕ → Taken) (made : List ℕ → Set) → ((body : List ℕ) → told body ≡ Good → 1 ≤ (made body).n) → (h : Header) → Shows (field_by file at told made h)
field_shows file at told made f (Stopped number) = refl
field_shows file at told made f (Field tag len) = go (told body) refl
  where
    body : List ℕ
    body = body_of (drop at file) len

    go : (t : Taken) → told body ≡ t → Shows (field_done at len t (made body))
    go (Denied number) e = refl
    go Good e = f body e

counts_show : (s : List ℕ) (h : Header) → Shows (field_by s 0 counts_told counts_made h)
unfolding count_tests
counts_show s =
    field_shows s 0 counts_told counts_made
    (λ b e. let tests = count_tests (get_or b 0 0) (get_or b 1 0) 0 in leb-true 1 (get_or b 1 0) (every_at tests (good (every tests) e) 1))
  where
    good : (b : Bool) → good_if b 5 ≡ Good → b ≡ true
    good true e = refl
    good false e = let w : ◌≡◌ {A = ℕ} 0 1 = cc in absurd (omega arith)

-- so with one point after another
points_show : (from : ℕ → ℕ → ℕ → Set → Loading) (one : ℕ → Set → ℕ → Loading) → ((i at : ℕ) (s : Set) → from 0 i at s ≡ going_on at s)
    → ((left i at : ℕ) (s : Set) → from (suc left) i at s ≡ and_then (one at s i) (from left (i + 1))) → ((i at : ℕ) (s : Set) → 1 ≤ s.n → Shows (one at s i))
    → (left i at : ℕ) (s : Set) → 1 ≤ s.n → Shows (from left i at s)
points_show from one none more shows zero i at s e = subst Shows (sym (none i at s)) e
points_show from one none more shows (suc left) i at s e =
    subst Shows (sym (more left i at s)) (then_shows (one at s i) (from left (i + 1)) (shows i at s e) (λ a t f. points_show from one none more shows left (i + 1) a t f))

reads_show : (file : List ℕ) (left i at : ℕ) (s : Set) → 1 ≤ s.n → Shows (reads_from file left i at s)
unfolding reads_from read_at
reads_show file =
    points_show (reads_from file) (read_at file) (λ i at s. refl) (λ left i at s. refl)
    (λ i at s e. field_shows file at (λ b. (read_of s i b).taken) (λ b. with_read s i (read_of s i b).read) (λ b g. e) (header_of (drop at file) 2 0))

outputs_show : (file : List ℕ) (left j at : ℕ) (s : Set) → 1 ≤ s.n → Shows (outputs_from file left j at s)
unfolding outputs_from output_at
outputs_show file =
    points_show (outputs_from file) (output_at file) (λ j at s. refl) (λ left j at s. refl)
    (λ j at s e. field_shows file at (λ b. (output_of s j b).taken) (λ b. with_output s j (output_of s j b).name) (λ b g. e) (header_of (drop at file) 3 0))

rest_shows : (file : List ℕ) (at : ℕ) (s : Set) → 1 ≤ s.n → Shows (rest_at file at s)
unfolding rest_at
rest_shows file at s e =
    cond_shows (eqb (get_or (drop at file) 0 0) 6) (field_by file at told made (header_of (drop at file) 6 0)) (going_on at s)
    (λ t. field_shows file at told made (λ b g. e) (header_of (drop at file) 6 0)) e
  where
    told : List ℕ → Taken
    told body = rest_good (rest_word body) s.n

    made : List ℕ → Set
    made body = with_rest s (rest_word body)

constraint_shows : (s : List ℕ) (at tag len : ℕ) (set : Set) → 1 ≤ set.n → Shows (constraint_at s at tag len set)
unfolding constraint_at
constraint_shows s at tag len set e = go (literals_of (is_wide tag) set.r set.n (body_of (drop at s) len)).taken
  where
    c : Constraint
    c = (literals_of (is_wide tag) set.r set.n (body_of (drop at s) len)).made

    go : (t : Taken) → Shows (field_done at len t (with_constraint set c))
    go (Denied number) = refl
    go Good = e

given_shows : (s : List ℕ) (at : ℕ) (set : Set) (next : ℕ → Set → Loading) → 1 ≤ set.n → ((a : ℕ) (t : Set) → 1 ≤ t.n → Shows (next a t)) → (h : Header) → Shows (constraints_given s at set next h)
given_shows s at set next e f (Stopped number) = refl
given_shows s at set next e f (Field tag len) =
    cond_shows (eqb tag 5) (end_at s at set) (and_then (constraint_at s at tag len set) next)
    (λ t. end (ltb (at + 3) (length s))) (then_shows (constraint_at s at tag len set) next (constraint_shows s at tag len set e) f)
  where
    end : (b : Bool) → Shows (cond b (refusal 12 (at + 3)) (going_on (at + 3) set))
    end true = refl
    end false = e

constraints_show : (s : List ℕ) (left at : ℕ) (set : Set) → 1 ≤ set.n → Shows (constraints_from s left at set)
unfolding constraints_from
constraints_show s zero at set e = refl
constraints_show s (suc left) at set e =
    given_shows s at set (constraints_from s left) e (λ a t f. constraints_show s left a t f) (header_of (drop at s) 4 set.m)

load_shows : (file : List ℕ) → Shows (load_from file)
unfolding load_from counts_at
load_shows file =
    then_shows (counts_at file) (after_counts file) (counts_show file (header_of file 1 0))
    (λ a s e. then_shows (reads_from file s.r 0 a s) (after_reads file) (reads_show file s.r 0 a s e)
    (λ b t f. then_shows (outputs_from file t.n 0 b t) (after_outputs file) (outputs_show file t.n 0 b t f)
    (λ d u g. then_shows (rest_at file d u) (after_rest file) (rest_shows file d u g)
    (λ k v h. constraints_show file (suc most_constraints) k v h))))

-- A refused load carries the zero set.
pub refused_zero : (file : List ℕ) (c o : ℕ) → (load_of file).answer ≡ WasRefused c o → (load_of file).set ≡ zero_set
unfolding load_of
refused_zero file c o e = go (load_from file).progress e (load_shows file)
  where
    go : (p : Progress) → answer_of p ≡ WasRefused c o → Shown p (load_from file).set → (load_from file).set ≡ zero_set
    go (At at) t h = let z : ◌≡◌ {A = ℕ} 0 1 = cc in absurd (omega arith)
    go (Refused number at) t h = h

-- A loaded set is not the zero set: it has an output.
pub zero_not_loaded : (file : List ℕ) → (load_of file).answer ≡ Loaded → (load_of file).set ≢ zero_set
unfolding load_of zero_set
zero_not_loaded file e z = go (load_from file).progress e (load_shows file)
  where
    go : (p : Progress) → answer_of p ≡ Loaded → Shown p (load_from file).set → ⊥
    go (At at) t h = let none : (load_from file).set.n ≡ 0 = ap (λ (s : Set). s.n) z in omega arith
    go (Refused number at) t h = let w : ◌≡◌ {A = ℕ} 0 1 = cc in omega arith
