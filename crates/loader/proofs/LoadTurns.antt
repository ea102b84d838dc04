-- How a load goes on, field after field: what a loop over fields has come to, at each of its ways out.
-- Assumes nothing.
use mathlib.Core.Path.{◌≡◌, refl, sym, ◌∙◌, ap}
use mathlib.Core.Bool.{Bool, true, false, cond}
use mathlib.Core.List.{List}
use Prim.Native.Nat.{ℕ, zero, suc, ◌+◌, ◌-◌, ◌≤◌, ◌<◌, min}
use native.Mathlib.Nat.{min-eq_left}
use native.Mathlib.Omega.{arith}
use lib.Dec.{ltb}
use lib.ListN.{length, drop, take}
use borrow.Author.Tests.{eq-eqb, ne_eqb}
use Rattle.scan.specs.declared.set.Set.{Set}
use Rattle.scan.specs.Set.{most_reads, most_outputs, most_constraints}
use Rattle.std.specs.Prelude.{Result, Ok, Err}
use Rattle.header.specs.declared.numbers.Refusal.{Refusal}
use Rattle.header.specs.Fault.{number, Taken}
use Rattle.header.specs.Header.{Header, Refused as Stopped, Field, header_of}
use Rattle.literal.specs.Literal.{Literals, literals_of}
use Rattle.header.specs.Tag.{is_wide}
use Rattle.loader.specs.Load.{At, Refused, Loading, refusal, going_on, and_then, field_done, read_at, reads_from, output_at, outputs_from, with_constraint, constraint_given, constraint_at, constraints_given, constraints_from}
use Rattle.loader.specs.way.Load.{reached, reached_by, end_place}
use Rattle.loader.proofs.LoadLaws.{body_at}

never : (number at p : ℕ) → Refused number at ≡ At p → ⊥
never number at p e = let z : ◌≡◌ {A = ℕ} 0 1 = cc in omega arith

-- ---- one part of a load after another: the first has come so far, with a set where it goes on

module _ {A : Type 0} (whole : Loading) (next : ℕ → Set → Loading) (made : A → Set) (x : Result (A × ℕ) Refusal) (e : reached_by x made ≡ whole) where
  -- a refused load stays as it is
  pub stays : (r : Refusal) → x ≡ Err r → and_then whole next ≡ refusal (number r.fault) r.offset
  stays r q = ap (λ (l : Loading). and_then l next) (sym e ∙ ap (λ (y : Result (A × ℕ) Refusal). reached_by y made) q)

  -- another goes on from its place
  pub goes : (y : A × ℕ) → x ≡ Ok y → and_then whole next ≡ next y.1 (made y.0)
  goes y q = ap (λ (l : Loading). and_then l next) (sym e ∙ ap (λ (y : Result (A × ℕ) Refusal). reached_by y made) q)

-- ---- a row of fields: one loads field i at a place, all loads `left` fields from field i on

pub record Row (one : ℕ → Set → ℕ → Loading) (all : ℕ → ℕ → ℕ → Set → Loading) : Type 0 where
  pub none : (i at : ℕ) (set : Set) → all zero i at set ≡ going_on at set
  pub more : (left i at : ℕ) (set : Set) → all (suc left) i at set ≡ and_then (one at set i) (all left (i + 1))

pub read_row : (s : List ℕ) → Row (read_at s) (reads_from s)
unfolding reads_from
read_row s = record { none = λ i at set. refl; more = λ left i at set. refl }

pub output_row : (s : List ℕ) → Row (output_at s) (outputs_from s)
unfolding outputs_from
output_row s = record { none = λ j at set. refl; more = λ left j at set. refl }

-- a loop over count fields has loaded i of them and is at a place, with a set so far
module _ (one : ℕ → Set → ℕ → Loading) (all : ℕ → ℕ → ℕ → Set → Loading) (row : Row one all) (whole : Loading) (count i at : ℕ) (set : Set) (inv : whole ≡ all (count - i) i at set) where
  pub row_end : count ≤ i → going_on at set ≡ whole
  row_end h = let e : count - i ≡ 0 = omega arith in sym (inv ∙ ap (λ (k : ℕ). all k i at set) e ∙ row.none i at set)

  -- the next field has come so far, with a set where it goes on
  module _ {A : Type 0} (h : i < count) (made : A → Set) (x : Result (A × ℕ) Refusal) (e : one at set i ≡ reached_by x made) where
    next_field : whole ≡ and_then (reached_by x made) (all (count - (i + 1)) (i + 1))
    next_field =
        let k : count - i ≡ suc (count - (i + 1)) = omega arith in
        inv ∙ ap (λ (k : ℕ). all k i at set) k ∙ row.more (count - (i + 1)) i at set ∙ ap (λ (l : Loading). and_then l (all (count - (i + 1)) (i + 1))) e

    pub row_stays : (r : Refusal) → x ≡ Err r → refusal (number r.fault) r.offset ≡ whole
    row_stays r q = sym (next_field ∙ ap (λ (y : Result (A × ℕ) Refusal). and_then (reached_by y made) (all (count - (i + 1)) (i + 1))) q)

    pub row_goes : (y : A × ℕ) → x ≡ Ok y → whole ≡ all (count - (i + 1)) (i + 1) y.1 (made y.0)
    row_goes y q = next_field ∙ ap (λ (y : Result (A × ℕ) Refusal). and_then (reached_by y made) (all (count - (i + 1)) (i + 1))) q

-- ---- constraints: a loop over them is at a place, with a set so far

module _ (s : List ℕ) (whole : Loading) (at : ℕ) (set : Set) (few : set.m ≤ most_constraints) (inv : whole ≡ constraints_from s (suc most_constraints - set.m) at set) where
  next_given : (h : Header) → header_of (drop at s) 4 set.m ≡ h → whole ≡ constraints_given s at set (constraints_from s (most_constraints - set.m)) h
  unfolding constraints_from
  next_given h e =
      let k : suc most_constraints - set.m ≡ suc (most_constraints - set.m) = omega arith in
      inv ∙ ap (λ (x : ℕ). constraints_from s x at set) k ∙ ap (constraints_given s at set (constraints_from s (most_constraints - set.m))) e

  pub constraints_stopped : (number : ℕ) → header_of (drop at s) 4 set.m ≡ Stopped number → refusal number at ≡ whole
  constraints_stopped number h = sym (next_given (Stopped number) h)

  module _ (tag len : ℕ) (h : header_of (drop at s) 4 set.m ≡ Field tag len) where
    pub constraints_end : tag ≡ 5 → reached (end_place s at) set ≡ whole
    constraints_end t = go (ltb (at + 3) (length s)) ∙ sym (next_given (Field tag len) h ∙ simp (eq-eqb _ _ t))
      where
        go : (b : Bool) → reached (cond b (Refused 12 (at + 3)) (At (at + 3))) set ≡ cond b (refusal 12 (at + 3)) (going_on (at + 3) set)
        go true = refl
        go false = refl

    -- a constraint, by its literals
    module _ (t : tag ≡ 5 → ⊥) (wide : Bool) (w : wide ≡ is_wide tag) (f : Literals) (few-points : (set.r ≤ most_reads) × (set.n ≤ most_outputs))
        (e : f ≡ literals_of wide (min set.r most_reads) (min set.n most_outputs) (take (at + 3 + len - (at + 3)) (drop (at + 3) s))) where
      on : whole ≡ and_then (constraint_given at len set f) (constraints_from s (most_constraints - set.m))
      unfolding constraint_at
      on =
          let rest = constraints_from s (most_constraints - set.m) in
          let no_end : constraints_given s at set rest (Field tag len) ≡ and_then (constraint_at s at tag len set) rest = simp (ne_eqb _ _ t) in
          next_given (Field tag len) h ∙ no_end
          ∙ ap (λ (g : Literals). and_then (constraint_given at len set g) (constraints_from s (most_constraints - set.m)))
          (sym (e ∙ (λ i. literals_of (w i) (min-eq_left few-points.0 i) (min-eq_left few-points.1 i) (body_at s at len i))))

      pub constraints_by : (x : Taken) → f.taken ≡ x → whole ≡ and_then (field_done at len x (with_constraint set f.made)) (constraints_from s (most_constraints - set.m))
      constraints_by x q = on ∙ ap (λ (y : Taken). and_then (field_done at len y (with_constraint set f.made)) (constraints_from s (most_constraints - set.m))) q
