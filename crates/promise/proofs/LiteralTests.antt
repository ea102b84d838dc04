-- The body of a constraint: the column's tests, over the literals that its bytes give, tell what the loader takes of the literals that they say.
-- Assumes nothing.
use mathlib.Core.Path.{◌≡◌, refl, sym, ap, ap₂, subst, ◌∙◌}
use mathlib.Core.Bool.{Bool, true, false, cond, not, ◌&&◌, ◌||◌, or-false, or_assoc}
use mathlib.Core.List.{List, [], ◌∷◌, ◌++◌, map}
use mathlib.Core.Logic.{◌⊎◌, inl, inr}
use Prim.Native.Nat.{ℕ, zero, suc, ◌+◌, ◌*◌, ◌/◌, ◌%◌, ◌^◌, ◌≤◌, ◌<◌}
use native.Mathlib.Omega.{arith}
use lib.Dec.{ltb, leb, eqb}
use lib.Bits.{bit_or, and_le_l, and_le_r, or_comm, or_add_and, or_lt}
use lib.ListN.{length}
use lib.Pow.{pow_mono, pow-lt}
use borrow.Author.Tests.{ltb-true, ltb-false, lt-ltb, le-ltb, leb-true, leb-false, lt-leb, le-leb}
use Rattle.words.proofs.BoolLaws.{by_test, same_truth, and_swap, and_false}
use Rattle.scan.specs.declared.set.Constraint.{Constraint}
use Rattle.scan.specs.Set.{most_reads, most_outputs, zero_constraint}
use Rattle.header.specs.Tag.{is_wide, literal_size, names_high}
use Rattle.header.specs.Test.{Test, test}
use Rattle.literal.specs.declared.literal.Said.{Said}
use Rattle.literal.specs.Literal.{Literals, is_negated, narrow, wide, narrows, wides, said_by, place, is_literal, with_literal, refused_literals, good_literals, literals_from, literals_of}
use Rattle.literal.proofs.LiteralLaws.{room, literal_fits_law, not_literal, not_rising, one_more}
use Rattle.promise.specs.Column.{Given, in_twos, in_threes, is_output_literal, literal_fits, in_order, literal_tests, names_output, number_above15, body_tests}
use Rattle.promise.proofs.HeadTests.{BodyTells, body_behind}

-- ---- what is given

-- what a given literal says
abbrev said_of : Given → Said
said_of l = record { clear = l.clear; out = is_output_literal l; negated = is_negated l.first; number = l.number; rank = l.rank }

-- the literals that a body gives, by threes or by twos
abbrev givens : Bool → List ℕ → List Given
givens threes body = cond threes (in_threes body) (in_twos body)

-- A body of whole literals gives what it says.
given_said : (threes : Bool) (body : List ℕ) → length body % literal_size threes ≡ 0 → map said_of (givens threes body) ≡ said_by threes body
unfolding in_twos in_threes narrows wides
given_said true [] e = refl
given_said true (b ∷ []) e = absurd (omega arith)
given_said true (b ∷ number ∷ []) e = absurd (omega arith)
given_said true (b ∷ number ∷ rank ∷ rest) e = ap (λ (ls : List Said). wide b number rank ∷ ls) (given_said true rest (omega arith))
given_said false [] e = refl
given_said false (b ∷ []) e = absurd (omega arith)
given_said false (b ∷ rank ∷ rest) e = ap (λ (ls : List Said). narrow b rank ∷ ls) (given_said false rest (omega arith))

-- the column and the loader say the same of it
fits_same : (r n : ℕ) (l : Given) → literal_fits r n l ≡ is_literal (said_of l) r n
unfolding literal_fits
fits_same r n l = ap (λ (x : Bool). l.clear && cond (is_output_literal l) (ltb l.number n) x) (and_swap (ltb l.number r) (eqb l.rank 0))

-- ---- the order

-- a point's place, as the loader has it and as the column has it
abbrev place_of : Bool → ℕ → ℕ
place_of o k = cond o (most_reads + k) k

abbrev order_of : Bool → ℕ → ℕ
order_of o k = cond o (64 + k) k

order_is : (p k : ℕ) → p < 2 → 64 * p + k ≡ order_of (eqb p 1) k
order_is zero k h = omega arith
order_is (suc zero) k h = omega arith
order_is (suc (suc p)) k h = absurd (omega arith)

-- what the next place must be at least, in both: behind a read point or none, behind an output
abbrev Nexts : ℕ → ℕ → Type 0
Nexts next order = ((next ≤ most_reads) × (order ≡ next)) ⊎ ((most_reads < next) × (order + most_reads ≡ next + 64))

nexts_behind : (o : Bool) (k : ℕ) → k < room o → Nexts (place_of o k + 1) (order_of o k + 1)
nexts_behind true k h = inr (omega arith, omega arith)
nexts_behind false k h = inl (omega arith, refl)

below_same : (o : Bool) (k next order : ℕ) → k < room o → Nexts next order → ltb (order_of o k) order ≡ ltb (place_of o k) next
below_same o k next order h x =
    same_truth (ltb (order_of o k) order) (ltb (place_of o k) next)
    (λ t. lt-ltb (place_of o k) next (there o h x (ltb-true (order_of o k) order t)))
    (λ t. lt-ltb (order_of o k) order (back o h x (ltb-true (place_of o k) next t)))
  where
    there : (o : Bool) → k < room o → Nexts next order → order_of o k < order → place_of o k < next
    there true h (inl x) l = let a = x.0 in let b = x.1 in omega arith
    there true h (inr x) l = let a = x.0 in let b = x.1 in omega arith
    there false h (inl x) l = let a = x.0 in let b = x.1 in omega arith
    there false h (inr x) l = let a = x.0 in let b = x.1 in omega arith

    back : (o : Bool) → k < room o → Nexts next order → place_of o k < next → order_of o k < order
    back true h (inl x) l = let a = x.0 in let b = x.1 in omega arith
    back true h (inr x) l = let a = x.0 in let b = x.1 in omega arith
    back false h (inl x) l = let a = x.0 in let b = x.1 in omega arith
    back false h (inr x) l = let a = x.0 in let b = x.1 in omega arith

-- a literal whose place is not below `next` is an output's, or `next` is at most most_reads and no output literal came before it
eleven : (o : Bool) (k next : ℕ) (later : Bool) → k < room o → next ≤ place_of o k → leb next most_reads && not (o || later) ≡ leb (place_of o k + 1) most_reads && not later
eleven true k next later h l = and_false (leb next most_reads) false refl ∙ ap (λ (x : Bool). x && not later) (sym (lt-leb (most_reads + k + 1) most_reads (omega arith)))
eleven false k next later h l = ap (λ (x : Bool). x && not later) (le-leb next most_reads (omega arith) ∙ sym (le-leb (k + 1) most_reads (omega arith)))

-- ---- numbers above 15

-- two masks together have a bit above 15 where one of them has
high_or : (a b : ℕ) → leb (2 ^ 16) (bit_or a b) ≡ leb (2 ^ 16) a || leb (2 ^ 16) b
high_or a b =
    by_test (leb (2 ^ 16) a)
    (λ t. let h = leb-true (2 ^ 16) a t in le-leb (2 ^ 16) (bit_or a b) (omega (arith, or_add_and a b, and_le_r a b)) ∙ sym (ap (λ (x : Bool). x || leb (2 ^ 16) b) t))
    (λ t. by_test (leb (2 ^ 16) b)
    (λ u. let h = leb-true (2 ^ 16) b u in le-leb (2 ^ 16) (bit_or a b) (omega (arith, or_add_and a b, and_le_l a b)) ∙ sym (ap₂ ◌||◌ t u))
    (λ u. lt-leb (2 ^ 16) (bit_or a b) (or_lt 16 a b (leb-false (2 ^ 16) a t) (leb-false (2 ^ 16) b u)) ∙ sym (ap₂ ◌||◌ t u)))

-- one with bit k more has where it had, or where k is above 15
high_more : (a k : ℕ) → leb (2 ^ 16) (bit_or a (2 ^ k)) ≡ leb (2 ^ 16) a || ltb 15 k
high_more a k = high_or a (2 ^ k) ∙ ap (λ (x : Bool). leb (2 ^ 16) a || x) high_bit
  where
    high_bit : leb (2 ^ 16) (2 ^ k) ≡ ltb 15 k
    high_bit =
        by_test (ltb 15 k)
        (λ t. le-leb (2 ^ 16) (2 ^ k) (pow_mono (ltb-true 15 k t)) ∙ sym t)
        (λ t. let h = ltb-false 15 k t in let l : k < 16 = omega arith in lt-leb (2 ^ 16) (2 ^ k) (pow-lt l) ∙ sym t)

-- and so have two, of which one has bit k more
high_either : (a b k : ℕ) → leb (2 ^ 16) (bit_or a (bit_or b (2 ^ k))) ≡ leb (2 ^ 16) (bit_or a b) || ltb 15 k
high_either a b k =
    high_or a (bit_or b (2 ^ k)) ∙ ap (λ (x : Bool). leb (2 ^ 16) a || x) (high_more b k) ∙ sym (or_assoc (leb (2 ^ 16) a) (leb (2 ^ 16) b) (ltb 15 k))
    ∙ ap (λ (x : Bool). x || ltb 15 k) (sym (high_or a b))

-- an output's number is not
low_output : (high : Bool) (k : ℕ) → k < most_outputs → high ≡ high || ltb 15 k
low_output high k h = sym (or-false high) ∙ ap (λ (b : Bool). high || b) (sym (le-ltb 15 k (omega arith)))

-- A constraint with a literal more names a read point above 15 where it did, or where the literal's number is above 15.
high_added : (c : Constraint) (clear o g : Bool) (k x : ℕ) → k < room o
    → names_high (with_literal c (record { clear = clear; out = o; negated = g; number = k; rank = x })) ≡ names_high c || ltb 15 k
unfolding names_high with_literal
high_added c clear true true k x h = low_output (names_high c) k h
high_added c clear true false k x h = low_output (names_high c) k h
high_added c clear false true k x h = high_either c.read_plain c.read_negated k
high_added c clear false false k x h =
    ap (leb (2 ^ 16)) (or_comm (bit_or c.read_plain (2 ^ k)) c.read_negated) ∙ high_either c.read_negated c.read_plain k
    ∙ ap (λ (a : ℕ). leb (2 ^ 16) a || ltb 15 k) (or_comm c.read_negated c.read_plain)

-- ---- all

-- the tests behind the literals: where they are threes, 59; then 11
abbrev last_tests : Bool → ℕ → Bool → Bool → List Test
last_tests threes at low none = cond threes (test 59 at low ∷ test 11 at none ∷ []) (test 11 at none ∷ [])

-- those behind the literals that follow a constraint so far: `next` is at most most_reads where no output literal came before
abbrev last_of : Bool → ℕ → ℕ → Constraint → List Given → List Test
last_of threes at next c ls = last_tests threes at (not (names_high c || number_above15 ls)) (leb next most_reads && not (names_output ls))

-- they are the same behind one literal of those
last_behind : (threes : Bool) (at next : ℕ) (c : Constraint) (l : Given) (rest : List Given) → l.number < room (is_output_literal l) → next ≤ place (said_of l)
    → last_of threes at next c (l ∷ rest) ≡ last_of threes at (place (said_of l) + 1) (with_literal c (said_of l)) rest
unfolding number_above15 names_output
last_behind threes at next c l rest fits h =
    ap₂ (λ (high none : Bool). last_tests threes at (not high) none)
    (sym (or_assoc (names_high c) (ltb 15 l.number) (number_above15 rest))
    ∙ ap (λ (b : Bool). b || number_above15 rest) (sym (high_added c l.clear (is_output_literal l) (is_negated l.first) l.number l.rank fits)))
    (eleven (is_output_literal l) l.number next (names_output rest) fits h)

-- the tests of literals, with those behind them
abbrev with_last : Bool → ℕ → ℕ → ℕ → ℕ → ℕ → Constraint → List Given → List Test
with_last threes at r n next order c ls = literal_tests at r n order ls ++ last_of threes at next c ls

module _ (threes : Bool) (at r n : ℕ) (few-reads : r ≤ most_reads) (few-outputs : n ≤ most_outputs) where
  literals_tell : (next order : ℕ) (c : Constraint) (ls : List Given) → Nexts next order
      → BodyTells at (literals_from threes r n next c (map said_of ls)).taken (with_last threes at r n next order c ls) (Unit {0})
  unfolding literals_from literal_tests names_output number_above15
  literals_tell next order c [] x = go threes (names_high c) (leb next most_reads)
    where
      go : (w high none : Bool) → BodyTells at (cond (w && not high) (refused_literals 59) (cond none (refused_literals 11) (good_literals c))).taken
          (last_tests w at (not (high || false)) (none && true)) (Unit {0})
      go true true true = inr (refl, inl (refl, refl, refl))
      go true true false = ((refl, (refl, tt)), tt)
      go true false none = inl (refl, refl, refl)
      go false high true = inl (refl, refl, refl)
      go false high false = ((refl, tt), tt)
  literals_tell next order c (l ∷ rest) x =
      let said = said_of l in
      let o = is_output_literal l in
      let k = l.number in
      let nine = test 9 at (not (literal_fits r n l)) in
      let ten = test 10 at (ltb (in_order l) order) in
      let tests = literal_tests at r n (in_order l + 1) rest in
      let behind = tests ++ last_of threes at next c (l ∷ rest) in
      let told : (g : Literals) → literals_from threes r n next c (said ∷ map said_of rest) ≡ g → BodyTells at g.taken (nine ∷ ten ∷ behind) (Unit {0})
      → BodyTells at (literals_from threes r n next c (said ∷ map said_of rest)).taken (nine ∷ ten ∷ behind) (Unit {0}) =
      λ g e y. subst (λ (f : Literals). BodyTells at f.taken (nine ∷ ten ∷ behind) (Unit {0})) (sym e) y in
      by_test (is_literal said r n)
      (λ i.
      let n9 : not (literal_fits r n l) ≡ false = ap not (fits_same r n l ∙ i) in
      let fits = literal_fits_law said r n i few-reads few-outputs in
      let is = order_is (l.first / 64 % 2) k (omega arith) in
      let below : ltb (in_order l) order ≡ ltb (place said) next = ap (λ (z : ℕ). ltb z order) is ∙ below_same o k next order fits x in
      by_test (ltb (place said) next)
      (λ t. told _ (not_rising threes r n next c said (map said_of rest) i (ltb-true (place said) next t)) (inr (n9, inl (below ∙ t, refl, refl))))
      (λ t.
      let h : next ≤ place said = ltb-false (place said) next t in
      let others = literals_from threes r n (place said + 1) (with_literal c said) (map said_of rest) in
      let on = literals_tell (place said + 1) (in_order l + 1) (with_literal c said) rest (subst (λ (z : ℕ). Nexts (place said + 1) (z + 1)) (sym is) (nexts_behind o k fits)) in
      let y = subst (λ (last : List Test). BodyTells at others.taken (tests ++ last) (Unit {0})) (sym (last_behind threes at next c l rest fits h)) on in
      told others (one_more threes r n next c said (map said_of rest) i h)
      (body_behind at others.taken nine (ten ∷ behind) (Unit {0}) (Unit {0}) n9 (λ u. u)
      (body_behind at others.taken ten behind (Unit {0}) (Unit {0}) (below ∙ t) (λ u. u) y))))
      (λ i. told _ (not_literal threes r n next c said (map said_of rest) i) (inl (ap not (fits_same r n l ∙ i), refl, refl)))

-- The tests of a constraint's body, which has whole literals, tell what is taken of it.
pub body_tells : (at r n tag : ℕ) (body : List ℕ) → length body % literal_size (is_wide tag) ≡ 0 → r ≤ most_reads → n ≤ most_outputs
    → BodyTells at (literals_of (is_wide tag) r n body).taken (body_tests at r n tag body) (Unit {0})
unfolding body_tests names_high
body_tells at r n tag body e few-reads few-outputs = go (is_wide tag) e
  where
    column : Bool → List Test
    column threes = with_last threes at r n 0 0 zero_constraint (givens threes body)

    tells : (threes : Bool) → length body % literal_size threes ≡ 0 → BodyTells at (literals_of threes r n body).taken (column threes) (Unit {0})
    tells threes e =
        subst (λ (ls : List Said). BodyTells at (literals_from threes r n 0 zero_constraint ls).taken (column threes) (Unit {0})) (given_said threes body e)
        (literals_tell threes at r n few-reads few-outputs 0 0 zero_constraint (givens threes body) (inl (omega arith, refl)))

    go : (threes : Bool) → length body % literal_size threes ≡ 0 → BodyTells at (literals_of threes r n body).taken (cond threes (column true) (column false)) (Unit {0})
    go true e = tells true e
    go false e = tells false e
