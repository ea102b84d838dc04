-- Laws of tests.
-- Assumes nothing.
use mathlib.Core.Path.{◌≡◌, refl, sym, ap, ◌∙◌, ap₂}
use mathlib.Core.List.{List, [], ◌∷◌}
use mathlib.Core.Bool.{Bool, true, false, cond, ◌&&◌, ◌||◌, true≢false}
use Prim.Native.Nat.{ℕ, zero, suc}
use lib.ListN.{get_or}
use lib.Dec.{eqb}
use borrow.Author.Tests.{eq-eqb}
use Rattle.words.specs.Loop.{every}

-- by the way that a test goes
pub by_test {ℓ} : {C : Type ℓ} (b : Bool) → (b ≡ true → C) → (b ≡ false → C) → C
by_test true f g = f refl
by_test false f g = g refl

-- a test goes one way only
pub clash {ℓ} : {C : Type ℓ} {b : Bool} → b ≡ true → b ≡ false → C
clash p q = absurd (true≢false (sym p ∙ q))

-- tests that imply each other are equal
pub same_truth : (a b : Bool) → (a ≡ true → b ≡ true) → (b ≡ true → a ≡ true) → a ≡ b
same_truth true b f g = sym (f refl)
same_truth false true f g = g refl
same_truth false false f g = refl

-- ---- and

pub and_true : (a b : Bool) → a && b ≡ true → (a ≡ true) × (b ≡ true)
and_true true b e = (refl, e)
and_true false b e = absurd (true≢false (sym e))

pub and_unit : (b : Bool) → b && true ≡ b
and_unit true = refl
and_unit false = refl

pub and_swap : (a b : Bool) → a && b ≡ b && a
and_swap true b = sym (and_unit b)
and_swap false true = refl
and_swap false false = refl

pub and_false : (a b : Bool) → b ≡ false → a && b ≡ false
and_false true b e = e
and_false false b e = refl

pub and_assoc : (a b c : Bool) → a && (b && c) ≡ (a && b) && c
and_assoc true b c = refl
and_assoc false b c = refl

-- where the first test passes, both do just where the second does
pub and_on : (a b : Bool) → a ≡ true → b ≡ a && b
and_on a b e = ap (λ (x : Bool). x && b) (sym e)

-- ---- or

pub or_true : (a b : Bool) → a || b ≡ true → (a ≡ false → b ≡ true)
or_true true b e q = absurd (true≢false q)
or_true false b e q = e

pub or_false : (a b : Bool) → a || b ≡ false → (a ≡ false) × (b ≡ false)
or_false true b e = absurd (true≢false e)
or_false false b e = (refl, e)

pub or_left : (a b : Bool) → a ≡ true → a || b ≡ true
or_left true b e = refl
or_left false b e = clash e refl

pub or_right : (a b : Bool) → b ≡ true → a || b ≡ true
or_right true b e = refl
or_right false b e = e

-- ---- a choice, by the way that its test went

pub cond_true {ℓ} : {A : Type ℓ} (t : Bool) (a b : A) → t ≡ true → a ≡ cond t a b
cond_true {A = A} t a b e = ap (λ (x : Bool). cond x a b) (sym e)

pub cond_false {ℓ} : {A : Type ℓ} (t : Bool) (a b : A) → t ≡ false → b ≡ cond t a b
cond_false {A = A} t a b e = ap (λ (x : Bool). cond x a b) (sym e)

-- ---- a list of tests

-- each test of a list that all pass, by its place
pub every_at : (bs : List Bool) → every bs ≡ true → (k : ℕ) → get_or bs k true ≡ true
every_at [] e k = refl
every_at (b ∷ bs) e zero = (and_true b (every bs) e).0
every_at (b ∷ bs) e (suc k) = every_at bs (and_true b (every bs) e).1 k

-- ---- chains of tests: the code's nest, and the definition's list

-- a test of a length passes where the length is known
pub sized : (len n : ℕ) (b : Bool) → len ≡ n → b ≡ (eqb len n && b)
sized len n b e = and_on (eqb len n) b (eq-eqb len n e)

pub two : (a b a' b' x : Bool) → a ≡ a' → b ≡ b' → x ≡ (a && b) → x ≡ every (a' ∷ b' ∷ [])
two a b a' b' x ea eb ex = ex ∙ ap₂ ◌&&◌ ea (eb ∙ sym (and_unit b'))

pub three : (a b c a' b' c' x y : Bool) → a ≡ a' → b ≡ b' → c ≡ c' → x ≡ (b && c) → y ≡ (a && x) → y ≡ every (a' ∷ b' ∷ c' ∷ [])
three a b c a' b' c' x y ea eb ec ex ey = ey ∙ ap₂ ◌&&◌ ea (two b c b' c' x eb ec ex)
