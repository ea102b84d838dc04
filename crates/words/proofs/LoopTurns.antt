-- A turn of a loop that counts up, at the code's `n + 1`: what it does to masks joined, to a word built bit by bit, to a search, and to the
-- invariants of loops that test all and that look for the first; parts of a list, one behind the other.
-- Assumes nothing.
use mathlib.Core.Path.{◌≡◌, refl, sym, ap, ap₂, ◌∙◌}
use mathlib.Core.Bool.{Bool, true, false, ◌||◌, ◌&&◌, cond}
use mathlib.Core.List.{List, [], ◌++◌}
use Prim.Native.Nat.{ℕ, ◌+◌, ◌*◌, ◌%◌, ◌^◌, ◌≤◌, ◌<◌}
use native.Mathlib.Numerals.{add-one}
use lib.Bits.{bit_or}
use native.Mathlib.Omega.{arith}
use Rattle.words.specs.Loop.{gather, some, all, first, bit_if, word, joined}
use Rattle.words.proofs.ShiftLaws.{one_shl}
use Rattle.words.proofs.LoopLaws.{some_false_at, first_is, first_none}

-- ---- masks joined

pub gather_none : (f : ℕ → ℕ) → 0 ≡ gather 0 f
unfolding gather
gather_none f = refl

pub gather_more : (n : ℕ) (f : ℕ → ℕ) → gather (n + 1) f ≡ bit_or (gather n f) (f n)
unfolding gather
gather_more n f = ap (λ (k : ℕ). gather k f) (add-one n)

pub gather_step : (f : ℕ → ℕ) (n z r : ℕ) → z ≡ gather n f → r ≡ f n → bit_or z r ≡ gather (n + 1) f
gather_step f n z r e h = ap₂ bit_or e h ∙ sym (gather_more n f)

-- ---- a search

pub some_none : (p : ℕ → Bool) → some 0 p ≡ false
unfolding some
some_none p = refl

pub some_more : (n : ℕ) (p : ℕ → Bool) → some (n + 1) p ≡ (some n p || p n)
unfolding some
some_more n p = ap (λ (k : ℕ). some k p) (add-one n)

pub some_miss : (p : ℕ → Bool) (n : ℕ) → some n p ≡ false → p n ≡ false → some (n + 1) p ≡ false
some_miss p n e h = some_more n p ∙ ap₂ ◌||◌ e h

-- ---- a test of all

pub all_none : (p : ℕ → Bool) → all 0 p ≡ true
unfolding all
all_none p = refl

pub all_more : (n : ℕ) (p : ℕ → Bool) → all (n + 1) p ≡ (all n p && p n)
unfolding all
all_more n p = ap (λ (k : ℕ). all k p) (add-one n)

pub all_step : (p : ℕ → Bool) (n : ℕ) (b r x : Bool) → b ≡ all n p → r ≡ p n → x ≡ (b && r) → x ≡ all (n + 1) p
all_step p n b r x eb er ex = ex ∙ ap₂ ◌&&◌ eb er ∙ sym (all_more n p)

-- ---- masks and searches

-- a mask x that the test b keeps, joined to those before; the definition has the mask y and the test t
pub kept_turn : (f : ℕ → ℕ) (n z r x y : ℕ) (b t : Bool) → z ≡ gather n f → b ≡ t → x ≡ y → cond t y 0 ≡ f n → r ≡ cond b x 0
    → bit_or z r ≡ gather (n + 1) f
kept_turn f n z r x y b t ez eb ex ef er = gather_step f n z r ez (er ∙ (λ i. cond (eb i) (ex i) 0) ∙ ef)

pub word_none : (p : ℕ → Bool) → 0 ≡ word 0 p
unfolding word
word_none p = gather_none (bit_if p)

pub word_step : (p : ℕ → Bool) (k z r : ℕ) → z ≡ word k p → r ≡ cond (p k) (2 ^ k) 0 → bit_or z r ≡ word (k + 1) p
unfolding word bit_if
word_step p k z r ez er = gather_step (bit_if p) k z r ez er

-- bit k of a word of `wide` bits, as code sets it: `1 << k` if the test passed
pub word_turn : (p : ℕ → Bool) (wide k z r : ℕ) (b : Bool) → k < wide → z ≡ word k p → b ≡ p k → r ≡ cond b ((1 * 2 ^ k) % 2 ^ wide) 0
    → bit_or z r ≡ word (k + 1) p
unfolding word bit_if
word_turn p wide k z r b h ez eb er = kept_turn (bit_if p) k z r _ (2 ^ k) b (p k) ez eb (one_shl wide k h) refl er

pub some_step : (p : ℕ → Bool) (n : ℕ) (b r x : Bool) → b ≡ some n p → r ≡ p n → x ≡ (b || r) → x ≡ some (n + 1) p
some_step p n b r x eb er ex = ex ∙ ap₂ ◌||◌ eb er ∙ sym (some_more n p)

-- ---- tests of all, and the first

-- the invariant of a loop that tests all below n: `ok` tells whether those below k passed
abbrev pub Passed : ℕ → (ℕ → Bool) → Bool → ℕ → Type 0
Passed n p ok k = (k ≤ n) × (ok ≡ all k p)

module _ (n : ℕ) (p : ℕ → Bool) where
  pub passed_none : Passed n p true 0
  passed_none = (omega arith, sym (all_none p))

  pub passed_one : (k : ℕ) (ok r x : Bool) → Passed n p ok k → k < n → r ≡ p k → x ≡ (ok && r) → Passed n p x (k + 1)
  passed_one k ok r x i h er ex = (omega arith, all_step p k ok r x i.1 er ex)

  pub passed_all : (k : ℕ) (ok : Bool) → Passed n p ok k → n ≤ k → ok ≡ all n p
  passed_all k ok i h = i.1 ∙ ap (λ (j : ℕ). all j p) (omega arith)

-- the invariant of a loop that looks for the first below n: there is none below k
abbrev pub Missed : ℕ → (ℕ → Bool) → ℕ → Type 0
Missed n p k = (k ≤ n) × (some k p ≡ false)

module _ (n : ℕ) (p : ℕ → Bool) where
  pub missed_none : Missed n p 0
  missed_none = (omega arith, some_none p)

  pub missed_one : (k : ℕ) → Missed n p k → k < n → p k ≡ false → Missed n p (k + 1)
  missed_one k i h e = (omega arith, some_miss p k i.1 e)

  pub missed_here : (k : ℕ) → Missed n p k → k < n → p k ≡ true → k ≡ first n p
  missed_here k i h e = sym (first_is n k p h e (some_false_at k p i.1))

  pub missed_all : (k : ℕ) → Missed n p k → n ≤ k → n ≡ first n p
  missed_all k i h = sym (first_none n p (λ j l. some_false_at k p i.1 j (omega arith)))

-- ---- parts, one behind the other

-- `whole k` is the first k parts, `more k` the part behind them
pub record Grows {A : Type 0} (whole more : ℕ → List A) (n : ℕ) : Type 0 where
  pub none : whole 0 ≡ []
  pub one : (k : ℕ) → k < n → whole (k + 1) ≡ whole k ++ more k

pub joined_grow : {A : Type 0} (f : ℕ → List A) (n : ℕ) → Grows (λ k. joined k f) f n
unfolding joined
joined_grow f n = record { none = refl; one = λ k h. ap (λ (j : ℕ). joined j f) (add-one k) }
