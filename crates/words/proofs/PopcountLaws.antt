-- Counts of bits: the count of ones is the number of bits that are set.
-- Assumes nothing.
use mathlib.Core.Path.{◌≡◌, refl, sym, ap, ap₂, ◌∙◌}
use mathlib.Core.Bool.{Bool, true, false, cond, true≢false}
use Prim.Native.Nat.{ℕ, zero, suc, ◌+◌, ◌/◌, ◌%◌, ◌^◌, ◌≤◌, ◌<◌}
use native.Mathlib.Nat.{le_of_suc-le-suc, not-suc-le-zero, add-zero, zero-add, add_assoc}
use native.Mathlib.Decide.{ℕ_discrete}
use native.Mathlib.Omega.{arith}
use lib.Arith.{lt-one}
use lib.Dec.{eqb}
use lib.Count.{ones_in, ones, ones_step}
use Rattle.words.proofs.BoolLaws.{by_test}
use Rattle.words.specs.Word.{odd, bit, popcount}
use Rattle.words.specs.Loop.{count}
use Rattle.words.proofs.LoopLaws.{below_suc}
use Rattle.words.proofs.BitLaws.{half_lt, bit_lowest, bit_half, no_bits, by_digit, digit_lt, odd_one}

-- what `count_ones` of a number of n bits gives is the count over n digits
pub ones_in_law : (n w : ℕ) → w < 2 ^ n → ones w ≡ ones_in n w
unfolding ones_in ones
ones_in_law zero w h = ap ones (lt-one h)
ones_in_law (suc n) w h = ones_step w ∙ ap (λ (x : ℕ). w % 2 + x) (ones_in_law n (w / 2) (half_lt n w h))

-- what `count_ones` of a 16-bit number gives is the count over 16 digits
pub ones_popcount : (w : ℕ) → w < 2 ^ 16 → ones w ≡ popcount w
unfolding popcount
ones_popcount w h = ones_in_law 16 w h

pub none_set : (n w : ℕ) → ones_in n w ≡ 0 → (k : ℕ) → k < n → bit k w ≡ false
unfolding ones_in odd
none_set zero w e k h = absurd (not-suc-le-zero h)
none_set (suc n) w e zero h = let z : w % 2 ≡ 0 = omega arith in bit_lowest w ∙ ap (λ (x : ℕ). eqb x 1) z
none_set (suc n) w e (suc k) h = sym (bit_half k w) ∙ none_set n (w / 2) (omega arith) k (le_of_suc-le-suc h)

-- a word with one bit set has no other
pub one_set : (n w : ℕ) → ones_in n w ≡ 1 → (j k : ℕ) → j < n → k < n → bit j w ≡ true → bit k w ≡ true → j ≡ k
unfolding ones_in
one_set zero w e j k hj hk bj bk = absurd (not-suc-le-zero hj)
one_set (suc n) w e zero zero hj hk bj bk = refl
one_set (suc n) w e zero (suc k) hj hk bj bk =
    let o : w % 2 ≡ 1 = odd_one w (sym (bit_lowest w) ∙ bj) in
    absurd (true≢false (sym bk ∙ sym (bit_half k w) ∙ none_set n (w / 2) (omega arith) k (le_of_suc-le-suc hk)))
one_set (suc n) w e (suc j) zero hj hk bj bk =
    let o : w % 2 ≡ 1 = odd_one w (sym (bit_lowest w) ∙ bk) in
    absurd (true≢false (sym bj ∙ sym (bit_half j w) ∙ none_set n (w / 2) (omega arith) j (le_of_suc-le-suc hj)))
one_set (suc n) w e (suc j) (suc k) hj hk bj bk =
    ap suc (one_set n (w / 2) (rest (ℕ_discrete (ones_in n (w / 2)) 0)) j k (le_of_suc-le-suc hj) (le_of_suc-le-suc hk) (bit_half j w ∙ bj) (bit_half k w ∙ bk))
  where
    rest : Dec (ones_in n (w / 2) ≡ 0) → ones_in n (w / 2) ≡ 1
    rest (yes z) = absurd (true≢false (sym bj ∙ sym (bit_half j w) ∙ none_set n (w / 2) z j (le_of_suc-le-suc hj)))
    rest (no nz) = omega arith

-- a word with no bit counted is 0
pub none_zero : (n w : ℕ) → w < 2 ^ n → ones_in n w ≡ 0 → w ≡ 0
none_zero n w h e = no_bits n w h (none_set n w e)

-- ---- the numbers below a count that pass a test

-- the test at 0, and the tests at the others
pub count_front : (n : ℕ) (p : ℕ → Bool) → count (suc n) p ≡ cond (p 0) 1 0 + count n (λ k. p (suc k))
unfolding count
count_front zero p = zero-add (cond (p 0) 1 0) ∙ sym (add-zero (cond (p 0) 1 0))
count_front (suc n) p =
    ap (λ (x : ℕ). x + cond (p (suc n)) 1 0) (count_front n p) ∙ add_assoc (cond (p 0) 1 0) (count n (λ k. p (suc k))) (cond (p (suc n)) 1 0)

pub count_cong : (n : ℕ) (p q : ℕ → Bool) → ((k : ℕ) → k < n → p k ≡ q k) → count n p ≡ count n q
unfolding count
count_cong zero p q h = refl
count_cong (suc n) p q h = ap₂ (λ (x : ℕ) (b : Bool). x + cond b 1 0) (count_cong n p q (λ k l. h k (omega arith))) (h n (omega arith))

-- tests that fail from n on add nothing
pub count_beyond : (n d : ℕ) (p : ℕ → Bool) → ((k : ℕ) → n ≤ k → p k ≡ false) → count (n + d) p ≡ count n p
unfolding count
count_beyond n zero p h = ap (λ (k : ℕ). count k p) (add-zero n)
count_beyond n (suc d) p h =
    let e : n + suc d ≡ suc (n + d) = omega arith in
    ap (λ (k : ℕ). count k p) e
    ∙ ap (λ (b : Bool). count (n + d) p + cond b 1 0) (h (n + d) (omega arith))
    ∙ add-zero (count (n + d) p) ∙ count_beyond n d p h

digit_odd : (x : ℕ) → x < 2 → x ≡ cond (eqb x 1) 1 0
digit_odd = by_digit (λ (x : ℕ). x ≡ cond (eqb x 1) 1 0) refl refl

-- the count of ones is the number of bits that are set
pub ones_count : (n w : ℕ) → ones_in n w ≡ count n (λ k. bit k w)
unfolding ones_in odd count
ones_count zero w = refl
ones_count (suc n) w =
    ap₂ ◌+◌
    (digit_odd (w % 2) (digit_lt w) ∙ ap (λ (b : Bool). cond b 1 0) (sym (bit_lowest w)))
    (ones_count n (w / 2) ∙ count_cong n _ _ (λ k h. bit_half k w))
    ∙ sym (count_front n (λ k. bit k w))

-- no more than there are numbers
pub count_le : (n : ℕ) (p : ℕ → Bool) → count n p ≤ n
unfolding count
count_le zero p = omega arith
count_le (suc n) p = by_test (p n) (λ e. rw e (omega (arith, count_le n p))) (λ e. rw e (omega (arith, count_le n p)))

-- ---- counts of two tests, one of which passes wherever the other does

pub count_le_of : (n : ℕ) (p q : ℕ → Bool) → ((k : ℕ) → k < n → p k ≡ true → q k ≡ true) → count n p ≤ count n q
unfolding count
count_le_of zero p q f = omega arith
count_le_of (suc n) p q f =
    let ih = count_le_of n p q (λ k h. f k (omega arith)) in
    by_test (p n)
    (λ e. rw (e, f n (omega arith) e) (omega (arith, ih)))
    (λ e. by_test (q n) (λ d. rw (e, d) (omega (arith, ih))) (λ d. rw (e, d) (omega (arith, ih))))

-- and somewhere alone: it is passed more often
pub count_lt_of : (n : ℕ) (p q : ℕ → Bool) → ((k : ℕ) → k < n → p k ≡ true → q k ≡ true) → (j : ℕ) → j < n → p j ≡ false → q j ≡ true
    → count n p < count n q
unfolding count
count_lt_of zero p q f j h a b = absurd (omega arith)
count_lt_of (suc n) p q f j h a b =
    below_suc (λ (i : ℕ). p i ≡ false → q i ≡ true → count (suc n) p < count (suc n) q) {n = n}
    (λ i l x y.
    let ih = count_lt_of n p q (λ k m. f k (omega arith)) i l x y in
    by_test (p n)
    (λ e. rw (e, f n (omega arith) e) (omega (arith, ih)))
    (λ e. by_test (q n) (λ d. rw (e, d) (omega (arith, ih))) (λ d. rw (e, d) (omega (arith, ih)))))
    (λ x y. let ih = count_le_of n p q (λ k m. f k (omega arith)) in rw (x, y) (omega (arith, ih)))
    j h a b
