-- What the bits of a word are: the bit of each operation's result, and that a word is told by its bits.
-- Assumes nothing.
use mathlib.Core.Path.{◌≡◌, refl, sym, ap, ap₂, ◌∙◌, subst}
use mathlib.Core.Bool.{Bool, true, false, not, ◌&&◌, ◌||◌}
use Prim.Native.Nat.{ℕ, zero, suc, ◌+◌, ◌*◌, ◌/◌, ◌%◌, ◌^◌, ◌≤◌, ◌<◌, min, max}
use native.Mathlib.Nat.{mod-lt, div-one, div-eq_of_lt, div-add-mod', pow-suc, mul-div_cancel, mul-mod_left, le_of_suc-le-suc, not-suc-le-zero, lt_of_le_of_lt}
use native.Mathlib.Numerals.{add-one, one-add}
use native.Mathlib.Decide.{dec_lt}
use native.Mathlib.Omega.{arith}
use lib.Dec.{eqb, eqb-zero-suc, eqb-suc-zero, eqb-suc-suc, lit<}
use lib.Arith.{digits_mod, lt-one}
use lib.Pow.{shr-shr, pow_mono, pow_pos, shr_lt}
use lib.Bits.{and_le_r, or_lt, bit_and, bit_or, bit_xor, differ, and_step, or_step, xor_step, and_shr, or_shr, xor_shr, and_mask, and_mod}
use borrow.Author.Tests.{eqb-true, eq-eqb, ne_eqb}
use Rattle.words.proofs.BoolLaws.{clash, and_true, same_truth}
use Rattle.words.specs.Word.{odd, bit, without, meets}

-- a digit is 0 or 1
pub by_digit : (P : ℕ → Type 0) → P 0 → P 1 → (x : ℕ) → x < 2 → P x
by_digit P z o zero h = z
by_digit P z o (suc zero) h = o
by_digit P z o (suc (suc x)) h = absurd (not-suc-le-zero (le_of_suc-le-suc (le_of_suc-le-suc h)))

pub digit_lt : (x : ℕ) → x % 2 < 2
digit_lt x = mod-lt x (lit< tt)

-- one bit is set in just one of the two
abbrev pub xorb : Bool → Bool → Bool
xorb true b = not b
xorb false b = b

-- an operation on words whose lowest digit is f of the lowest digits, and which shifts through, has at each bit what f does
module _ (op f : ℕ → ℕ → ℕ) (g : Bool → Bool → Bool)
    (step : (a b : ℕ) → op a b ≡ op (a / 2) (b / 2) * 2 + f (a % 2) (b % 2))
    (shr : (a b k : ℕ) → op a b / 2 ^ k ≡ op (a / 2 ^ k) (b / 2 ^ k))
    (table : (x : ℕ) → x < 2 → (y : ℕ) → y < 2 → (f x y < 2) × (eqb (f x y) 1 ≡ g (eqb x 1) (eqb y 1))) where
  odd_op : (a b : ℕ) → odd (op a b) ≡ g (odd a) (odd b)
  unfolding odd
  odd_op a b =
      let t = table (a % 2) (digit_lt a) (b % 2) (digit_lt b) in
      ap (λ (x : ℕ). eqb (x % 2) 1) (step a b) ∙ ap (λ (x : ℕ). eqb x 1) (digits_mod (op (a / 2) (b / 2)) t.0) ∙ t.1

  bit_op : (k a b : ℕ) → bit k (op a b) ≡ g (bit k a) (bit k b)
  unfolding bit
  bit_op k a b = ap odd (shr a b k) ∙ odd_op (a / 2 ^ k) (b / 2 ^ k)

abbrev Table : (ℕ → ℕ → ℕ) → (Bool → Bool → Bool) → ℕ → ℕ → Type 0
Table f g x y = (f x y < 2) × (eqb (f x y) 1 ≡ g (eqb x 1) (eqb y 1))

by_digits : (f : ℕ → ℕ → ℕ) (g : Bool → Bool → Bool) → Table f g 0 0 → Table f g 0 1 → Table f g 1 0 → Table f g 1 1
    → (x : ℕ) → x < 2 → (y : ℕ) → y < 2 → Table f g x y
by_digits f g a b c d =
    by_digit (λ (x : ℕ). (y : ℕ) → y < 2 → Table f g x y)
    (by_digit (λ (y : ℕ). Table f g 0 y) a b) (by_digit (λ (y : ℕ). Table f g 1 y) c d)

pub bit_of_and : (k a b : ℕ) → bit k (bit_and a b) ≡ bit k a && bit k b
bit_of_and = bit_op bit_and min ◌&&◌ and_step and_shr (by_digits min ◌&&◌ (lit< tt, refl) (lit< tt, refl) (lit< tt, refl) (lit< tt, refl))

pub bit_of_or : (k a b : ℕ) → bit k (bit_or a b) ≡ bit k a || bit k b
bit_of_or = bit_op bit_or max ◌||◌ or_step or_shr (by_digits max ◌||◌ (lit< tt, refl) (lit< tt, refl) (lit< tt, refl) (lit< tt, refl))

pub bit_of_xor : (k a b : ℕ) → bit k (bit_xor a b) ≡ xorb (bit k a) (bit k b)
bit_of_xor = bit_op bit_xor differ xorb xor_step xor_shr (by_digits differ xorb (lit< tt, refl) (lit< tt, refl) (lit< tt, refl) (lit< tt, refl))

xor_and : (a b : Bool) → xorb a (a && b) ≡ a && not b
xor_and true b = refl
xor_and false b = refl

pub bit_without : (k a b : ℕ) → bit k (without a b) ≡ bit k a && not (bit k b)
unfolding without
bit_without k a b = bit_of_xor k a (bit_and a b) ∙ ap (xorb (bit k a)) (bit_of_and k a b) ∙ xor_and (bit k a) (bit k b)

-- bit k as code tells it: the lowest one of the word shifted by k
pub bit_shifted : (k w : ℕ) → eqb (bit_and (w / 2 ^ k) 1) 1 ≡ bit k w
unfolding bit odd
bit_shifted k w = ap (λ (x : ℕ). eqb x 1) (and_mask (w / 2 ^ k) 1)

-- a word below 2 ^ n has no bit from n on
pub bit_above : (n k w : ℕ) → w < 2 ^ n → n ≤ k → bit k w ≡ false
unfolding bit odd
bit_above n k w h l =
    let small : w < 2 ^ k = omega (arith, pow_mono l) in
    ap odd (div-eq_of_lt small)

-- so its bits are below n
pub bit_below : (n k w : ℕ) → w < 2 ^ n → bit k w ≡ true → k < n
bit_below n k w h e = go (dec_lt k n)
  where
    go : Dec (k < n) → k < n
    go (yes l) = l
    go (no nl) = clash e (bit_above n k w h (omega arith))

pub bit_zero : (k : ℕ) → bit k 0 ≡ false
bit_zero k = bit_above 0 k 0 (lit< tt) (omega arith)

-- the bits of the half are those from 1 on
pub bit_half : (k w : ℕ) → bit k (w / 2) ≡ bit (suc k) w
unfolding bit
bit_half k w = ap odd (shr-shr w 1 k ∙ ap (λ (x : ℕ). w / 2 ^ x) (one-add k))

pub bit_lowest : (w : ℕ) → bit 0 w ≡ odd w
unfolding bit
bit_lowest w = ap odd (div-one w)

odd_digit : (x : ℕ) → x < 2 → (y : ℕ) → y < 2 → eqb x 1 ≡ eqb y 1 → x ≡ y
odd_digit =
    by_digit (λ (x : ℕ). (y : ℕ) → y < 2 → eqb x 1 ≡ eqb y 1 → x ≡ y)
    (by_digit (λ (y : ℕ). eqb 0 1 ≡ eqb y 1 → 0 ≡ y) (λ e. refl) (λ e. eqb-true 0 1 e))
    (by_digit (λ (y : ℕ). eqb 1 1 ≡ eqb y 1 → 1 ≡ y) (λ e. sym (eqb-true 0 1 (sym e))) (λ e. refl))

pub odd_mod : (a b : ℕ) → odd a ≡ odd b → a % 2 ≡ b % 2
unfolding odd
odd_mod a b e = odd_digit (a % 2) (digit_lt a) (b % 2) (digit_lt b) e

pub from_halves : (a b : ℕ) → a / 2 ≡ b / 2 → a % 2 ≡ b % 2 → a ≡ b
from_halves a b h l = sym (div-add-mod' a 2) ∙ ap₂ (λ (x y : ℕ). x * 2 + y) h l ∙ div-add-mod' b 2

pub half_lt : (n w : ℕ) → w < 2 ^ suc n → w / 2 < 2 ^ n
half_lt n w h = shr_lt n 1 (subst (λ (x : ℕ). w < 2 ^ x) (sym (add-one n)) h)

-- two words of n bits with the same bits are the same
pub same_bits : (n a b : ℕ) → a < 2 ^ n → b < 2 ^ n → ((k : ℕ) → k < n → bit k a ≡ bit k b) → a ≡ b
same_bits zero a b ha hb e = lt-one ha ∙ sym (lt-one hb)
same_bits (suc n) a b ha hb e =
    from_halves a b
    (same_bits n (a / 2) (b / 2) (half_lt n a ha) (half_lt n b hb) (λ k h. bit_half k a ∙ e (suc k) (omega arith) ∙ sym (bit_half k b)))
    (odd_mod a b (sym (bit_lowest a) ∙ e 0 (omega arith) ∙ bit_lowest b))

-- a word whose lowest bit is set
pub odd_one : (u : ℕ) → odd u ≡ true → u % 2 ≡ 1
unfolding odd
odd_one u e = eqb-true (u % 2) 1 e

-- the one bit of a power of two
pub bit_pow : (k n : ℕ) → bit k (2 ^ n) ≡ eqb k n
unfolding bit odd
bit_pow zero zero = refl
bit_pow zero (suc n) =
    bit_lowest (2 ^ suc n) ∙ ap (λ (x : ℕ). eqb (x % 2) 1) (pow-suc 2 n) ∙ ap (λ (x : ℕ). eqb x 1) (mul-mod_left (2 ^ n) 2) ∙ sym (eqb-zero-suc n)
bit_pow (suc k) zero = bit_above 1 (suc k) 1 (lit< tt) (omega arith) ∙ sym (eqb-suc-zero k)
bit_pow (suc k) (suc n) =
    sym (bit_half k (2 ^ suc n)) ∙ ap (bit k) (ap (λ (x : ℕ). x / 2) (pow-suc 2 n) ∙ mul-div_cancel (2 ^ n) (lit< tt)) ∙ bit_pow k n ∙ sym (eqb-suc-suc k n)

-- ---- what `meets` means, bit by bit

bool_eq : (a b : Bool) → (b ≡ true → a ≡ true) → a && b ≡ b
bool_eq true b h = refl
bool_eq false true h = h refl
bool_eq false false h = refl

bool_no : (a b : Bool) → (b ≡ true → a ≡ false) → a && b ≡ false
bool_no true true h = h refl
bool_no true false h = refl
bool_no false b h = refl

-- a word of n bits is 0, if it has no bit
pub no_bits : (n a : ℕ) → a < 2 ^ n → ((k : ℕ) → k < n → bit k a ≡ false) → a ≡ 0
no_bits n a h f = same_bits n a 0 h (pow_pos n) (λ k l. f k l ∙ sym (bit_zero k))

and_lt_r : (n a b : ℕ) → b < 2 ^ n → bit_and a b < 2 ^ n
and_lt_r n a b h = lt_of_le_of_lt (and_le_r a b) h

pub bits_meet : (n plain negated w : ℕ) → plain < 2 ^ n → negated < 2 ^ n → ((k : ℕ) → bit k plain ≡ true → bit k w ≡ true)
    → ((k : ℕ) → bit k negated ≡ true → bit k w ≡ false) → meets plain negated w ≡ true
unfolding meets
bits_meet n p q w hp hq f g =
    ap₂ ◌&&◌
    (eq-eqb (bit_and w p) p (same_bits n (bit_and w p) p (and_lt_r n w p hp) hp (λ k l. bit_of_and k w p ∙ bool_eq (bit k w) (bit k p) (f k))))
    (eq-eqb (bit_and w q) 0 (no_bits n (bit_and w q) (and_lt_r n w q hq) (λ k l. bit_of_and k w q ∙ bool_no (bit k w) (bit k q) (g k))))

bool_off : (a b : Bool) → a && b ≡ false → b ≡ true → a ≡ false
bool_off true b e q = sym q ∙ e
bool_off false b e q = refl

pub meet_plain : (plain negated w : ℕ) → meets plain negated w ≡ true → (k : ℕ) → bit k plain ≡ true → bit k w ≡ true
unfolding meets
meet_plain p q w e k b =
    let same = eqb-true (bit_and w p) p (and_true (eqb (bit_and w p) p) (eqb (bit_and w q) 0) e).0 in
    (and_true (bit k w) (bit k p) (sym (bit_of_and k w p) ∙ ap (bit k) same ∙ b)).0

pub meet_negated : (plain negated w : ℕ) → meets plain negated w ≡ true → (k : ℕ) → bit k negated ≡ true → bit k w ≡ false
unfolding meets
meet_negated p q w e k b =
    let none = eqb-true (bit_and w q) 0 (and_true (eqb (bit_and w p) p) (eqb (bit_and w q) 0) e).1 in
    bool_off (bit k w) (bit k q) (sym (bit_of_and k w q) ∙ ap (bit k) none ∙ bit_zero k) b

-- one test does for both, where no point is in both masks

together : (w p q : Bool) → (p ≡ true → w ≡ true) → (q ≡ true → w ≡ false) → w && (p || q) ≡ p
together true true q f g = refl
together true false true f g = g refl
together true false false f g = refl
together false true q f g = f refl
together false false q f g = refl

apart_plain : (w p q : Bool) → w && (p || q) ≡ p → p ≡ true → w ≡ true
apart_plain true p q e t = refl
apart_plain false p q e t = e ∙ t

apart_negated : (w p q : Bool) → w && (p || q) ≡ p → p && q ≡ false → q ≡ true → w ≡ false
apart_negated true true q e o t = sym t ∙ o
apart_negated true false q e o t = sym t ∙ e
apart_negated false p q e o t = refl

pub meets_once : (n plain negated w : ℕ) → plain < 2 ^ n → negated < 2 ^ n → bit_and plain negated ≡ 0
    → meets plain negated w ≡ eqb (bit_and w (bit_or plain negated)) plain
meets_once n p q w hp hq once =
    same_truth (meets p q w) (eqb (bit_and w (bit_or p q)) p)
    (λ e. eq-eqb (bit_and w (bit_or p q)) p (same_bits n (bit_and w (bit_or p q)) p (and_lt_r n w (bit_or p q) (or_lt n p q hp hq)) hp
    (λ k l. row k ∙ together (bit k w) (bit k p) (bit k q) (meet_plain p q w e k) (meet_negated p q w e k))))
    (λ e. let bits : (k : ℕ) → bit k w && (bit k p || bit k q) ≡ bit k p = λ k. sym (row k) ∙ ap (bit k) (eqb-true (bit_and w (bit_or p q)) p e) in
    bits_meet n p q w hp hq (λ k b. apart_plain (bit k w) (bit k p) (bit k q) (bits k) b)
    (λ k b. apart_negated (bit k w) (bit k p) (bit k q) (bits k) (sym (bit_of_and k p q) ∙ ap (bit k) once ∙ bit_zero k) b))
  where
    row : (k : ℕ) → bit k (bit_and w (bit_or p q)) ≡ bit k w && (bit k p || bit k q)
    row k = bit_of_and k w (bit_or p q) ∙ ap (λ (b : Bool). bit k w && b) (bit_of_or k p q)

-- ---- `meets`, by the way that its first test went

pub meets_rest : (p n w : ℕ) → bit_and w p ≡ p → eqb (bit_and w n) 0 ≡ meets p n w
unfolding meets
meets_rest p n w h = ap (λ (b : Bool). b && eqb (bit_and w n) 0) (sym (eq-eqb (bit_and w p) p h))

pub meets_not : (p n w : ℕ) → (bit_and w p ≡ p → ⊥) → false ≡ meets p n w
unfolding meets
meets_not p n w h = ap (λ (b : Bool). b && eqb (bit_and w n) 0) (sym (ne_eqb (bit_and w p) p h))

-- ---- a word in two parts: its low three bits, and the others

-- two words are the same where both parts are
pub same_parts : (x y : ℕ) → eqb x y ≡ (eqb (x / 8) (y / 8) && eqb (x % 8) (y % 8))
same_parts x y =
    same_truth (eqb x y) (eqb (x / 8) (y / 8) && eqb (x % 8) (y % 8))
    (λ e. let h = eqb-true x y e in
    ap₂ ◌&&◌ (eq-eqb (x / 8) (y / 8) (ap (λ (z : ℕ). z / 8) h)) (eq-eqb (x % 8) (y % 8) (ap (λ (z : ℕ). z % 8) h)))
    (λ e. let b = and_true (eqb (x / 8) (y / 8)) (eqb (x % 8) (y % 8)) e in
    let h = eqb-true (x / 8) (y / 8) b.0 in
    let l = eqb-true (x % 8) (y % 8) b.1 in
    eq-eqb x y (omega (arith, h, l)))

-- a word has what is asked of it where both of its parts have
pub split_eight : (v n p : ℕ) → eqb (bit_and v n) p ≡ (eqb (bit_and (v / 8) (n / 8)) (p / 8) && eqb (bit_and (v % 8) (n % 8)) (p % 8))
split_eight v n p =
    same_parts (bit_and v n) p
    ∙ ap₂ (λ (h l : ℕ). eqb h (p / 8) && eqb l (p % 8)) (and_shr v n 3) (and_mod v n 3)
