-- The laws of the loops of specs/Loop: `gather`, `word`, `some`, `all`, `first`, `listed`.
-- Assumes nothing.
use mathlib.Core.Path.{◌≡◌, refl, sym, ap, ap₂, ◌∙◌, subst}
use mathlib.Core.Bool.{Bool, true, false, cond, ◌&&◌, ◌||◌, true≢false}
use mathlib.Core.List.{List, [], ◌∷◌, ◌++◌, append_assoc}
use Prim.Native.Nat.{ℕ, zero, suc, ◌+◌, ◌-◌, ◌^◌, ◌≤◌, ◌<◌}
use native.Mathlib.Nat.{not-suc-le-zero, add-zero, add-suc, suc-add, zero-add, mod-eq_of_lt}
use native.Mathlib.Decide.{ℕ_discrete, dec_le}
use native.Mathlib.Numerals.{add-one}
use native.Mathlib.Omega.{arith}
use lib.Dec.{eqb, ltb}
use lib.Pow.{pow_pos, pow-lt}
use lib.Bits.{bit_or, or_lt, and_mask}
use lib.ListN.{length, get_or, set, drop, length-append, get_or-append}
use lib.Seq.{set_at, drop-cons, get_or-append-add}
use borrow.Author.Tests.{eq-eqb, ne_eqb, ltb-true, ltb-false}
use Rattle.words.specs.Word.{bit}
use Rattle.words.specs.Loop.{gather, bit_if, word, some, all, first_from, first, listed}
use Rattle.words.proofs.BoolLaws.{by_test, clash, or_true, and_true, and_false}
use Rattle.words.proofs.BitLaws.{bit_of_and, bit_of_or, bit_zero, bit_pow, no_bits}

-- ---- below a count: the last, or below

pub below_suc {ℓ} : (P : ℕ → Type ℓ) {n : ℕ} → ((k : ℕ) → k < n → P k) → P n → (k : ℕ) → k < suc n → P k
below_suc P {n} h p k l = go (ℕ_discrete k n)
  where
    go : Dec (k ≡ n) → P k
    go (yes e) = subst P (sym e) p
    go (no ne) = h k (omega arith)

-- ---- some, all

pub some_true : (n : ℕ) (p : ℕ → Bool) (k : ℕ) → k < n → p k ≡ true → some n p ≡ true
unfolding some
some_true zero p k h e = absurd (not-suc-le-zero h)
some_true (suc n) p k h e =
    below_suc (λ (i : ℕ). p i ≡ true → some n p || p n ≡ true) {n = n}
    (λ i l q. ap (λ (b : Bool). b || p n) (some_true n p i l q)) (λ q. ap (λ (b : Bool). some n p || b) q ∙ or_last (some n p)) k h e
  where
    or_last : (b : Bool) → b || true ≡ true
    or_last true = refl
    or_last false = refl

pub some_false : (n : ℕ) (p : ℕ → Bool) → ((k : ℕ) → k < n → p k ≡ false) → some n p ≡ false
unfolding some
some_false zero p h = refl
some_false (suc n) p h = ap₂ ◌||◌ (some_false n p (λ k l. h k (omega arith))) (h n (omega arith))

-- where some is true there is one, and the first of them can be had
pub some_false_at : (n : ℕ) (p : ℕ → Bool) → some n p ≡ false → (k : ℕ) → k < n → p k ≡ false
unfolding some
some_false_at n p e k h = by_test (p k) (λ t. clash (some_true n p k h t) e) (λ f. f)

pub some_at : (n : ℕ) (p : ℕ → Bool) → some n p ≡ true → (k : ℕ) × (k < n) × (p k ≡ true)
unfolding some
some_at zero p e = absurd (true≢false (sym e))
some_at (suc n) p e = go (some n p) refl (λ q. some_at n p q)
  where
    go : (b : Bool) → some n p ≡ b → (some n p ≡ true → (k : ℕ) × (k < n) × (p k ≡ true)) → (k : ℕ) × (k < suc n) × (p k ≡ true)
    go true q ih = let r = ih q in (r.0, omega arith, r.2)
    go false q ih = (n, omega arith, or_true (some n p) (p n) e q)

pub some_cong : (n : ℕ) (p q : ℕ → Bool) → ((k : ℕ) → k < n → p k ≡ q k) → some n p ≡ some n q
unfolding some
some_cong zero p q h = refl
some_cong (suc n) p q h = ap₂ ◌||◌ (some_cong n p q (λ k l. h k (omega arith))) (h n (omega arith))

pub all_true : (n : ℕ) (p : ℕ → Bool) → ((k : ℕ) → k < n → p k ≡ true) → all n p ≡ true
unfolding all
all_true zero p h = refl
all_true (suc n) p h = ap₂ ◌&&◌ (all_true n p (λ k l. h k (omega arith))) (h n (omega arith))

pub all_cong : (n : ℕ) (p q : ℕ → Bool) → ((k : ℕ) → k < n → p k ≡ q k) → all n p ≡ all n q
unfolding all
all_cong zero p q h = refl
all_cong (suc n) p q h = ap₂ ◌&&◌ (all_cong n p q (λ k l. h k (omega arith))) (h n (omega arith))

pub all_at : (n : ℕ) (p : ℕ → Bool) → all n p ≡ true → (k : ℕ) → k < n → p k ≡ true
unfolding all
all_at zero p e k h = absurd (not-suc-le-zero h)
all_at (suc n) p e k h =
    let b = and_true (all n p) (p n) e in
    below_suc (λ (i : ℕ). p i ≡ true) {n = n} (all_at n p b.0) b.1 k h

-- ---- first

pub first_from_hit : (c k : ℕ) (p : ℕ → Bool) → p k ≡ true → first_from (suc c) k p ≡ k
unfolding first_from
first_from_hit c k p e = ap (λ (b : Bool). cond b k (first_from c (suc k) p)) e

pub first_from_miss : (c k : ℕ) (p : ℕ → Bool) → p k ≡ false → first_from (suc c) k p ≡ first_from c (suc k) p
unfolding first_from
first_from_miss c k p e = ap (λ (b : Bool). cond b k (first_from c (suc k) p)) e

-- The first is at i, if p holds there and nowhere before.
first_from_is : (c k i : ℕ) (p : ℕ → Bool) → k ≤ i → i < k + c → p i ≡ true → ((j : ℕ) → j < i → p j ≡ false) → first_from c k p ≡ i
first_from_is zero k i p l h t f = absurd (omega arith)
first_from_is (suc c) k i p l h t f =
    by_test (p k)
    (λ q. first_from_hit c k p q ∙ go q (ℕ_discrete k i))
    (λ q. first_from_miss c k p q ∙ first_from_is c (suc k) i p (far q (ℕ_discrete k i)) (omega arith) t f)
  where
    go : p k ≡ true → Dec (k ≡ i) → k ≡ i
    go q (yes e) = e
    go q (no ne) = clash q (f k (omega arith))

    far : p k ≡ false → Dec (k ≡ i) → suc k ≤ i
    far q (yes e) = clash (ap p e ∙ t) q
    far q (no ne) = omega arith

pub first_is : (n i : ℕ) (p : ℕ → Bool) → i < n → p i ≡ true → ((j : ℕ) → j < i → p j ≡ false) → first n p ≡ i
unfolding first
first_is n i p h t f = first_from_is n 0 i p (omega arith) (omega arith) t f

first_from_none : (c k : ℕ) (p : ℕ → Bool) → ((j : ℕ) → j < k + c → p j ≡ false) → first_from c k p ≡ k + c
unfolding first_from
first_from_none zero k p f = sym (add-zero k)
first_from_none (suc c) k p f =
    first_from_miss c k p (f k (omega arith)) ∙ first_from_none c (suc k) p (λ j h. f j (omega arith)) ∙ omega arith

pub first_none : (n : ℕ) (p : ℕ → Bool) → ((j : ℕ) → j < n → p j ≡ false) → first n p ≡ n
unfolding first
first_none n p f = first_from_none n 0 p (λ j h. f j (omega arith)) ∙ zero-add n

-- What the first is: at most n; nothing before it; and p there, if it is below n.
pub record First (n : ℕ) (p : ℕ → Bool) (i : ℕ) : Type 0 where
  pub within : i ≤ n
  pub before : (j : ℕ) → j < i → p j ≡ false
  pub here : i < n → p i ≡ true

from : (c k : ℕ) (p : ℕ → Bool) → ((j : ℕ) → j < k → p j ≡ false) → First (k + c) p (first_from c k p)
unfolding first_from
from zero k p f = record { within = omega arith; before = f; here = λ h. absurd (omega arith) }
from (suc c) k p f =
    by_test (p k)
    (λ q. subst (First (k + suc c) p) (sym (first_from_hit c k p q)) (record { within = omega arith; before = f; here = λ h. q }))
    (λ q. subst (First (k + suc c) p) (sym (first_from_miss c k p q))
    (subst (λ (m : ℕ). First m p (first_from c (suc k) p)) (suc-add k c ∙ sym (add-suc k c))
    (from c (suc k) p (below_suc (λ (j : ℕ). p j ≡ false) {n = k} f q))))

pub first_spec : (n : ℕ) (p : ℕ → Bool) → First n p (first n p)
unfolding first
first_spec n p = subst (λ (m : ℕ). First m p (first_from n 0 p)) (zero-add n) (from n 0 p (λ j h. absurd (not-suc-le-zero h)))

-- where p holds at all, there is a first place
pub least : (p : ℕ → Bool) (t : ℕ) → p t ≡ true → (k : ℕ) × (k ≤ t) × (p k ≡ true) × ((j : ℕ) → j < k → p j ≡ false)
least p t e = go (first (suc t) p) (first_spec (suc t) p)
  where
    go : (k : ℕ) → First (suc t) p k → (k : ℕ) × (k ≤ t) × (p k ≡ true) × ((j : ℕ) → j < k → p j ≡ false)
    go k f = low (dec_le k t)
      where
        low : Dec (k ≤ t) → (k : ℕ) × (k ≤ t) × (p k ≡ true) × ((j : ℕ) → j < k → p j ≡ false)
        low (yes h) = (k, h, f.here (omega arith), f.before)
        low (no nh) = clash e (f.before t (omega arith))

pub first_cong : (n : ℕ) (p q : ℕ → Bool) → ((k : ℕ) → k < n → p k ≡ q k) → first n p ≡ first n q
first_cong n p q e =
    let s = first_spec n q in
    let w = s.within in
    by_test (ltb (first n q) n)
    (λ t. let l = ltb-true (first n q) n t in first_is n (first n q) p l (e (first n q) l ∙ s.here l) (λ j h. e j (omega arith) ∙ s.before j h))
    (λ t. let l = ltb-false (first n q) n t in first_none n p (λ j h. e j h ∙ s.before j (omega arith)) ∙ omega arith)

pub some_first : (n : ℕ) (p : ℕ → Bool) → some n p ≡ true → (k : ℕ) × (k < n) × (p k ≡ true) × ((j : ℕ) → j < k → p j ≡ false)
some_first n p e = let a = some_at n p e in let l = least p a.0 a.2 in (l.0, omega arith, l.2, l.3)

-- ---- gather and word

pub bit_gather : (k n : ℕ) (f : ℕ → ℕ) → bit k (gather n f) ≡ some n (λ i. bit k (f i))
unfolding gather some
bit_gather k zero f = bit_zero k
bit_gather k (suc n) f = bit_of_or k (gather n f) (f n) ∙ ap (λ (b : Bool). b || bit k (f n)) (bit_gather k n f)

pub gather_lt : (w n : ℕ) (f : ℕ → ℕ) → ((i : ℕ) → i < n → f i < 2 ^ w) → gather n f < 2 ^ w
unfolding gather
gather_lt w zero f h = pow_pos w
gather_lt w (suc n) f h = or_lt w (gather n f) (f n) (gather_lt w n f (λ i l. h i (omega arith))) (h n (omega arith))

pub gather_cong : (n : ℕ) (f g : ℕ → ℕ) → ((k : ℕ) → k < n → f k ≡ g k) → gather n f ≡ gather n g
unfolding gather
gather_cong zero f g h = refl
gather_cong (suc n) f g h = ap₂ bit_or (gather_cong n f g (λ k l. h k (omega arith))) (h n (omega arith))

pub bit_cond : (b : Bool) (k a : ℕ) → bit k (cond b a 0) ≡ b && bit k a
bit_cond true k a = refl
bit_cond false k a = bit_zero k

bit_if_law : (p : ℕ → Bool) (k i : ℕ) → bit k (bit_if p i) ≡ p i && eqb k i
unfolding bit_if
bit_if_law p k i = bit_cond (p i) k (2 ^ i) ∙ ap (λ (b : Bool). p i && b) (bit_pow k i)

pub bit_word : (k n : ℕ) (p : ℕ → Bool) → k < n → bit k (word n p) ≡ p k
unfolding word
bit_word k n p h =
    bit_gather k n (bit_if p)
    ∙ by_test (p k)
    (λ q. some_true n (λ i. bit k (bit_if p i)) k h (bit_if_law p k k ∙ ap₂ ◌&&◌ q (eq-eqb k k refl)) ∙ sym q)
    (λ q. some_false n (λ i. bit k (bit_if p i)) (λ i l. bit_if_law p k i ∙ go i q (ℕ_discrete k i)) ∙ sym q)
  where
    go : (i : ℕ) → p k ≡ false → Dec (k ≡ i) → p i && eqb k i ≡ false
    go i q (yes e) = ap (λ (b : Bool). b && eqb k i) (ap p (sym e) ∙ q)
    go i q (no ne) = and_false (p i) (eqb k i) (ne_eqb k i ne)

pub word_cong : (n : ℕ) (p q : ℕ → Bool) → ((k : ℕ) → k < n → p k ≡ q k) → word n p ≡ word n q
unfolding word bit_if
word_cong n p q h = gather_cong n (bit_if p) (bit_if q) (λ k l. ap (λ (b : Bool). cond b (2 ^ k) 0) (h k l))

pub word_lt : (n : ℕ) (p : ℕ → Bool) → word n p < 2 ^ n
unfolding word bit_if
word_lt n p = gather_lt n n (bit_if p) (λ i h. small i h (p i))
  where
    small : (i : ℕ) → i < n → (b : Bool) → cond b (2 ^ i) 0 < 2 ^ n
    small i h true = pow-lt h
    small i h false = pow_pos n

-- the low bits are set
pub bit_low : (n k : ℕ) → k < n → bit k (2 ^ n - 1) ≡ true
bit_low n k h =
    sym (ap (λ (b : Bool). b && bit k (2 ^ n - 1)) own) ∙ sym (bit_of_and k (2 ^ k) (2 ^ n - 1))
    ∙ ap (bit k) (and_mask (2 ^ k) n ∙ mod-eq_of_lt (pow-lt h)) ∙ own
  where
    own : bit k (2 ^ k) ≡ true
    own = bit_pow k k ∙ eq-eqb k k refl

-- a word that is not 0 has a bit
pub some_bit : (n w : ℕ) → w < 2 ^ n → zero < w → (k : ℕ) × (k < n) × (bit k w ≡ true)
some_bit n w h p =
    by_test (some n (λ k. bit k w)) (some_at n (λ k. bit k w))
    (λ e. let z : w ≡ 0 = no_bits n w h (some_false_at n (λ k. bit k w) e) in absurd (omega arith))

-- ---- what adds nothing from n on

still_on : {A : Type 0} (whole : ℕ → A) (n d : ℕ) → ((k : ℕ) → n ≤ k → k < n + d → whole (k + 1) ≡ whole k) → whole (n + d) ≡ whole n
still_on whole n zero same = ap whole (add-zero n)
still_on whole n (suc d) same =
    let e : n + suc d ≡ n + d + 1 = omega arith in
    ap whole e ∙ same (n + d) (omega arith) (omega arith) ∙ still_on whole n d (λ k l h. same k l (omega arith))

-- a loop whose turns from n on change nothing
pub still : {A : Type 0} (whole : ℕ → A) (n m : ℕ) → n ≤ m → ((k : ℕ) → n ≤ k → k < m → whole (k + 1) ≡ whole k) → whole m ≡ whole n
still whole n m l same =
    let e : m ≡ n + (m - n) = omega arith in
    ap whole e ∙ still_on whole n (m - n) (λ k h b. same k h (omega arith))

-- ---- listed

module _ {A : Type 0} (f : ℕ → A) where
  pub listed_none : [] ≡ listed 0 f
  unfolding listed
  listed_none = refl

  pub listed_more : (n : ℕ) → listed (n + 1) f ≡ listed n f ++ (f n ∷ [])
  unfolding listed
  listed_more n = ap (λ (k : ℕ). listed k f) (add-one n)

  pub listed_long : (n : ℕ) → length (listed n f) ≡ n
  unfolding listed
  listed_long zero = refl
  listed_long (suc n) = length-append (listed n f) (f n ∷ []) ∙ ap (λ (k : ℕ). k + 1) (listed_long n) ∙ add-one n

  -- the last element of one more
  last_listed : (d : A) (n : ℕ) → get_or (listed n f ++ (f n ∷ [])) n d ≡ f n
  last_listed d n =
      ap (λ (m : ℕ). get_or (listed n f ++ (f n ∷ [])) m d) (sym (add-zero n) ∙ ap (λ (m : ℕ). m + 0) (sym (listed_long n)))
      ∙ get_or-append-add (listed n f) (f n ∷ []) 0 d

  pub get_d_listed : (d : A) (n i : ℕ) → i < n → get_or (listed n f) i d ≡ f i
  unfolding listed
  get_d_listed d zero i h = absurd (not-suc-le-zero h)
  get_d_listed d (suc n) i h =
      below_suc (λ (k : ℕ). get_or (listed n f ++ (f n ∷ [])) k d ≡ f k) {n = n}
      (λ k l. get_or-append (listed n f) (f n ∷ []) d k (subst (λ (m : ℕ). k < m) (sym (listed_long n)) l) ∙ get_d_listed d n k l)
      (last_listed d n) i h

  -- one element more is stored over an old one
  pub listed_store : (d : A) (n : ℕ) (x : A) (old : List A) → n < length old → x ≡ f n
      → set (listed n f ++ drop n old) n x ≡ listed (n + 1) f ++ drop (n + 1) old
  listed_store d n x old h ex =
      ap (λ (rest : List A). set (listed n f ++ rest) n x) (drop-cons old n d h)
      ∙ set_at (listed n f) (get_or old n d) (drop (suc n) old) x n (listed_long n)
      ∙ (λ i. listed n f ++ (ex i ∷ drop (sym (add-one n) i) old))
      ∙ sym (append_assoc (listed n f) (f n ∷ []) (drop (n + 1) old))
      ∙ ap (λ (l : List A). l ++ drop (n + 1) old) (sym (listed_more n))

pub listed_cong : {A : Type 0} (n : ℕ) (f g : ℕ → A) → ((k : ℕ) → k < n → f k ≡ g k) → listed n f ≡ listed n g
unfolding listed
listed_cong zero f g h = refl
listed_cong (suc n) f g h = ap₂ (λ l x. l ++ (x ∷ [])) (listed_cong n f g (λ k l. h k (omega arith))) (h n (omega arith))
