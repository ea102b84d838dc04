-- Repeating one step: the pigeonhole, a code for the vectors that differ only under a mask, and how soon a repeated step meets what it ever meets.
-- Assumes nothing.
use mathlib.Core.Path.{◌≡◌, refl, sym, ap, ◌∙◌, subst}
use mathlib.Core.Logic.{◌⊎◌, inl, inr, ◌≢◌}
use mathlib.Core.Bool.{Bool, true, false, cond}
use Prim.Native.Nat.{ℕ, zero, suc, ◌+◌, ◌-◌, ◌*◌, ◌/◌, ◌%◌, ◌^◌, ◌≤◌, ◌<◌}
use native.Mathlib.Nat.{not-suc-le-zero, add-zero, add-suc, pow-suc, zero-add}
use native.Mathlib.Numerals.{one-add}
use native.Mathlib.Decide.{ℕ_discrete, dec_lt}
use native.Mathlib.Omega.{arith}
use lib.Dec.{ltb, lit<}
use lib.Arith.{lt-one, digits_lt, digits_div, digits_mod}
use lib.Count.{ones_in}
use borrow.Author.Tests.{ltb-true, ltb-false}
use Rattle.words.specs.Word.{odd, bit}
use Rattle.words.specs.Loop.{iterate}
use Rattle.words.proofs.BitLaws.{by_digit, digit_lt, bit_half, bit_lowest, from_halves, half_lt, odd_mod, odd_one}
use Rattle.words.proofs.BoolLaws.{by_test, clash}
use Rattle.words.proofs.LoopLaws.{below_suc}

-- ---- the pigeonhole

find : (n x : ℕ) (c : ℕ → ℕ) → ((i : ℕ) × (i < n) × (c i ≡ x)) ⊎ ((i : ℕ) → i < n → c i ≢ x)
find zero x c = inr (λ i h. absurd (not-suc-le-zero h))
find (suc n) x c = go (find n x c) (ℕ_discrete (c n) x)
  where
    go : ((i : ℕ) × (i < n) × (c i ≡ x)) ⊎ ((i : ℕ) → i < n → c i ≢ x) → Dec (c n ≡ x)
        → ((i : ℕ) × (i < suc n) × (c i ≡ x)) ⊎ ((i : ℕ) → i < suc n → c i ≢ x)
    go (inl r) d = inl (r.0, omega arith, r.2)
    go (inr f) (yes e) = inl (n, omega arith, e)
    go (inr f) (no ne) = inr (below_suc (λ (i : ℕ). c i ≢ x) {n = n} f ne)

-- two of the places 0 .. n hold the same
abbrev Twice : ℕ → (ℕ → ℕ) → Type 0
Twice n c = (i : ℕ) × (j : ℕ) × (i < j) × (j ≤ n) × (c i ≡ c j)

-- the numbers with x left out
skip : ℕ → ℕ → ℕ
skip x y = cond (ltb x y) (y - 1) y

skip_lt : (x y n : ℕ) → y < suc n → x < suc n → y ≢ x → skip x y < n
unfolding skip
skip_lt x y n hy hx ne =
    by_test (ltb x y)
    (λ e. let h : x < y = ltb-true x y e in subst (λ (b : Bool). cond b (y - 1) y < n) (sym e) (omega arith))
    (λ e. let h : y ≤ x = ltb-false x y e in subst (λ (b : Bool). cond b (y - 1) y < n) (sym e) (omega arith))

skip_inj : (x y z : ℕ) → y ≢ x → z ≢ x → skip x y ≡ skip x z → y ≡ z
unfolding skip
skip_inj x y z ny nz e =
    by_test (ltb x y)
    (λ p. by_test (ltb x z) (λ q. both p q) (λ q. mixed p q))
    (λ p. by_test (ltb x z) (λ q. mixed' p q) (λ q. neither p q))
  where
    both : ltb x y ≡ true → ltb x z ≡ true → y ≡ z
    both p q =
        let a : x < y = ltb-true x y p in
        let b : x < z = ltb-true x z q in
        let d : y - 1 ≡ z - 1 = sym (ap (λ (t : Bool). cond t (y - 1) y) p) ∙ e ∙ ap (λ (t : Bool). cond t (z - 1) z) q in omega arith

    mixed : ltb x y ≡ true → ltb x z ≡ false → y ≡ z
    mixed p q =
        let a : x < y = ltb-true x y p in
        let b : z ≤ x = ltb-false x z q in
        let d : y - 1 ≡ z = sym (ap (λ (t : Bool). cond t (y - 1) y) p) ∙ e ∙ ap (λ (t : Bool). cond t (z - 1) z) q in omega arith

    mixed' : ltb x y ≡ false → ltb x z ≡ true → y ≡ z
    mixed' p q =
        let a : y ≤ x = ltb-false x y p in
        let b : x < z = ltb-true x z q in
        let d : y ≡ z - 1 = sym (ap (λ (t : Bool). cond t (y - 1) y) p) ∙ e ∙ ap (λ (t : Bool). cond t (z - 1) z) q in omega arith

    neither : ltb x y ≡ false → ltb x z ≡ false → y ≡ z
    neither p q = sym (ap (λ (t : Bool). cond t (y - 1) y) p) ∙ e ∙ ap (λ (t : Bool). cond t (z - 1) z) q

-- n + 1 numbers below n are not all different
pub pigeonhole : (n : ℕ) (c : ℕ → ℕ) → ((i : ℕ) → i ≤ n → c i < n) → Twice n c
pigeonhole zero c h = absurd (not-suc-le-zero (h 0 (omega arith)))
pigeonhole (suc n) c h = go (find (suc n) (c (suc n)) c) (λ f. pigeonhole n (λ i. skip (c (suc n)) (c i)) (λ i l. skip_lt (c (suc n)) (c i) n (h i (omega arith)) (h (suc n) (omega arith)) (f i (omega arith))))
  where
    go : ((i : ℕ) × (i < suc n) × (c i ≡ c (suc n))) ⊎ ((i : ℕ) → i < suc n → c i ≢ c (suc n))
        → (((i : ℕ) → i < suc n → c i ≢ c (suc n)) → Twice n (λ i. skip (c (suc n)) (c i))) → Twice (suc n) c
    go (inl r) ih = (r.0, suc n, r.1, omega arith, r.2)
    go (inr f) ih =
        let t = ih f in
        (t.0, t.1, t.2, omega arith, skip_inj (c (suc n)) (c t.0) (c t.1) (f t.0 (omega arith)) (f t.1 (omega arith)) t.4)

-- ---- the bits of v under the mask u, pushed together

pub pack : ℕ → ℕ → ℕ → ℕ
pack zero u v = 0
pack (suc n) u v = let r = pack n (u / 2) (v / 2) in cond (odd u) (r * 2 + v % 2) r

-- a and b have the same bits outside u
abbrev pub Agree : ℕ → ℕ → ℕ → Type 0
Agree u a b = (k : ℕ) → bit k u ≡ false → bit k a ≡ bit k b

even_zero : (u : ℕ) → odd u ≡ false → u % 2 ≡ 0
unfolding odd
even_zero u e = by_digit (λ (x : ℕ). lib.Dec.eqb x 1 ≡ false → x ≡ 0) (λ q. refl) (λ q. clash refl q) (u % 2) (digit_lt u) e

pub pack_lt : (n u v : ℕ) → pack n u v < 2 ^ ones_in n u
unfolding pack ones_in
pack_lt zero u v = lit< tt
pack_lt (suc n) u v = by_test (odd u) (set (pack_lt n (u / 2) (v / 2))) (clear (pack_lt n (u / 2) (v / 2)))
  where
    r : ℕ
    r = pack n (u / 2) (v / 2)

    set : r < 2 ^ ones_in n (u / 2) → odd u ≡ true → cond (odd u) (r * 2 + v % 2) r < 2 ^ (u % 2 + ones_in n (u / 2))
    set ih e = rw (e, odd_one u e, one-add (ones_in n (u / 2)), pow-suc) (digits_lt ih (digit_lt v))

    clear : r < 2 ^ ones_in n (u / 2) → odd u ≡ false → cond (odd u) (r * 2 + v % 2) r < 2 ^ (u % 2 + ones_in n (u / 2))
    clear ih e = rw (e, even_zero u e, zero-add (ones_in n (u / 2))) ih

pack_set : (n u v : ℕ) → odd u ≡ true → pack (suc n) u v ≡ pack n (u / 2) (v / 2) * 2 + v % 2
unfolding pack
pack_set n u v e = rw e

pack_clear : (n u v : ℕ) → odd u ≡ false → pack (suc n) u v ≡ pack n (u / 2) (v / 2)
unfolding pack
pack_clear n u v e = rw e

half_agree : (u a b : ℕ) → Agree u a b → Agree (u / 2) (a / 2) (b / 2)
half_agree u a b g k e = bit_half k a ∙ g (suc k) (sym (bit_half k u) ∙ e) ∙ sym (bit_half k b)

-- the code tells apart the words that differ only under u
pub pack_inj : (n u a b : ℕ) → a < 2 ^ n → b < 2 ^ n → Agree u a b → pack n u a ≡ pack n u b → a ≡ b
pack_inj zero u a b ha hb g e = lt-one ha ∙ sym (lt-one hb)
pack_inj (suc n) u a b ha hb g e =
    let ih : pack n (u / 2) (a / 2) ≡ pack n (u / 2) (b / 2) → a / 2 ≡ b / 2
    = pack_inj n (u / 2) (a / 2) (b / 2) (half_lt n a ha) (half_lt n b hb) (half_agree u a b g) in
    by_test (odd u)
    (λ o.
    let q = sym (pack_set n u a o) ∙ e ∙ pack_set n u b o in
    from_halves a b
    (ih (sym (digits_div (pack n (u / 2) (a / 2)) (digit_lt a)) ∙ ap (λ (x : ℕ). x / 2) q ∙ digits_div (pack n (u / 2) (b / 2)) (digit_lt b)))
    (sym (digits_mod (pack n (u / 2) (a / 2)) (digit_lt a)) ∙ ap (λ (x : ℕ). x % 2) q ∙ digits_mod (pack n (u / 2) (b / 2)) (digit_lt b)))
    (λ o.
    from_halves a b (ih (sym (pack_clear n u a o) ∙ e ∙ pack_clear n u b o))
    (odd_mod a b (sym (bit_lowest a) ∙ g 0 (bit_lowest u ∙ o) ∙ bit_lowest b)))

-- ---- a repeated step

-- i times and then d times
pub iterate_add : (f : ℕ → ℕ) (x i d : ℕ) → iterate f (i + d) x ≡ iterate f d (iterate f i x)
unfolding iterate
iterate_add f x i zero = ap (λ (k : ℕ). iterate f k x) (add-zero i)
iterate_add f x i (suc d) = ap (λ (k : ℕ). iterate f k x) (add-suc i d) ∙ ap f (iterate_add f x i d)

module _ (f : ℕ → ℕ) (x : ℕ) where
  shift : (i j d : ℕ) → iterate f i x ≡ iterate f j x → iterate f (i + d) x ≡ iterate f (j + d) x
  shift i j d e = iterate_add f x i d ∙ ap (iterate f d) e ∙ sym (iterate_add f x j d)

  -- What a repeated step meets for the first time at t, it meets before it has made n values, if there are n codes for them.
  pub soon : (p : ℕ → Bool) (code : ℕ → ℕ) (n : ℕ) → ((k : ℕ) → code (iterate f k x) < n)
      → ((i j : ℕ) → code (iterate f i x) ≡ code (iterate f j x) → iterate f i x ≡ iterate f j x)
      → (t : ℕ) → p (iterate f t x) ≡ true → ((j : ℕ) → j < t → p (iterate f j x) ≡ false) → t < n
  soon p code n small inj t e before = go (dec_lt t n)
    where
      go : Dec (t < n) → t < n
      go (yes h) = h
      go (no nh) =
          let c = pigeonhole n (λ k. code (iterate f k x)) (λ i h. small i) in
          let d : ℕ = t - c.1 in
          let again : iterate f (c.0 + d) x ≡ iterate f (c.1 + d) x = shift c.0 c.1 d (inj c.0 c.1 c.4) in
          let at : c.1 + d ≡ t = omega arith in
          clash (ap p (again ∙ ap (λ (k : ℕ). iterate f k x) at) ∙ e) (before (c.0 + d) (omega arith))
