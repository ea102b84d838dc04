-- Eight read words in a row: what their literals of read points 0 to 2 ask for and what the others do make the mask of the active constraints, and the latter is
-- the same at all eight.
-- Assumes nothing.
use mathlib.Core.Path.{◌≡◌, refl, sym, ap, ap₂, ◌∙◌}
use mathlib.Core.Bool.{Bool, true, false, cond, ◌&&◌}
use mathlib.Core.List.{List}
use Prim.Native.Nat.{ℕ, ◌+◌, ◌/◌, ◌%◌, ◌^◌, ◌<◌, min}
use native.Mathlib.Nat.{mod-lt, lt_of_le_of_lt}
use native.Mathlib.Omega.{arith}
use lib.Dec.{eqb, lit<}
use lib.ListN.{get_or}
use lib.Bits.{bit_and, and_le_r}
use borrow.Author.Tests.{eq-eqb, eqb-false}
use Rattle.words.specs.Loop.{word}
use Rattle.words.proofs.BoolLaws.{by_test}
use Rattle.words.proofs.BitLaws.{bit_of_and, same_bits, split_eight}
use Rattle.words.proofs.LoopLaws.{bit_word, word_lt, word_cong, get_d_listed}
use Rattle.scan.specs.declared.set.Set.{Set}
use Rattle.scan.specs.declared.columns.Columns.{Columns}
use Rattle.scan.specs.Set.{most_constraints}
use Rattle.scan.specs.Shape.{well_formed}
use Rattle.scan.specs.Active.{active_of}
use Rattle.scan.specs.way.Columns.{columns_of, entry_true, active_by}
use Rattle.scan.specs.way.Block.{low_asked, high_asked, active_low, active_high, lows_of, high_at, active_in}
use Rattle.scan.proofs.ActiveLaws.{made_active}

-- words of tests, of which both pass
word_and : (n : ℕ) (p q : ℕ → Bool) → bit_and (word n p) (word n q) ≡ word n (λ k. p k && q k)
word_and n p q =
    same_bits n (bit_and (word n p) (word n q)) (word n (λ k. p k && q k)) (and_lt n (word n p) (word n q) (word_lt n q)) (word_lt n (λ k. p k && q k))
    (λ k h. bit_of_and k (word n p) (word n q) ∙ ap₂ ◌&&◌ (bit_word k n p h) (bit_word k n q h) ∙ sym (bit_word k n (λ i. p i && q i) h))
  where
    and_lt : (n a b : ℕ) → b < 2 ^ n → bit_and a b < 2 ^ n
    and_lt n a b h = lt_of_le_of_lt (and_le_r a b) h

module _ (plain named : List ℕ) (m : ℕ) where
  -- a constraint is active where both parts of its read literals are true
  asked_parts : (w i : ℕ) → high_asked plain named w i && low_asked plain named w i ≡ entry_true plain named w i
  unfolding high_asked low_asked entry_true
  asked_parts w i = sym (split_eight w (get_or named i 0) (get_or plain i 0))

  pub active_parts : (w : ℕ) → bit_and (active_high plain named m w) (active_low plain named m w) ≡ active_by plain named m w
  unfolding active_high active_low active_by
  active_parts w =
      word_and (min m most_constraints) (high_asked plain named w) (low_asked plain named w)
      ∙ word_cong (min m most_constraints) _ _ (λ i h. asked_parts w i)

  -- what literals of read points 0 to 2 ask for is looked up by these alone
  low_is : (w : ℕ) → active_low plain named m (w % 8) ≡ active_low plain named m w
  unfolding active_low low_asked
  low_is w =
      let e : w % 8 % 8 ≡ w % 8 = omega arith in
      ap (λ (x : ℕ). word (min m most_constraints) (λ i. eqb (bit_and x (get_or named i 0 % 8)) (get_or plain i 0 % 8))) e

  pub in_block : (w : ℕ) → active_in (lows_of plain named m) (active_high plain named m w) w ≡ active_by plain named m w
  unfolding active_in lows_of
  in_block w =
      ap (bit_and (active_high plain named m w)) (get_d_listed (active_low plain named m) 0 8 (w % 8) (mod-lt w (lit< tt)) ∙ low_is w)
      ∙ active_parts w

  -- the others ask for the same at the eight words of a block
  pub high_same : (u w : ℕ) → u / 8 ≡ w / 8 → active_high plain named m u ≡ active_high plain named m w
  unfolding active_high high_asked
  high_same u w e = ap (λ (x : ℕ). word (min m most_constraints) (λ i. eqb (bit_and x (get_or named i 0 / 8)) (get_or plain i 0 / 8))) e

  -- ---- what is kept from word to word

  pub high_first : (kept : ℕ) → high_at plain named m 0 kept ≡ active_high plain named m 0
  unfolding high_at
  high_first kept = ap (λ (b : Bool). cond b (active_high plain named m 0) kept) (eq-eqb (0 % 8) 0 (omega arith))

  pub high_here : (w : ℕ) → high_at plain named m w (active_high plain named m w) ≡ active_high plain named m w
  unfolding high_at
  high_here w = same (eqb (w % 8) 0)
    where
      same : (b : Bool) → cond b (active_high plain named m w) (active_high plain named m w) ≡ active_high plain named m w
      same true = refl
      same false = refl

  pub high_next : (w high : ℕ) → high ≡ active_high plain named m w → high_at plain named m (w + 1) high ≡ active_high plain named m (w + 1)
  unfolding high_at
  high_next w high e =
      by_test (eqb ((w + 1) % 8) 0)
      (λ t. ap (λ (b : Bool). cond b (active_high plain named m (w + 1)) high) t)
      (λ t. let n = eqb-false ((w + 1) % 8) 0 t in
      ap (λ (b : Bool). cond b (active_high plain named m (w + 1)) high) t ∙ e ∙ high_same w (w + 1) (omega (arith, n)))

-- what the code makes of the literals of the set at a word of a block is the mask of its active constraints
pub made_in_block : (s : Set) → well_formed s ≡ true → (w : ℕ) (l : Columns) → l ≡ columns_of s
    → (lows : List ℕ) → lows ≡ lows_of l.read_plain l.read_named l.m
    → (high : ℕ) → high ≡ active_high l.read_plain l.read_named l.m w
    → (active : ℕ) → active ≡ active_in lows high w → active ≡ active_of s w
made_in_block s ok w l el lows elows high eh active ea =
    made_active s ok w l el active
    (ea ∙ ap₂ (λ (x : List ℕ) (y : ℕ). active_in x y w) elows eh ∙ in_block l.read_plain l.read_named l.m w)
