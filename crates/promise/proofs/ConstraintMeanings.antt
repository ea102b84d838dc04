-- What a constraint says, bit by bit: when it is true, simple or combined, and when a vector is safe.
-- Assumes nothing.
use mathlib.Core.Path.{◌≡◌, sym, ap, ap₂, ◌∙◌}
use mathlib.Core.Bool.{true, not, ◌&&◌, ◌||◌}
use mathlib.Core.Logic.{◌↔◌, ◌≢◌, inl, inr, ⊎_elim}
use Prim.Native.Nat.{ℕ, zero, suc, ◌%◌, ◌/◌, ◌^◌, ◌<◌}
use native.Mathlib.Nat.{not-suc-le-zero}
use native.Mathlib.Omega.{arith}
use lib.Count.{ones_in}
use lib.Dec.{eqb}
use borrow.Author.Tests.{ltb-true, eqb-true, eqb-false}
use Rattle.words.specs.Word.{odd, bit, meets, popcount}
use Rattle.words.proofs.BitLaws.{bit_of_or, bit_half, bit_lowest, bits_meet, meet_plain, meet_negated, digit_lt}
use Rattle.words.proofs.BoolLaws.{by_test, clash, and_true, or_true, or_left, or_right}
use Rattle.words.proofs.LoopLaws.{some_false, some_bit}
use Rattle.scan.specs.declared.set.Constraint.{Constraint}
use Rattle.scan.specs.declared.set.Set.{Set}
use Rattle.scan.specs.Set.{constraint, outs}
use Rattle.scan.specs.Shape.{well_formed}
use Rattle.scan.specs.Constraint.{reads_true, outs_true, is_true, simple, combined, true_at, safe}
use Rattle.scan.proofs.ShapeLaws.{Masks, counts, masks, outs_lt}
use Rattle.scan.proofs.ConstraintLaws.{simple_or_combined, lone}
use Rattle.scan.proofs.SafeLaws.{none_true}
use Rattle.scan.proofs.PassLaws.{never_opposite}
use Rattle.promise.specs.Terms.{Bit, AllTrue, ReadsTrue, IsTrue, NamesOutput, Simple, Combined, TrueAt, Safe}
use Rattle.promise.specs.Meanings.{ConstraintsMean}
use Rattle.promise.proofs.Bits.{bit_set, set_bit, bit_clear, clear_bit}

-- ---- a product of literals

pub all_true_iff : (n plain negated word : ℕ) → plain < 2 ^ n → negated < 2 ^ n → (meets plain negated word ≡ true) ↔ AllTrue plain negated word
all_true_iff n plain negated word hp hn = (
  λ e. (λ k b. bit_set k word (meet_plain plain negated word e k (set_bit k plain b)), λ k b. bit_clear k word (meet_negated plain negated word e k (set_bit k negated b))),
  λ a. bits_meet n plain negated word hp hn (λ k b. set_bit k word (a.0 k (bit_set k plain b))) (λ k b. clear_bit k word (a.1 k (bit_set k negated b))),
)

pub reads_iff : (r n : ℕ) (c : Constraint) → Masks r n c → (w : ℕ) → (reads_true c w ≡ true) ↔ ReadsTrue c w
unfolding reads_true
reads_iff r n c ms w = all_true_iff r c.read_plain c.read_negated w ms.read_plain ms.read_negated

pub true_iff : (r n : ℕ) (c : Constraint) → Masks r n c → (w v : ℕ) → (is_true c w v ≡ true) ↔ IsTrue c w v
unfolding is_true outs_true
true_iff r n c ms w v =
    let reads = reads_iff r n c ms w in
    let outputs = all_true_iff n c.out_plain c.out_negated v ms.out_plain ms.out_negated in (
      λ e. let both = and_true (reads_true c w) (meets c.out_plain c.out_negated v) e in (reads.0 both.0, outputs.0 both.1),
      λ a. ap₂ ◌&&◌ (reads.1 a.0) (outputs.1 a.1),
    )

-- ---- the outputs that it names

pub names_iff : (c : Constraint) (k : ℕ) → (bit k (outs c) ≡ true) ↔ NamesOutput c k
names_iff c k = (
  λ e. by_test (bit k c.out_plain) (λ p. inl (bit_set k c.out_plain p))
      (λ p. inr (bit_set k c.out_negated (or_true (bit k c.out_plain) (bit k c.out_negated) (sym row ∙ e) p))),
  ⊎_elim (λ b. row ∙ or_left (bit k c.out_plain) (bit k c.out_negated) (set_bit k c.out_plain b))
      (λ b. row ∙ or_right (bit k c.out_plain) (bit k c.out_negated) (set_bit k c.out_negated b)),
)
  where
    row : bit k (outs c) ≡ bit k c.out_plain || bit k c.out_negated
    row = bit_of_or k c.out_plain c.out_negated

-- a word with a bit counted has one, and a word with more than one counted has two
a_bit : (n w : ℕ) → 0 < ones_in n w → (k : ℕ) × (bit k w ≡ true)
unfolding ones_in odd
a_bit zero w h = absurd (not-suc-le-zero h)
a_bit (suc n) w h =
    by_test (eqb (w % 2) 1) (λ e. (0, bit_lowest w ∙ e))
    (λ e. let low = eqb-false (w % 2) 1 e in let more = a_bit n (w / 2) (omega (arith, digit_lt w)) in (suc more.0, sym (bit_half more.0 w) ∙ more.1))

two_bits : (n w : ℕ) → 1 < ones_in n w → (j : ℕ) × (k : ℕ) × (j ≢ k) × (bit j w ≡ true) × (bit k w ≡ true)
unfolding ones_in odd
two_bits zero w h = absurd (not-suc-le-zero h)
two_bits (suc n) w h =
    by_test (eqb (w % 2) 1)
    (λ e.
    let low = eqb-true (w % 2) 1 e in
    let more = a_bit n (w / 2) (omega arith) in
    (0, suc more.0, λ z. omega arith, bit_lowest w ∙ e, sym (bit_half more.0 w) ∙ more.1))
    (λ e.
    let low = eqb-false (w % 2) 1 e in
    let more = two_bits n (w / 2) (omega (arith, digit_lt w)) in
    (suc more.0, suc more.1, λ z. more.2 (omega arith), sym (bit_half more.0 w) ∙ more.3, sym (bit_half more.1 w) ∙ more.4))

module _ (s : Set) (ok : well_formed s ≡ true) (i : ℕ) (h : i < s.m) where
  abbrev c : Constraint
  c = constraint s i

  ms : Masks s.r s.n c
  ms = masks s ok i h

  alone : simple c ≡ true → Simple c
  alone e =
      let one = some_bit s.n (outs c) (outs_lt s.r s.n c ms) ms.has_out in (
        one.0,
        (names_iff c one.0).0 one.2,
        λ j nj. lone s.r s.n c (counts s ok).n_le ms e j one.0 ((names_iff c j).1 nj) one.2,
      )

  several : combined c ≡ true → Combined c
  unfolding combined popcount
  several e =
      let two = two_bits 16 (outs c) (ltb-true 1 (ones_in 16 (outs c)) e) in
      (two.0, two.1, two.2, (names_iff c two.0).0 two.3, (names_iff c two.1).0 two.4)

  not_several : Simple c → Combined c → ⊥
  not_several a b = b.2 (a.2 b.0 b.3 ∙ sym (a.2 b.1 b.4))

  pub simple_iff : (simple c ≡ true) ↔ Simple c
  simple_iff = (
    alone,
    λ a. by_test (simple c) (λ e. e) (λ e. absurd (not_several a (several (simple_or_combined s.r s.n c (counts s ok).n_le ms e)))),
  )

  pub combined_iff : (combined c ≡ true) ↔ Combined c
  combined_iff = (
    several,
    λ b. by_test (simple c) (λ e. absurd (not_several (alone e) b)) (simple_or_combined s.r s.n c (counts s ok).n_le ms),
  )

-- ---- true constraints, and safe vectors

module _ (s : Set) (ok : well_formed s ≡ true) where
  pub true_at_iff : (w v i : ℕ) → i < s.m → (true_at s w v i ≡ true) ↔ TrueAt s w v i
  unfolding true_at
  true_at_iff w v i h = true_iff s.r s.n (constraint s i) (masks s ok i h) w v

  pub safe_iff : (w v : ℕ) → (safe s w v ≡ true) ↔ Safe s w v
  unfolding safe true_at
  safe_iff w v = (
    λ e i h a. clash ((true_at_iff w v i h).1 a) (none_true s w v ok e i h),
    λ a. ap not (some_false s.m (true_at s w v) (λ i h. by_test (true_at s w v i) (λ e. absurd (a i h ((true_at_iff w v i h).0 e))) (λ e. e))),
  )

  opposite : (w v i j k : ℕ) → true_at s w v i ≡ true → true_at s w v j ≡ true → Bit k (constraint s i).out_plain → ¬ Bit k (constraint s j).out_negated
  unfolding true_at
  opposite w v i j k ti tj p q =
      clash (set_bit k (constraint s j).out_negated q)
      (never_opposite (constraint s i) (constraint s j) w v k ti tj (set_bit k (constraint s i).out_plain p))

  pub constraints_mean : ConstraintsMean s
  constraints_mean = record {
    true_when = true_at_iff;
    simple_when = simple_iff s ok;
    combined_when = combined_iff s ok;
    safe_when = safe_iff;
    never_opposite = opposite;
  }
