-- A lone output's rank is never read: two sets that differ only in the ranks of their simple constraints have the same holds and passes.
-- Assumes nothing.
use mathlib.Core.Path.{◌≡◌, sym, ap, ap₂, ◌∙◌}
use mathlib.Core.Bool.{Bool, true, cond, not, ◌&&◌}
use Prim.Native.Nat.{ℕ}
use lib.Bits.{bit_and, bit_or, bit_xor}
use Rattle.words.specs.Word.{meets, popcount}
use Rattle.words.specs.Loop.{gather, some}
use Rattle.words.proofs.BoolLaws.{by_test}
use Rattle.words.proofs.LoopLaws.{gather_cong, some_cong}
use Rattle.scan.specs.declared.set.Constraint.{Constraint}
use Rattle.scan.specs.declared.set.Set.{Set}
use Rattle.scan.specs.Set.{constraint, kind, outs}
use Rattle.scan.specs.Constraint.{reads_true, outs_true, is_true, simple, combined, true_at, safe}
use Rattle.scan.specs.Holds.{holding, to_zero, to_one, F0, F1, unheld_by, unheld}
use Rattle.scan.specs.Pass.{yielding, yields, fires, flips, pass}

-- two constraints with the same literals, and with the same ranks if they are combined
pub record SameButLone (c d : Constraint) : Type 0 where
  pub read_plain : c.read_plain ≡ d.read_plain
  pub read_negated : c.read_negated ≡ d.read_negated
  pub out_plain : c.out_plain ≡ d.out_plain
  pub out_negated : c.out_negated ≡ d.out_negated
  pub ranks : combined c ≡ true → c.ranks ≡ d.ranks

-- two sets that differ at most in the ranks of simple constraints
pub record AlikeButLone (s t : Set) : Type 0 where
  pub r_same : s.r ≡ t.r
  pub n_same : s.n ≡ t.n
  pub m_same : s.m ≡ t.m
  pub kinds : (k : ℕ) → kind s k ≡ kind t k
  pub constraints : (i : ℕ) → SameButLone (constraint s i) (constraint t i)

module _ (c d : Constraint) (a : SameButLone c d) where
  outs_alike : outs c ≡ outs d
  outs_alike = ap₂ bit_or a.out_plain a.out_negated

  reads_alike : (w : ℕ) → reads_true c w ≡ reads_true d w
  unfolding reads_true
  reads_alike w = ap₂ (λ (p q : ℕ). meets p q w) a.read_plain a.read_negated

  true_alike : (w v : ℕ) → is_true c w v ≡ is_true d w v
  unfolding is_true outs_true
  true_alike w v = ap₂ ◌&&◌ (reads_alike w) (ap₂ (λ (p q : ℕ). meets p q v) a.out_plain a.out_negated)

  simple_alike : simple c ≡ simple d
  unfolding simple
  simple_alike = ap (λ (x : ℕ). lib.Dec.eqb (popcount x) 1) outs_alike

  combined_alike : combined c ≡ combined d
  unfolding combined
  combined_alike = ap (λ (x : ℕ). lib.Dec.ltb 1 (popcount x)) outs_alike

  -- a combined one is the same constraint
  whole_alike : combined c ≡ true → c ≡ d
  whole_alike e = λ i. record {
    read_plain = a.read_plain i;
    read_negated = a.read_negated i;
    out_plain = a.out_plain i;
    out_negated = a.out_negated i;
    ranks = a.ranks e i;
  }

module _ (s t : Set) (a : AlikeButLone s t) (w : ℕ) where
  masks_alike : (f : Set → ℕ → ℕ → ℕ) → ((i : ℕ) → f s w i ≡ f t w i) → gather s.m (f s w) ≡ gather t.m (f t w)
  masks_alike f e = gather_cong s.m (f s w) (f t w) (λ i h. e i) ∙ ap (λ (m : ℕ). gather m (f t w)) a.m_same

  holding_alike : (i : ℕ) → holding s w i ≡ holding t w i
  unfolding holding
  holding_alike i = ap₂ ◌&&◌ (simple_alike _ _ (a.constraints i)) (reads_alike _ _ (a.constraints i) w)

  pub f0_alike : F0 s w ≡ F0 t w
  unfolding F0 to_zero
  f0_alike = masks_alike to_zero (λ i. ap₂ (λ (b : Bool) (x : ℕ). cond b x 0) (holding_alike i) (a.constraints i).out_plain)

  pub f1_alike : F1 s w ≡ F1 t w
  unfolding F1 to_one
  f1_alike = masks_alike to_one (λ i. ap₂ (λ (b : Bool) (x : ℕ). cond b x 0) (holding_alike i) (a.constraints i).out_negated)

  pub unheld_alike : unheld s w ≡ unheld t w
  unfolding unheld
  unheld_alike = λ i. unheld_by (a.n_same i) (f0_alike i) (f1_alike i)

  pub safe_alike : (v : ℕ) → safe s w v ≡ safe t w v
  unfolding safe true_at
  safe_alike v =
      ap not (some_cong s.m (true_at s w v) (true_at t w v) (λ i h. true_alike _ _ (a.constraints i) w v)
      ∙ ap (λ (m : ℕ). some m (true_at t w v)) a.m_same)

  flips_alike : (v i : ℕ) → flips s w v i ≡ flips t w v i
  unfolding flips fires yields
  flips_alike v i =
      by_test (combined (constraint s i))
      (λ e. let same = whole_alike _ _ (a.constraints i) e in
      λ j. cond (combined (same j) && is_true (same j) w v) (yielding (a.n_same j) (same j) (bit_and (outs (same j)) (unheld_alike j))) 0)
      (λ e. ap (λ (b : Bool). cond (b && is_true (constraint s i) w v) (yields s w i) 0) e
      ∙ sym (ap (λ (b : Bool). cond (b && is_true (constraint t i) w v) (yields t w i) 0) (sym (combined_alike _ _ (a.constraints i)) ∙ e)))

  pub pass_alike : (v : ℕ) → pass s w v ≡ pass t w v
  unfolding pass
  pass_alike v =
      ap (bit_xor v) (gather_cong s.m (flips s w v) (flips t w v) (λ i h. flips_alike v i) ∙ ap (λ (m : ℕ). gather m (flips t w v)) a.m_same)
