-- Places filled one after the other, the others zero (`places_upto` of specs/way/Columns): before the first, at each more, and what a place has.
-- Assumes nothing.
use mathlib.Core.Path.{◌≡◌, sym, ap, subst, ◌∙◌}
use mathlib.Core.List.{List, ◌++◌}
use Prim.Native.Nat.{ℕ, ◌+◌, ◌<◌}
use lib.ListN.{get_or, set, replicate, length-replicate, get_or-append}
use Rattle.words.specs.Loop.{listed}
use Rattle.words.proofs.LoopLaws.{listed_none, listed_long, get_d_listed, listed_store}
use Rattle.scan.specs.Set.{most_constraints}
use Rattle.scan.specs.way.Columns.{places_upto}

module _ (f : ℕ → ℕ) where
  -- no place is filled
  pub places_none : replicate most_constraints 0 ≡ places_upto f 0
  unfolding places_upto
  places_none = ap (λ (l : List ℕ). l ++ replicate most_constraints 0) (listed_none f)

  -- one more is stored
  pub places_more : (i x : ℕ) (l : List ℕ) → i < most_constraints → l ≡ places_upto f i → x ≡ f i → set l i x ≡ places_upto f (i + 1)
  unfolding places_upto
  places_more i x l h el ex =
      ap (λ (k : List ℕ). set k i x) el
      ∙ listed_store f 0 i x (replicate most_constraints 0) (subst (λ (n : ℕ). i < n) (sym (length-replicate {A = ℕ} most_constraints 0)) h) ex

  -- a place that is filled
  pub places_at : (end i : ℕ) → i < end → get_or (places_upto f end) i 0 ≡ f i
  unfolding places_upto
  places_at end i h =
      get_or-append (listed end f) _ 0 i (subst (λ (m : ℕ). i < m) (sym (listed_long f end)) h)
      ∙ get_d_listed f 0 end i h
