-- Places that are filled one after the other (specs/Filled): before the first, and at each more.
-- Assumes nothing.
use mathlib.Core.Path.{◌≡◌, sym, ap, subst, ◌∙◌}
use mathlib.Core.List.{List, ◌++◌}
use Prim.Native.Nat.{ℕ, ◌+◌, ◌<◌}
use lib.ListN.{set, replicate, length-replicate}
use Rattle.words.proofs.LoopLaws.{listed_none, listed_store}
use Rattle.prepared.specs.Filled.{filled}

module _ {A : Type 0} (most : ℕ) (nil : A) (f : ℕ → A) where
  -- No place is filled yet.
  pub filled_none : replicate most nil ≡ filled most nil f 0
  filled_none = ap (λ (l : List A). l ++ replicate most nil) (listed_none f)

  -- One more is filled.
  pub filled_more : (l : List A) (k : ℕ) (x : A) → k < most → l ≡ filled most nil f k → x ≡ f k → set l k x ≡ filled most nil f (k + 1)
  filled_more l k x h e ex =
      ap (λ (all : List A). set all k x) e
      ∙ listed_store f nil k x (replicate most nil) (subst (λ (n : ℕ). k < n) (sym (length-replicate most nil)) h) ex
