-- Lengths of lists, and lists of zeros.
-- Assumes nothing.
use mathlib.Core.Path.{◌≡◌, refl, sym, ◌∙◌}
use mathlib.Core.List.{List, map}
use Prim.Native.Nat.{ℕ, zero, suc}
use lib.ListN.{length, get_or, replicate, length-map}

-- The relation that a proof is handed of a struct says how long a `map` over an array's list is.
pub mapped_long : {A B : Type 0} (f : A → B) (l : List A) (n : ℕ) → length (map f l) ≡ n → length l ≡ n
mapped_long f l n e = sym (length-map l f) ∙ e

-- Zeros are zero at every place, and past their end.
pub zeros_any : (n k : ℕ) → ◌≡◌ {A = ℕ} (get_or (replicate n 0) k 0) 0
zeros_any zero k = refl
zeros_any (suc n) zero = refl
zeros_any (suc n) (suc k) = zeros_any n k
