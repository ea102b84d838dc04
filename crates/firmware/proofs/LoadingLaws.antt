-- The laws of specs/Loading: what is put together step by step is what the definitions say.
-- Assumes nothing.
use mathlib.Core.Path.{◌≡◌, sym, ap, ◌∙◌}
use mathlib.Core.List.{List}
use Prim.Native.Nat.{ℕ, ◌%◌}
use lib.ListN.{get_or}
use Rattle.scan.specs.declared.set.Set.{Set}
use Rattle.loader.specs.declared.loader.LoadAnswer.{LoadAnswer}
use Rattle.loader.specs.declared.loader.Loaded.{Loaded}
use Rattle.loader.specs.Load.{load_of}
use Rattle.loader.specs.Told.{load_told}
use Rattle.firmware.specs.declared.loading.LoadResult.{LoadResult}
use Rattle.firmware.specs.Loading.{load_result, load_file}

-- an answer's number and the set's counts, with the offset of the answer that it is
pub load_of_law : (a b : LoadAnswer) (s : Set) (number r n m : ℕ) → number ≡ get_or (load_told a) 0 0 → r ≡ s.r % 256 → n ≡ s.n % 256 → m ≡ s.m % 256 → a ≡ b
    → record { number = number; r = r; n = n; m = m; offset = (load_result (load_told b) s).offset } ≡ load_result (load_told a) s
load_of_law a b s number r n m e er en em h =
    λ i. record { number = e i; r = er i; n = en i; m = em i; offset = (load_result (load_told (sym h i)) s).offset }

-- the result of what was loaded is that of the file
pub load_crosses : (file : List ℕ) (l : Loaded) → l ≡ load_of file → (x : LoadResult) → x ≡ load_result (load_told l.answer) l.set → x ≡ load_file file
unfolding load_file
load_crosses file l e x q = q ∙ ap (λ (a : Loaded). load_result (load_told a.answer) a.set) e
