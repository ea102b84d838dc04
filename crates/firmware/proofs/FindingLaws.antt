-- The laws of specs/Finding: what is put together step by step is what the definitions say.
-- Assumes nothing.
use mathlib.Core.Path.{◌≡◌, refl, sym, ap, ◌∙◌}
use mathlib.Core.List.{List}
use Prim.Native.Nat.{ℕ}
use lib.ListN.{get_or}
use Rattle.loader.specs.declared.loader.Loaded.{Loaded}
use Rattle.loader.specs.Load.{load_of}
use Rattle.std.specs.Prelude.{Result, Ok, Err}
use Rattle.shape.specs.declared.finding.Point.{Point}
use Rattle.shape.specs.declared.finding.Point.TheVariants.{Read, Output}
use Rattle.shape.specs.declared.finding.FindError.{FindError}
use Rattle.shape.specs.declared.finding.FindError.TheVariants.{BadSet, BadLength, Unknown}
use Rattle.shape.specs.Finding.{find_of}
use Rattle.shape.specs.Told.{find_told}
use Rattle.firmware.specs.declared.finding.FindResult.{FindResult}
use Rattle.firmware.specs.Finding.{find_result, find_file}

-- an answer's number, with the values of the answer that it is
pub find_of_law : (f g : Result Point FindError) (number : ℕ) → number ≡ get_or (find_told f) 0 0 → f ≡ g
    → record { number = number; output = (find_result (find_told g)).output; point = (find_result (find_told g)).point } ≡ find_result (find_told f)
find_of_law f g number e h = λ i. record { number = e i; output = (find_result (find_told (sym h i))).output; point = (find_result (find_told (sym h i))).point }

-- a refusal has no values
pub find_bare : (f : Result Point FindError) (number : ℕ) → number ≡ get_or (find_told f) 0 0 → ((k : ℕ) → f ≡ Ok (Read k) → ⊥) → ((k : ℕ) → f ≡ Ok (Output k) → ⊥)
    → record { number = number; output = 0; point = 0 } ≡ find_result (find_told f)
find_bare (Ok (Read k)) number e g h = absurd (g k refl)
find_bare (Ok (Output k)) number e g h = absurd (h k refl)
find_bare (Err BadSet) number e g h = find_of_law (Err BadSet) (Err BadSet) number e refl
find_bare (Err BadLength) number e g h = find_of_law (Err BadLength) (Err BadLength) number e refl
find_bare (Err Unknown) number e g h = find_of_law (Err Unknown) (Err Unknown) number e refl

-- what is found in the set that was loaded is found in the file's
pub find_crosses : (file : List ℕ) (l : Loaded) → l ≡ load_of file → (name : List ℕ) (f : Result Point FindError) (x : FindResult)
    → f ≡ find_of l.set name → x ≡ find_result (find_told f) → x ≡ find_file file name
unfolding find_file
find_crosses file l e name f x ef q = q ∙ ap (λ (a : Result Point FindError). find_result (find_told a)) ef ∙ ap (λ (a : Loaded). find_result (find_told (find_of a.set name))) e
