-- The number of each answer, 0 for one that is no refusal, with the answer's values behind it: as for writing.
-- Assumes nothing.
use Rattle.std.specs.Prelude.{ℕ, List, [], ◌∷◌, Result, Ok, Err}
use Rattle.shape.specs.declared.putting.PutError.{PutError}
use Rattle.shape.specs.declared.putting.PutError.TheVariants.{BadSet, Short}

-- of putting a text: the length put, or the refusal, with the length needed
abbrev pub text_told : Result ℕ PutError → List ℕ
text_told (Ok length) = 0 ∷ length ∷ []
text_told (Err BadSet) = 20 ∷ []
text_told (Err (Short needed)) = 24 ∷ needed ∷ []
