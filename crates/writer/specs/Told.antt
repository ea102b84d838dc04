-- Document 01's number of each answer, 0 for one that is no refusal, with the answer's values behind it.
-- Assumes nothing.
use Rattle.std.specs.Prelude.{ℕ, List, [], ◌∷◌, Result, Ok, Err}
use Rattle.shape.specs.declared.putting.PutError.{PutError}
use Rattle.shape.specs.declared.putting.PutError.TheVariants.{BadSet, Short}

-- of writing: the length written, or the refusal, with the length needed
abbrev pub write_told : Result ℕ PutError → List ℕ
write_told (Ok length) = 0 ∷ length ∷ []
write_told (Err BadSet) = 20 ∷ []
write_told (Err (Short needed)) = 24 ∷ needed ∷ []
