-- Document 01's number of each answer, 0 for one that is no refusal, with the answer's values behind it.
-- Assumes nothing.
use Rattle.std.specs.Prelude.{ℕ, List, [], ◌∷◌}
use Rattle.loader.specs.declared.loader.LoadAnswer.{LoadAnswer}
use Rattle.loader.specs.declared.loader.LoadAnswer.TheVariants.{Loaded, Refused}

-- of loading: the refusal and its offset
abbrev pub load_told : LoadAnswer → List ℕ
load_told Loaded = 0 ∷ []
load_told (Refused number offset) = number ∷ offset ∷ []
