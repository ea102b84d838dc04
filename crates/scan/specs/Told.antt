-- What the reckoning of holds tells, in numbers: 0 with the two words of forced outputs, or 58 with the lowest output forced both ways.
-- Assumes nothing.
use Rattle.std.specs.Prelude.{ℕ, List, [], ◌∷◌}
use Rattle.scan.specs.declared.holds.Holds.{Holds}
use Rattle.scan.specs.declared.holds.Holds.TheVariants.{Forced, Clash}

-- F0 and F1, or the output
abbrev pub holds_told : Holds → List ℕ
holds_told (Forced f0 f1) = 0 ∷ f0 ∷ f1 ∷ []
holds_told (Clash k) = 58 ∷ k ∷ []
