-- Document 01's number of each verdict, 0 for acceptance, with its values behind it.
-- Assumes nothing.
use Rattle.std.specs.Prelude.{ℕ, List, [], ◌∷◌}
use Rattle.verdict.specs.declared.verdict.Verdict.{Verdict}
use Rattle.verdict.specs.declared.verdict.Verdict.TheVariants.{Accepted, BadSet, ShortScratch, NoVector, Clash, NoEnd}

-- the read word without a safe vector; that word and the output forced both ways; the read word and the request whose walk never is safe
abbrev pub verdict_told : Verdict → List ℕ
verdict_told Accepted = 0 ∷ []
verdict_told BadSet = 20 ∷ []
verdict_told ShortScratch = 21 ∷ []
verdict_told (NoVector w) = 22 ∷ w ∷ []
verdict_told (Clash w k) = 58 ∷ w ∷ k ∷ []
verdict_told (NoEnd w g) = 23 ∷ w ∷ g ∷ []
