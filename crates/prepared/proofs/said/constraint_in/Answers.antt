-- `prepared::said::constraint_in` meets its contract. Assumes nothing.
use Rattle.std.proofs.Common.{◌≡◌, ℕ, [], ◌∷◌, arith, ◌∙◌}
use Rattle.std.specs.Int.{w16, w32, from_le_bytes}
use Rattle.prepared.specs.Said.{two, four}
use Rattle.prepared.proofs.said.constraint_in.Goals as goal

of_two : (a b : ℕ) → from_le_bytes w16 (a ∷ b ∷ []) ≡ two a b
of_two a b = omega arith

of_four : (a b c d : ℕ) → from_le_bytes w32 (a ∷ b ∷ c ∷ d ∷ []) ≡ four a b c d
of_four a b c d = omega arith

pub returns : goal.returns
returns c =
    let plain = c.from_le_bytes-read_plain.ensures ∙ of_four _ _ _ _ in
    let negated = c.from_le_bytes-read_negated.ensures ∙ of_four _ _ _ _ in
    let out = c.from_le_bytes-out_plain.ensures ∙ of_two _ _ in
    let none = c.from_le_bytes-out_negated.ensures ∙ of_two _ _ in
    λ i. record { read_plain = plain i; read_negated = negated i; out_plain = out i; out_negated = none i; ranks = c.ranks_in-ranks.ensures i }
