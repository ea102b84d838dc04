-- `prepared::said::set_said` meets its contract. Assumes nothing.
use Rattle.std.proofs.Common.{◌≡◌, ℕ, [], ◌∷◌, arith, ◌∙◌}
use Rattle.std.specs.Int.{w16, from_le_bytes}
use Rattle.prepared.specs.Said.{byte_in, two, set_said}
use Rattle.prepared.proofs.said.set_said.Goals as goal

of_two : (a b : ℕ) → from_le_bytes w16 (a ∷ b ∷ []) ≡ two a b
of_two a b = omega arith

pub returns : goal.returns
unfolding set_said
returns c =
    let b = c.args.b.now in
    let rest = c.from_le_bytes-rest.ensures ∙ of_two _ _ in
    λ i. record {
      r = byte_in b 0;
      n = byte_in b 1;
      m = byte_in b 2;
      rest = rest i;
      reads = c.reads_in-reads.ensures i;
      outputs = c.outputs_in-outputs.ensures i;
      constraints = c.constraints_in-constraints.ensures i;
    }
