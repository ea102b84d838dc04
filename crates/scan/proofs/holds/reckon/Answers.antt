-- `scan::holds::reckon` meets its contract: the words have no output in both where they are apart, and a lowest one where they are not. Assumes nothing.
use mathlib.Core.Path.{◌≡◌, sym, ap, ap₂, ◌∙◌}
use mathlib.Core.Bool.{◌&&◌}
use Prim.Native.Nat.{ℕ, ◌^◌, ◌<◌}
use native.Mathlib.Omega.{arith}
use lib.Bits.{bit_and, and_le_l}
use Rattle.words.specs.Word.{bit}
use Rattle.words.specs.Loop.{first}
use Rattle.words.proofs.BitLaws.{bit_of_and, bit_zero, no_bits}
use Rattle.words.proofs.LoopLaws.{first_is}
use Rattle.scan.specs.declared.holds.Holds.TheVariants.{Forced, Clash}
use Rattle.scan.specs.Holds.{both_ways, reckoned}
use Rattle.scan.proofs.HoldsLaws.{reckoned_clash, reckoned_forced, by_reckoned}
use Rattle.scan.proofs.holds.reckon.Goals as goal

module _ (f0 f1 : ℕ) where
  both_bit : (k : ℕ) → both_ways f0 f1 k ≡ bit k (bit_and f0 f1)
  unfolding both_ways
  both_bit k = sym (bit_of_and k f0 f1)

  forced : bit_and f0 f1 ≡ 0 → Forced f0 f1 ≡ reckoned f0 f1
  forced e = sym (reckoned_forced f0 f1 (λ k h. both_bit k ∙ ap (bit k) e ∙ bit_zero k))

  clashes : bit_and f0 f1 < 2 ^ 16 → (bit_and f0 f1 ≡ 0 → ⊥) → (k : ℕ) → k ≡ first 16 (both_ways f0 f1) → Clash k ≡ reckoned f0 f1
  unfolding both_ways
  clashes fits some k e =
      by_reckoned f0 f1
      (λ j l.
      let is = first_is 16 j (both_ways f0 f1) l.fits (ap₂ ◌&&◌ l.off l.on) l.before in
      ap Clash (e ∙ is) ∙ sym (reckoned_clash f0 f1 j l))
      (λ none. absurd (some (no_bits 16 (bit_and f0 f1) fits (λ j h. sym (both_bit j) ∙ none j h))))

pub returns-then-f0-f1-eq0 : goal.returns-then-f0-f1-eq0
returns-then-f0-f1-eq0 c = let a = c.args in forced a.f0 a.f1 c.if-f0-f1-eq0.true

pub returns : goal.returns
returns c =
    let a = c.args in
    clashes a.f0 a.f1 (omega (arith, and_le_l a.f0 a.f1)) c.if-f0-f1-eq0.false c.lowest_both.result c.lowest_both.ensures
