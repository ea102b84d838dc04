-- `scan::eight::low_true` meets its contract. Assumes nothing.
use mathlib.Core.Path.{◌≡◌}
use mathlib.Core.Bool.{Bool, cond}
use Prim.Native.Nat.{ℕ, ◌%◌}
use lib.Dec.{eqb}
use lib.Bits.{bit_and, bit_or}
use Rattle.words.specs.Loop.{word}
use Rattle.words.proofs.LoopTurns.{word_none, word_step}
use Rattle.scan.specs.way.Eight.{low_true}
use Rattle.scan.proofs.eight.low_true.Goals as goal

module _ (plain named : ℕ) where
  -- the test of vector j
  abbrev test : ℕ → Bool
  test j = eqb (bit_and j (named % 8)) (plain % 8)

  -- it gives the bit of j, or none
  abbrev Tried : ℕ → ℕ → ℕ → Type 0
  Tried j its r = r ≡ cond (test j) its 0

  -- the tests of all eight, joined
  joined : (r0 r1 r2 r3 r4 r5 r6 r7 : ℕ)
      → Tried 0 1 r0 → Tried 1 2 r1 → Tried 2 4 r2 → Tried 3 8 r3 → Tried 4 16 r4 → Tried 5 32 r5 → Tried 6 64 r6 → Tried 7 128 r7
      → bit_or (bit_or (bit_or (bit_or (bit_or (bit_or (bit_or r0 r1) r2) r3) r4) r5) r6) r7 ≡ low_true plain named
  unfolding low_true
  joined r0 r1 r2 r3 r4 r5 r6 r7 e0 e1 e2 e3 e4 e5 e6 e7 =
      let w1 : r0 ≡ word 1 test = word_step test 0 0 r0 (word_none test) e0 in
      let w2 = word_step test 1 r0 r1 w1 e1 in
      let w3 = word_step test 2 _ r2 w2 e2 in
      let w4 = word_step test 3 _ r3 w3 e3 in
      let w5 = word_step test 4 _ r4 w4 e4 in
      let w6 = word_step test 5 _ r5 w5 e5 in
      let w7 = word_step test 6 _ r6 w6 e6 in
      word_step test 7 _ r7 w7 e7

pub returns : goal.returns
returns c =
    let c7 = c in
    let c6 = c7 in
    let c5 = c6 in
    let c4 = c5 in
    let c3 = c4 in
    let c2 = c3 in
    let c1 = c2 in
    let a = c1.args in
    joined a.plain a.named c1.flip_if.result c2.flip_if-2.result c3.flip_if-3.result c4.flip_if-4.result
    c5.flip_if-5.result c6.flip_if-6.result c7.flip_if-7.result c.flip_if-8.result
    c1.flip_if.ensures c2.flip_if-2.ensures c3.flip_if-3.ensures c4.flip_if-4.ensures
    c5.flip_if-5.ensures c6.flip_if-6.ensures c7.flip_if-7.ensures c.flip_if-8.ensures
