-- `verdict::missing::first_without` meets its contract. The invariant: no word passed is without a safe vector, every mask kept is one of words with one,
-- and what is kept of the block is right at the word.
-- Assumes nothing.
use mathlib.Core.Path.{◌≡◌}
use mathlib.Core.Bool.{false}
use Prim.Native.Nat.{◌^◌}
use Rattle.words.specs.Loop.{some}
use Rattle.scan.specs.way.Block.{active_high, high_at}
use Rattle.verdict.specs.Judge.{lacks}
use Rattle.verdict.specs.way.Seen.{Known}
use Rattle.verdict.proofs.missing.first_without.Given as goal

abbrev pub invariant-loop-w : goal.invariant-loop-w
invariant-loop-w l =
    (l.words ≡ 2 ^ l.set.r) × (some l.w (lacks l.set) ≡ false) × Known l.set (lacks l.set) l.seen
    × (high_at l.by.read_plain l.by.read_named l.by.m l.w l.high ≡ active_high l.by.read_plain l.by.read_named l.by.m l.w)
