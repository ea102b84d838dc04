-- `verdict::verdict::first_failing` meets its contract. The invariants: no word passed fails, every mask kept is one of good words, and what is kept of the block is
-- right at the word; at a word the marks are right, and the walk of no request passed is endless. The loops are left by label where the word has no safe vector,
-- or the request's walk is endless.
-- Assumes nothing.
use mathlib.Core.Path.{◌≡◌}
use mathlib.Core.Bool.{false}
use Prim.Native.Nat.{◌^◌}
use lib.ListN.{length}
use Rattle.words.specs.Loop.{some}
use Rattle.scan.specs.way.Block.{active_high, high_at}
use Rattle.verdict.specs.declared.verdict.Verdict.TheVariants.{Accepted}
use Rattle.verdict.specs.Judge.{endless, scratch_bytes}
use Rattle.verdict.specs.FirstFailing.{fails}
use Rattle.verdict.specs.way.Paths.{trail_places}
use Rattle.verdict.specs.way.Seen.{Known}
use Rattle.verdict.proofs.WordMarks.{Ready}
use Rattle.verdict.proofs.verdict.first_failing.Given as goal

abbrev pub invariant-loop-g : goal.invariant-loop-g
invariant-loop-g l =
    (l.found ≡ Accepted) × Ready l.set l.w l.marks × (length l.trail ≡ trail_places) × (some l.g (endless l.set l.w) ≡ false)

abbrev pub invariant-words : goal.invariant-words
invariant-words l =
    (l.words ≡ 2 ^ l.set.r) × (l.requests ≡ 2 ^ l.set.n) × (l.found ≡ Accepted) × (length l.marks ≡ scratch_bytes l.set.n) × (length l.trail ≡ trail_places)
    × (high_at l.by.read_plain l.by.read_named l.by.m l.w l.high ≡ active_high l.by.read_plain l.by.read_named l.by.m l.w)
    × (some l.w (fails l.set) ≡ false) × Known l.set (fails l.set) l.seen
