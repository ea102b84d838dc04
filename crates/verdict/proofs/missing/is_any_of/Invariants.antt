-- `verdict::missing::is_any_of` meets its contract. The invariant: no byte passed has a safe vector. Assumes nothing.
use mathlib.Core.Path.{◌≡◌}
use mathlib.Core.Bool.{false}
use Rattle.words.specs.Loop.{some}
use Rattle.scan.specs.way.Eight.{safe_byte}
use Rattle.verdict.specs.way.Marks.{has_mark}
use Rattle.verdict.proofs.missing.is_any_of.Given as goal

abbrev pub invariant-loop-b : goal.invariant-loop-b
invariant-loop-b l = (some l.b (has_mark (safe_byte l.held 0 0 l.entries.high.plain l.entries.high.named l.entries.low l.entries.high.count)) ≡ false)
