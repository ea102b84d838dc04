-- `verdict::marks::mark_bytes` meets its contract. The invariant: the bytes passed have the safe vectors of theirs, and `any` tells whether there is one.
-- Assumes nothing.
use mathlib.Core.Path.{◌≡◌}
use mathlib.Core.List.{◌++◌}
use lib.ListN.{drop}
use Rattle.words.specs.Loop.{some, listed}
use Rattle.scan.specs.way.Eight.{safe_byte}
use Rattle.verdict.specs.way.Marks.{has_mark}
use Rattle.verdict.proofs.marks.mark_bytes.Given as goal

abbrev pub invariant-loop-b : goal.invariant-loop-b
invariant-loop-b l =
    (l.any ≡ some l.b (has_mark (safe_byte l.held l.f0 l.f1 l.entries.high.plain l.entries.high.named l.entries.low l.entries.high.count)))
    × (l.marks ≡ listed l.b (safe_byte l.held l.f0 l.f1 l.entries.high.plain l.entries.high.named l.entries.low l.entries.high.count) ++ drop l.b l.initial.marks)
