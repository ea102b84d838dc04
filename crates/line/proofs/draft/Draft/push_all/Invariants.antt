-- `line::draft::Draft::push_all` meets its contract. The loop's invariant: the bytes passed stand behind those of before. Assumes nothing.
use mathlib.Core.Path.{◌≡◌}
use mathlib.Core.List.{◌++◌}
use lib.ListN.{take}
use Rattle.line.proofs.draft.Draft.push_all.Given as goal

abbrev pub invariant-loop-b : goal.invariant-loop-b
invariant-loop-b l = l.self ≡ l.initial.self ++ take l.b-index l.bytes
