-- `writer::field::body_length` meets its contract. Assumes nothing.
use mathlib.Core.Path.{◌≡◌, subst}
use mathlib.Core.Bool.{Bool}
use Prim.Native.Nat.{◌+◌, ◌*◌, ◌≤◌}
use lib.ListN.{length}
use Rattle.scan.specs.Set.{most_reads, most_outputs}
use Rattle.writer.specs.Write.{literals_by}
use Rattle.writer.proofs.field.body_length.Goals as goal

pub returns : goal.returns
returns c =
    let h = c in
    let a = h.args in
    let l = c.literals_length.result in
    let told : (l ≡ length (literals_by h.names_high.result a.c)) × (l ≤ 3 * (most_reads + most_outputs)) = c.literals_length.ensures in
    subst (λ (b : Bool). (l ≡ length (literals_by b a.c)) × (l ≤ 3 * (most_reads + most_outputs))) h.names_high.ensures told
