-- `shape::names::names_of_reads` meets its contract. The loop's invariant: the names before k are in place. Assumes nothing.
use mathlib.Core.Path.{refl}
use Prim.Native.Nat.{ℕ}
use lib.ListN.{replicate}
use Rattle.scan.specs.Set.{most_reads, read_point, zero_name}
use Rattle.shape.proofs.NamesWayLaws.{placed_none, placed_one, placed_all}
use Rattle.shape.proofs.names.names_of_reads.Goals as goal

pub loop-k-init : goal.loop-k-init
loop-k-init c = placed_none most_reads _ (replicate most_reads zero_name) refl

pub loop-k-preserved : goal.loop-k-preserved
loop-k-preserved c =
    let t = c in
    let l = t.loop-k in
    placed_one most_reads (λ (j : ℕ). (read_point t.args.reads j).name) l.names l.k _ l.invariant t.loop-k-test.true refl

pub returns : goal.returns
returns c =
    let l = c.loop-k in
    placed_all most_reads (λ (j : ℕ). (read_point c.args.reads j).name) l.names l.k l.invariant c.loop-k-test.false
