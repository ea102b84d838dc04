-- `prepared::putting::put_set` meets its contract. Assumes nothing.
use mathlib.Core.Path.{refl, ◌∙◌}
use Rattle.prepared.specs.Put.{prepared_bytes, byte_of}
use Rattle.prepared.proofs.FilledLaws.{filled_none}
use Rattle.prepared.proofs.PutLaws.{put_all}
use Rattle.prepared.proofs.putting.put_set.Goals as goal

pub returns : goal.returns
returns c =
    let outputs = c in
    let reads = outputs in
    let head = reads in
    let s = head.args.set in
    c.put_constraints.ensures s refl
    (outputs.put_outputs.ensures s refl (reads.put_reads.ensures s refl (head.put_head.ensures s refl refl refl refl (filled_none prepared_bytes 0 (byte_of s)))))
    ∙ put_all s
