-- `writer::field::put_output` meets its contract: a header, and the name behind it. Assumes nothing.
use Rattle.writer.specs.Write.{output_body}
use Rattle.writer.proofs.WriteLaws.{field_put}
use Rattle.writer.proofs.field.put_output.Goals as goal

pub returns : goal.returns
returns c =
    let q = c in
    let p = q in
    let n = p in
    let s = n in
    let a = s.args in
    field_put a.buf.now a.at 0x03 n.name_length-len.result (output_body a.p) _ _ _ _ n.name_length-len.ensures.0 s.requires p.put_header-body.ensures q.put_name.ensures
