-- `writer::field::put_read` meets its contract: a header, then kind and index, then the name. Assumes nothing.
use Prim.Native.Nat.{◌+◌, ◌≤◌}
use native.Mathlib.Omega.{arith}
use lib.ListN.{length}
use Rattle.scan.specs.Names.{name_bytes}
use Rattle.writer.specs.Write.{kind_bytes, read_body}
use Rattle.writer.proofs.WriteLaws.{put_then, next_room, body_room, field_put, kind_long, read_long}
use Rattle.writer.proofs.field.put_read.Goals as goal
use Rattle.writer.proofs.field.put_read.Goals.{After-put_header-body}

-- there is room for the body
room : (c : After-put_header-body) → c.put_header-body.result + length (read_body c.args.p) ≤ length c.put_header-body.new.buf
room c =
    let a = c.args in
    body_room a.buf.now a.at 0x02 (2 + c.name_length-len.result) (read_body a.p) _ _ c.put_header-body.ensures c.requires

pub put_kind-next-requires : goal.put_kind-next-requires
put_kind-next-requires c = omega (arith, room (goal.at.put_kind-next-requires c).After-put_header-body, read_long c.args.p)

pub put_name-requires : goal.put_name-requires
put_name-requires c =
    let k = c in
    let h = k in
    let p = h.args.p in (
      h.name_length-len.ensures.0,
      next_room h.put_header-body.new.buf h.put_header-body.result (kind_bytes p.kind) (name_bytes p.name) _ _ k.put_kind-next.ensures (room (goal.at.put_name-requires c).After-put_header-body),
    )

pub returns : goal.returns
returns c =
    let n = c in
    let k = n in
    let h = k in
    let s = h in
    let a = s.args in
    let len = h.name_length-len in
    let mid = h.put_header-body.new.buf in
    let kind-room : h.put_header-body.result + length (kind_bytes a.p.kind) ≤ length mid = omega (arith, room (goal.at.returns c).After-put_header-body, read_long a.p, kind_long a.p.kind) in
    field_put a.buf.now a.at 0x02 (2 + len.result) (read_body a.p) mid _ _ _ (omega (arith, read_long a.p, len.ensures.0)) s.requires h.put_header-body.ensures
    (put_then mid h.put_header-body.result (kind_bytes a.p.kind) (name_bytes a.p.name) _ _ _ _ kind-room k.put_kind-next.ensures n.put_name.ensures)
