-- `writer::writer::put_file` meets its contract: one part behind the other. Assumes nothing.
use mathlib.Core.Path.{◌∙◌, ap}
use mathlib.Core.List.{List, []}
use Prim.Native.Nat.{ℕ, ◌+◌, ◌≤◌}
use native.Mathlib.Omega.{arith}
use lib.ListN.{length}
use Rattle.scan.specs.Set.{constraint}
use Rattle.scan.proofs.ShapeLaws.{counts}
use Rattle.writer.specs.Write.{field_of, rest_field, write_of}
use Rattle.writer.specs.way.Write.{read_fields, output_fields, constraint_fields, put_at, Put}
use Rattle.writer.proofs.LiteralBodyLaws.{masks_few}
use Rattle.writer.proofs.WriteLaws.{put_then, counts_put, reads_put, outputs_put, rest_put, constraints_put, file_ends, room_counts, room_reads, room_outputs, room_rest, room_constraints, room_end, next_room}
use Rattle.writer.proofs.writer.put_file.Goals as goal
use Rattle.writer.proofs.writer.put_file.Goals.{After-put_constraints-end, After-put_counts-reads_at, After-put_outputs-rest_at, After-put_reads-outputs_at, After-put_rest-constraints_at, Start}

-- the file fits from place 0 on
fits : (c : Start) → 0 + length (write_of c.args.set) ≤ length c.args.buf.now
fits c = omega (arith, c.requires.1)

-- ---- the entry, from the place after each part

-- ---- what is in place after each part

-- bytes are in place at the front of the buffer
abbrev Done : Start → List ℕ → List ℕ → ℕ → Type 0
Done s bytes after next = Put s.args.buf.now 0 bytes after next

done_1 : (c : After-put_counts-reads_at) → Done c.before.before.before.before.before.before (counts_put c.args.set) c.put_counts-reads_at.new.buf c.put_counts-reads_at.result
done_1 c = c.put_counts-reads_at.ensures

done_2 : (c : After-put_reads-outputs_at) → Done c.before.before.before.before.before.before.before.before.before.before (reads_put c.args.set) c.put_reads-outputs_at.new.buf c.put_reads-outputs_at.result
done_2 c =
    let s = c in
    let a = s.args in
    let buf = a.buf.now in
    put_then buf 0 (counts_put a.set) (read_fields a.set.reads a.set.r) _ _ _ _ (room_counts a.set (length buf) (fits c.before.before.before.before.before.before.before.before.before.before)) (done_1 c.before.before.before.before) c.put_reads-outputs_at.ensures

done_3 : (c : After-put_outputs-rest_at) → Done c.before.before.before.before.before.before.before.before.before.before.before.before.before.before (outputs_put c.args.set) c.put_outputs-rest_at.new.buf c.put_outputs-rest_at.result
done_3 c =
    let s = c in
    let a = s.args in
    let buf = a.buf.now in
    put_then buf 0 (reads_put a.set) (output_fields a.set.outputs a.set.n) _ _ _ _ (room_reads a.set (length buf) (fits c.before.before.before.before.before.before.before.before.before.before.before.before.before.before)) (done_2 c.before.before.before.before) c.put_outputs-rest_at.ensures

done_4 : (c : After-put_rest-constraints_at) → Done c.before.before.before.before.before.before.before.before.before.before.before.before.before.before.before.before.before.before (rest_put c.args.set) c.put_rest-constraints_at.new.buf c.put_rest-constraints_at.result
done_4 c =
    let s = c in
    let a = s.args in
    let buf = a.buf.now in
    put_then buf 0 (outputs_put a.set) (rest_field a.set.rest) _ _ _ _ (room_outputs a.set (length buf) (fits c.before.before.before.before.before.before.before.before.before.before.before.before.before.before.before.before.before.before)) (done_3 c.before.before.before.before) c.put_rest-constraints_at.ensures

done_5 : (c : After-put_constraints-end) → Done c.before.before.before.before.before.before.before.before.before.before.before.before.before.before.before.before.before.before.before.before.before.before (constraints_put c.args.set) c.put_constraints-end.new.buf c.put_constraints-end.result
done_5 c =
    let s = c in
    let a = s.args in
    let buf = a.buf.now in
    let p = c in
    let fields = constraint_fields a.set.constraints a.set.m in
    let behind : Put p.put_rest-constraints_at.new.buf p.put_rest-constraints_at.result fields c.put_constraints-end.new.buf c.put_constraints-end.result = c.put_constraints-end.ensures in
    put_then buf 0 (rest_put a.set) fields p.put_rest-constraints_at.new.buf c.put_constraints-end.new.buf p.put_rest-constraints_at.result c.put_constraints-end.result (room_rest a.set (length buf) (fits c.before.before.before.before.before.before.before.before.before.before.before.before.before.before.before.before.before.before.before.before.before.before)) (done_4 c.before.before.before.before) behind

-- ---- the needs

pub put_counts-reads_at-requires : goal.put_counts-reads_at-requires
put_counts-reads_at-requires c =
    let s = c in
    let a = s.args in
    let k = counts a.set s.requires.0 in
    omega (arith, k.r_le, k.n_le, room_counts a.set (length a.buf.now) (fits (goal.at.put_counts-reads_at-requires c).Start))

pub put_reads-outputs_at-requires : goal.put_reads-outputs_at-requires
put_reads-outputs_at-requires c =
    let p = c in
    let s = p in
    let a = s.args in
    let buf = a.buf.now in (
      (counts a.set s.requires.0).r_le,
      next_room buf 0 (counts_put a.set) (read_fields a.set.reads a.set.r) p.put_counts-reads_at.new.buf p.put_counts-reads_at.result (done_1 (goal.at.put_reads-outputs_at-requires c).After-put_counts-reads_at) (room_reads a.set (length buf) (fits (goal.at.put_reads-outputs_at-requires c).Start)),
    )

pub put_outputs-rest_at-requires : goal.put_outputs-rest_at-requires
put_outputs-rest_at-requires c =
    let p = c in
    let s = p in
    let a = s.args in
    let buf = a.buf.now in (
      (counts a.set s.requires.0).n_le,
      next_room buf 0 (reads_put a.set) (output_fields a.set.outputs a.set.n) p.put_reads-outputs_at.new.buf p.put_reads-outputs_at.result (done_2 (goal.at.put_outputs-rest_at-requires c).After-put_reads-outputs_at) (room_outputs a.set (length buf) (fits (goal.at.put_outputs-rest_at-requires c).Start)),
    )

pub put_rest-constraints_at-requires : goal.put_rest-constraints_at-requires
put_rest-constraints_at-requires c =
    let p = c in
    let s = p in
    let a = s.args in
    let buf = a.buf.now in
    next_room buf 0 (outputs_put a.set) (rest_field a.set.rest) p.put_outputs-rest_at.new.buf p.put_outputs-rest_at.result (done_3 (goal.at.put_rest-constraints_at-requires c).After-put_outputs-rest_at) (room_rest a.set (length buf) (fits (goal.at.put_rest-constraints_at-requires c).Start))

pub put_constraints-end-requires : goal.put_constraints-end-requires
unfolding constraint
put_constraints-end-requires c =
    let p = c in
    let s = p in
    let a = s.args in
    let buf = a.buf.now in (
      (counts a.set s.requires.0).m_le,
      masks_few a.set s.requires.0,
      next_room buf 0 (rest_put a.set) (constraint_fields a.set.constraints a.set.m) p.put_rest-constraints_at.new.buf p.put_rest-constraints_at.result (done_4 (goal.at.put_constraints-end-requires c).After-put_rest-constraints_at) (room_constraints a.set (length buf) (fits (goal.at.put_constraints-end-requires c).Start)),
    )

pub put_header-requires : goal.put_header-requires
put_header-requires c =
    let p = c in
    let s = p in
    let a = s.args in
    let buf = a.buf.now in
    let end = p.put_constraints-end in
    omega (arith, next_room buf 0 (constraints_put a.set) (field_of 0x05 []) end.new.buf end.result (done_5 (goal.at.put_header-requires c).After-put_constraints-end) (room_end a.set (length buf) (fits (goal.at.put_header-requires c).Start)))

pub returns : goal.returns
returns c =
    let e = c in
    let p = e in
    let s = p in
    let a = s.args in
    let buf = a.buf.now in
    (put_then buf 0 (constraints_put a.set) (field_of 0x05 []) _ _ _ _ (room_constraints a.set (length buf) (fits (goal.at.returns c).Start)) (done_5 (goal.at.returns c).After-put_constraints-end) e.put_header.ensures).0
    ∙ ap (put_at buf 0) (file_ends a.set)
