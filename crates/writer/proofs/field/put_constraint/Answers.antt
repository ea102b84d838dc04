-- `writer::field::put_constraint` meets its contract: a header, then the body. Assumes nothing.
use mathlib.Core.Path.{sym, subst}
use mathlib.Core.Bool.{Bool}
use mathlib.Core.List.{List}
use Prim.Native.Nat.{ℕ, ◌+◌, ◌≤◌}
use native.Mathlib.Omega.{arith}
use lib.ListN.{length}
use Rattle.header.specs.Tag.{tag_by}
use Rattle.writer.specs.Write.{field_of, literals_by}
use Rattle.writer.specs.way.Write.{Put}
use Rattle.writer.proofs.WriteLaws.{body_room, field_put}
use Rattle.writer.proofs.field.put_constraint.Goals as goal
use Rattle.writer.proofs.field.put_constraint.Goals.{After-names_high-wide}

-- the literals, in the form that `names_high` tells
abbrev literals : After-names_high-wide → List ℕ
literals c = literals_by c.names_high-wide.result c.args.c

-- there is room for the field
room : (c : After-names_high-wide) → let a = c.args in a.at + length (field_of (tag_by c.names_high-wide.result) (literals c)) ≤ length a.buf.now
room c =
    let s = c in
    let a = s.args in
    subst (λ (b : Bool). a.at + length (field_of (tag_by b) (literals_by b a.c)) ≤ length a.buf.now) (sym c.names_high-wide.ensures) s.requires.1

pub put_header-body-requires : goal.put_header-body-requires
put_header-body-requires c =
    let l = c in
    (omega (arith, room (goal.at.put_header-body-requires c).After-names_high-wide), omega (arith, l.literals_length-len.ensures.1))

pub put_body-requires : goal.put_body-requires
put_body-requires c =
    let h = c in
    let l = h in
    let n = l in
    let a = n.args in (
      n.requires.0,
      body_room a.buf.now a.at h.tag_by.result l.literals_length-len.result (literals (goal.at.put_body-requires c).After-names_high-wide) _ _ h.put_header-body.ensures (room (goal.at.put_body-requires c).After-names_high-wide),
    )

pub returns : goal.returns
returns c =
    let q = c in
    let h = q in
    let t = h.tag_by in
    let l = h in
    let n = l in
    let a = n.args in
    let after = q.put_body.new.buf in
    let place = q.put_body.result in
    subst (λ (b : Bool). Put a.buf.now a.at (field_of (tag_by b) (literals_by b a.c)) after place) n.names_high-wide.ensures
    (subst (λ (x : ℕ). Put a.buf.now a.at (field_of x (literals (goal.at.returns c).After-names_high-wide)) after place) t.ensures
    (field_put a.buf.now a.at t.result l.literals_length-len.result (literals (goal.at.returns c).After-names_high-wide) h.put_header-body.new.buf after h.put_header-body.result place l.literals_length-len.ensures.0 (room (goal.at.returns c).After-names_high-wide)
    h.put_header-body.ensures q.put_body.ensures))
