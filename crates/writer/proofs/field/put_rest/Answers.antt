-- `writer::field::put_rest` meets its contract: nothing, or a header and two bytes behind it. Assumes nothing.
use mathlib.Core.Path.{◌≡◌, refl, sym, subst}
use mathlib.Core.List.{List, []}
use Prim.Native.Nat.{ℕ, ◌+◌, ◌≤◌}
use native.Mathlib.Nat.{add-zero}
use native.Mathlib.Omega.{arith}
use lib.ListN.{length}
use Rattle.writer.specs.Write.{field_of, rest_body, rest_field}
use Rattle.writer.specs.way.Write.{Put}
use Rattle.writer.proofs.WriteLaws.{put_nothing, body_room, field_put, rest_none, rest_some}
use Rattle.writer.proofs.field.put_rest.Goals as goal
use Rattle.writer.proofs.field.put_rest.Goals.{Else-rest-eq0}

-- the same bytes put
put_same : (buf : List ℕ) (at : ℕ) (x y after : List ℕ) (next : ℕ) → x ≡ y → Put buf at y after next → Put buf at x after next
put_same buf at x y after next e p = subst (λ (l : List ℕ). Put buf at l after next) (sym e) p

-- there is room for the field
room : (c : Else-rest-eq0) → c.args.at + length (field_of 0x06 (rest_body c.args.rest)) ≤ length c.args.buf.now
room c =
    let s = c in
    subst (λ (l : List ℕ). s.args.at + length l ≤ length s.args.buf.now) (rest_some s.args.rest c.if-rest-eq0.false) s.requires

pub returns-then-rest-eq0 : goal.returns-then-rest-eq0
returns-then-rest-eq0 c =
    let a = c.args in
    put_same a.buf.now a.at (rest_field a.rest) [] _ _ (rest_none a.rest c.if-rest-eq0.true) (put_nothing a.buf.now a.at, sym (add-zero a.at))

pub put_header-body-requires : goal.put_header-body-requires
put_header-body-requires c = omega (arith, room (goal.at.put_header-body-requires c).Else-rest-eq0)

pub put_two-requires : goal.put_two-requires
put_two-requires c =
    let p = c in
    let e = p in
    let a = e.args in
    body_room a.buf.now a.at 0x06 2 (rest_body a.rest) _ _ p.put_header-body.ensures (room (goal.at.put_two-requires c).Else-rest-eq0)

pub returns : goal.returns
returns c =
    let q = c in
    let p = q in
    let e = p in
    let a = e.args in
    let mid = p.put_header-body.new.buf in
    let next = p.put_header-body.result in
    let after = q.put_two.new.buf in
    let place = q.put_two.result in
    let bytes : Put mid next (rest_body a.rest) after place = q.put_two.ensures in
    put_same a.buf.now a.at (rest_field a.rest) (field_of 0x06 (rest_body a.rest)) after place (rest_some a.rest e.if-rest-eq0.false)
    (field_put a.buf.now a.at 0x06 2 (rest_body a.rest) mid after next place refl (room (goal.at.returns c).Else-rest-eq0) p.put_header-body.ensures bytes)
