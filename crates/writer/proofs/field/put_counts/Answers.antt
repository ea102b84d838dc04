-- `writer::field::put_counts` meets its contract: a header, and two bytes behind it. Assumes nothing.
use mathlib.Core.Path.{refl}
use mathlib.Core.List.{[], ◌∷◌}
use Rattle.writer.proofs.WriteLaws.{field_put}
use Rattle.writer.proofs.field.put_counts.Goals as goal

pub returns : goal.returns
returns c =
    let q = c in
    let p = q in
    let s = p in
    let a = s.args in
    field_put a.buf.now a.at 0x01 2 (a.r ∷ a.n ∷ []) _ _ _ _ refl s.requires.2 p.put_header-body.ensures q.put_two.ensures
