-- `writer::field::put_literal` meets its contract: three bytes, or two. Assumes nothing.
use mathlib.Core.Path.{sym, subst}
use mathlib.Core.Bool.{Bool}
use Prim.Native.Nat.{◌+◌, ◌≤◌}
use lib.ListN.{length}
use Rattle.writer.specs.Write.{literal_bytes}
use Rattle.writer.specs.way.Write.{Put}
use Rattle.writer.proofs.field.put_literal.Goals as goal

pub put_three-requires : goal.put_three-requires
put_three-requires c =
    let t = c in
    let s = t in
    let a = s.args in
    subst (λ (b : Bool). a.at + length (literal_bytes b a.flags a.number a.rank) ≤ length a.buf.now) t.if-wide.true s.requires.1

pub returns-then-wide : goal.returns-then-wide
returns-then-wide c =
    let p = c in
    let t = p in
    let a = t.args in
    subst (λ (b : Bool). Put a.buf.now a.at (literal_bytes b a.flags a.number a.rank) p.put_three.new.buf p.put_three.result) (sym t.if-wide.true) p.put_three.ensures

pub put_two-requires : goal.put_two-requires
put_two-requires c =
    let t = c in
    let s = t in
    let a = s.args in
    subst (λ (b : Bool). a.at + length (literal_bytes b a.flags a.number a.rank) ≤ length a.buf.now) t.if-wide.false s.requires.1

pub returns : goal.returns
returns c =
    let p = c in
    let t = p in
    let a = t.args in
    subst (λ (b : Bool). Put a.buf.now a.at (literal_bytes b a.flags a.number a.rank) p.put_two.new.buf p.put_two.result) (sym t.if-wide.false) p.put_two.ensures
