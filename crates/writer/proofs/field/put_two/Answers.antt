-- `writer::field::put_two` meets its contract: two stores. Assumes nothing.
use mathlib.Core.Path.{refl}
use native.Mathlib.Omega.{arith}
use lib.ListN.{length-set}
use Rattle.writer.proofs.WriteLaws.{put_two}
use Rattle.writer.proofs.field.put_two.Goals as goal

pub bounds-buf-at-2 : goal.bounds-buf-at-2
bounds-buf-at-2 c = simp length-set (omega (arith, c.requires))

pub returns : goal.returns
returns c = let a = c.args in (put_two a.buf.now a.at a.first a.second c.requires, refl)
