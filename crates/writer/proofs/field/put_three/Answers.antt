-- `writer::field::put_three` meets its contract: three stores. Assumes nothing.
use mathlib.Core.Path.{refl}
use native.Mathlib.Omega.{arith}
use lib.ListN.{length-set}
use Rattle.writer.proofs.WriteLaws.{put_three}
use Rattle.writer.proofs.field.put_three.Goals as goal

pub bounds-buf-at-2 : goal.bounds-buf-at-2
bounds-buf-at-2 c = simp length-set (omega (arith, c.requires))

pub bounds-buf-at-3 : goal.bounds-buf-at-3
bounds-buf-at-3 c = simp length-set (omega (arith, c.requires))

pub returns : goal.returns
returns c = let a = c.args in (put_three a.buf.now a.at a.first a.second a.third c.requires, refl)
