-- `scan::eight::low_held` meets its contract. Assumes nothing.
use mathlib.Core.Path.{◌≡◌, ap₂}
use lib.Bits.{bit_and}
use Rattle.scan.specs.way.Eight.{low_true, low_held}
use Rattle.scan.proofs.eight.low_held.Goals as goal

pub returns : goal.returns
unfolding low_held
returns c =
    let a = c.args in
    let on : c.low_true.result ≡ low_true a.f1 a.f1 = c.low_true.ensures in
    let off : c.low_true-2.result ≡ low_true 0 a.f0 = c.low_true-2.ensures in
    ap₂ bit_and on off
