-- `writer::field::put_header` meets its contract: three bytes. Assumes nothing.
use mathlib.Core.Path.{◌≡◌, subst}
use mathlib.Core.List.{[], ◌∷◌}
use Prim.Native.Nat.{ℕ, ◌/◌, ◌%◌}
use native.Mathlib.Omega.{arith}
use Rattle.writer.specs.way.Write.{Put}
use Rattle.writer.proofs.field.put_header.Goals as goal

pub returns : goal.returns
returns c =
    let p = c in
    let s = p in
    let a = s.args in
    let n : ℕ = a.len in
    let high : n / 256 % 256 ≡ n / 256 = omega (arith, s.requires) in
    subst (λ (x : ℕ). Put a.buf.now a.at (a.tag ∷ x ∷ n % 256 ∷ []) p.put_three.new.buf p.put_three.result) high p.put_three.ensures
