-- `loader::rest::rest_at` meets its contract: by the byte at the place, which is 0 where the file has ended. Assumes nothing.
use mathlib.Core.Path.{◌≡◌, sym, ◌∙◌}
use mathlib.Core.List.{List}
use Prim.Native.Nat.{ℕ, ◌≤◌}
use native.Mathlib.Omega.{arith}
use lib.ListN.{length, get_or, drop, get_or-eq_default}
use borrow.Author.Tests.{eq-eqb, ne_eqb}
use Rattle.std.specs.Prelude.{Ok}
use Rattle.header.specs.Header.{header_of}
use Rattle.header.proofs.HeaderLaws.{tag_at}
use Rattle.loader.specs.way.Load.{rest_given, step_by, rest_place}
use Rattle.loader.proofs.rest.rest_at.Goals as goal
use Rattle.loader.proofs.rest.rest_at.Goals.{else-at-s-via-then-at-s+else-s-at-eq-TAG_REST, else-at-s-via-else-at-s}

module _ (s : List ℕ) (at n : ℕ) where
  -- the field stands there
  there : get_or s at 0 ≡ 6 → step_by s at (rest_given n) (header_of (drop at s) 6 0) ≡ rest_place s at n
  unfolding rest_place
  there e = sym (rw (eq-eqb (get_or (drop at s) 0 0) 6 (tag_at s at ∙ e)))

  -- another does, or none
  other : (get_or s at 0 ≡ 6 → ⊥) → Ok (0, at) ≡ rest_place s at n
  unfolding rest_place
  other e = sym (rw (ne_eqb (get_or (drop at s) 0 0) 6 (λ q. e (sym (tag_at s at) ∙ q))))

  ended : length s ≤ at → get_or s at 0 ≡ 6 → ⊥
  ended h e = omega (arith, get_or-eq_default s 0 h)

pub returns-then-s-at-eq-TAG_REST : goal.returns-then-s-at-eq-TAG_REST
returns-then-s-at-eq-TAG_REST c =
    let a = c.args in
    c.rest_field.ensures ∙ there a.s.now a.at a.n c.if-s-at-eq-TAG_REST.true

pub returns : goal.returns
returns c =
    let a = c.args in
    elim c.else-at-s.branch [
      | else-at-s-via-then-at-s+else-s-at-eq-TAG_REST w ↦ other a.s.now a.at a.n w.if-s-at-eq-TAG_REST.false
      | else-at-s-via-else-at-s w ↦ other a.s.now a.at a.n (ended a.s.now a.at a.n w.if-at-s.false)
    ]
