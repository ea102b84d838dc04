-- `header::header::field_at` meets its contract: at each `return` the tests that led there say which case of `raw_of` holds. Assumes nothing.
use mathlib.Core.Path.{◌≡◌, sym, ◌∙◌, ap₂}
use Prim.Native.Nat.{◌+◌, ◌*◌}
use native.Mathlib.Omega.{arith}
use lib.ListN.{drop, length-drop}
use Rattle.header.specs.Header.{whole, body_length}
use Rattle.header.proofs.HeaderLaws.{cut_header, cut_body, not_cut, raw_cut, raw_field, tag_at, length_at}
use Rattle.header.proofs.header.field_at.Goals as goal
use Rattle.header.proofs.header.field_at.Goals.{After-wide-low}

-- The body's length, as the header states it.
said : (c : After-wide-low) → let a = c.args in
    body_length (drop a.at a.s.now) ≡ c.wide-high.result * 256 + c.wide-low.result
said c =
    let a = c.args in
    rw (c.wide-high.ensures, c.wide-low.ensures) (length_at a.s.now a.at)

pub returns-then-s-lt3 : goal.returns-then-s-lt3
returns-then-s-lt3 c =
    let a = c.args in
    let s = drop a.at a.s.now in
    sym (raw_cut s (cut_header s (simp length-drop (omega arith))))

pub returns-then-last-at : goal.returns-then-last-at
returns-then-last-at c =
    let a = c.args in
    let s = drop a.at a.s.now in
    sym (raw_cut s (cut_header s (simp length-drop (omega arith))))

pub returns-then-last-at-2 : goal.returns-then-last-at-2
returns-then-last-at-2 c =
    let a = c.args in
    let s = drop a.at a.s.now in
    let l = length-drop a.at a.s.now in
    let e = said (goal.at.returns-then-last-at-2 c).After-wide-low in
    sym (raw_cut s (cut_body s (omega (arith, l, c)) (omega (arith, l, e, c))))

pub returns : goal.returns
returns c =
    let a = c.args in
    let s = drop a.at a.s.now in
    let l = length-drop a.at a.s.now in
    let e = said (goal.at.returns c).After-wide-low in
    sym (raw_field s (not_cut s (omega (arith, l, c)) (omega (arith, l, e, c)))
    ∙ ap₂ whole (tag_at a.s.now a.at) e)
