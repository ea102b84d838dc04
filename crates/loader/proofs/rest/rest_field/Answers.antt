-- `loader::rest::rest_field` meets its contract: by the field's header, then by its two bytes. Assumes nothing.
use mathlib.Core.Path.{◌≡◌, sym, ◌∙◌, ap, ap₂}
use mathlib.Core.Bool.{Bool, ◌&&◌}
use mathlib.Core.List.{List}
use Prim.Native.Nat.{ℕ, ◌+◌, ◌*◌, ◌^◌, ◌≤◌}
use native.Mathlib.Omega.{arith}
use lib.Dec.{ltb}
use lib.ListN.{length, get_or, drop}
use Rattle.std.specs.Prelude.{Ok, Err}
use Rattle.header.specs.Header.{body_of}
use Rattle.header.proofs.HeaderLaws.{front_header, front_within, rest_length}
use Rattle.loader.specs.Load.{rest_word, rest_good, good_if}
use Rattle.loader.specs.way.Load.{if_taken, rest_given}
use Rattle.loader.proofs.LoadLaws.{body_byte}
use Rattle.loader.proofs.LoadWayLaws.{step_body}
use Rattle.loader.proofs.rest.rest_field.Goals as goal
use Rattle.loader.proofs.rest.rest_field.Goals.{In_ok-front, After-is_rest_good}

two : (c : In_ok-front) → c.in_ok-front.front.len ≡ 2
two c = rest_length _ _ _ (front_header c.args.s.now c.args.at 6 0 c.in_ok-front.front c.in_ok-front.ensures)

whole : (c : In_ok-front) → c.in_ok-front.front.at + 3 + 2 ≤ length c.args.s.now
whole c = omega (arith, two c, front_within c.args.s.now c.args.at 6 0 c.in_ok-front.front c.in_ok-front.ensures)

-- two bytes behind the header are the rest word, and their test says what the body gives
module _ (s : List ℕ) (at n len word : ℕ) (t : len ≡ 2) (e : word ≡ get_or s (at + 3) 0 * 256 + get_or s (at + 4) 0) where
  word_is : word ≡ rest_word (body_of (drop at s) len)
  word_is =
      let low : at + 4 ≡ at + 3 + 1 = omega arith in
      e ∙ ap (λ (k : ℕ). get_or s (at + 3) 0 * 256 + get_or s k 0) low
      ∙ ap₂ (λ (x y : ℕ). x * 256 + y)
      (sym (body_byte s at len 0 (omega arith) ∙ ap (λ (k : ℕ). get_or s k 0) (omega arith)))
      (sym (body_byte s at len 1 (omega arith)))

  by_test : (b : Bool) → (ltb 0 word && ltb word (2 ^ n)) ≡ b → if_taken (good_if b 54) word ≡ rest_given n (body_of (drop at s) len)
  by_test b q = ap (λ (x : Bool). if_taken (good_if x 54) word) (sym q) ∙ ap (λ (x : ℕ). if_taken (rest_good x n) x) word_is

pub overflow_add-front : goal.overflow_add-front
overflow_add-front c = omega (arith, whole (goal.at.overflow_add-front c).In_ok-front, c.well_formed)

pub bounds-s-front : goal.bounds-s-front
bounds-s-front c = omega (arith, whole (goal.at.bounds-s-front c).In_ok-front)

pub overflow_add-front-2 : goal.overflow_add-front-2
overflow_add-front-2 c = omega (arith, whole (goal.at.overflow_add-front-2 c).In_ok-front, c.well_formed)

pub bounds-s-front-2 : goal.bounds-s-front-2
bounds-s-front-2 c = omega (arith, whole (goal.at.bounds-s-front-2 c).In_ok-front)

pub overflow_add-result-2 : goal.overflow_add-result-2
overflow_add-result-2 c = omega (arith, whole (goal.at.overflow_add-result-2 c).In_ok-front, two (goal.at.overflow_add-result-2 c).In_ok-front, c.well_formed)

pub returns-then-not-is_rest_good : goal.returns-then-not-is_rest_good
returns-then-not-is_rest_good c =
    let a = c.args in
    let f = c.in_ok-front.front in
    step_body a.s.now a.at 6 (rest_given a.n) f c.in_ok-front.ensures (Err 54)
    (by_test a.s.now f.at a.n f.len c.from_be_bytes-rest.result (two (goal.at.returns-then-not-is_rest_good c).In_ok-front) c.from_be_bytes-rest.ensures _ (sym c.is_rest_good.ensures ∙ c.if-not-is_rest_good.true))

pub returns : goal.returns
returns c =
    let a = c.args in
    let f = c.in_ok-front.front in
    step_body a.s.now a.at 6 (rest_given a.n) f c.in_ok-front.ensures (Ok c.from_be_bytes-rest.result)
    (by_test a.s.now f.at a.n f.len c.from_be_bytes-rest.result (two (goal.at.returns c).In_ok-front) c.from_be_bytes-rest.ensures _ (sym c.is_rest_good.ensures ∙ c.if-not-is_rest_good.false))
