-- `loader::loader::counts_at` meets its contract: the header and the test of the counts say which case of `counts_at` holds. Assumes nothing.
use mathlib.Core.Path.{◌≡◌, sym, ◌∙◌, ap, subst}
use mathlib.Core.Bool.{Bool, true, false}
use mathlib.Core.List.{List}
use Prim.Native.Nat.{ℕ, ◌+◌, ◌≤◌}
use native.Mathlib.Omega.{arith}
use lib.ListN.{length, get_or}
use Rattle.std.specs.Prelude.{Err}
use Rattle.words.specs.Loop.{every}
use Rattle.scan.specs.Shape.{count_tests}
use Rattle.header.specs.Fault.{number}
use Rattle.header.specs.Header.{Field, header_of}
use Rattle.loader.specs.Load.{refusal, going_on, of_counts, counts_at}
use Rattle.loader.specs.way.Load.{reached_by}
use Rattle.header.proofs.HeaderLaws.{counts_length, front_place, front_there, front_within, stopped_place, stopped_there}
use Rattle.loader.proofs.LoadLaws.{counts_stopped, counts_bad, counts_good}
use Rattle.scan.proofs.ShapeLaws.{counts_told_law}
use Rattle.loader.proofs.loader.counts_at.Goals as goal
use Rattle.loader.proofs.loader.counts_at.Goals.{In_ok-front}

-- the field is the first
place : (c : In_ok-front) → c.in_ok-front.front.at ≡ 0
place c = front_place c.args.s.now 0 1 0 c.in_ok-front.front c.in_ok-front.ensures

-- what its header tells
here : (c : In_ok-front) → header_of c.args.s.now 1 0 ≡ Field c.in_ok-front.front.tag c.in_ok-front.front.len
here c = front_there c.args.s.now 0 1 0 c.in_ok-front.front c.in_ok-front.ensures

two : (c : In_ok-front) → c.in_ok-front.front.len ≡ 2
two c = counts_length _ _ _ (here c)

whole : (c : In_ok-front) → 5 ≤ length c.args.s.now
whole c = omega (arith, two c, front_within c.args.s.now 0 1 0 c.in_ok-front.front c.in_ok-front.ensures)

-- the counts' tests are of the bytes behind the header, and the place is the first field's
module _ (s : List ℕ) (tag at len : ℕ) (z : at ≡ 0) (t : len ≡ 2) (h : header_of s 1 0 ≡ Field tag len) where
  tests : (b : Bool) → every (count_tests (get_or s (at + 3) 0) (get_or s (at + 4) 0) 0) ≡ b → every (count_tests (get_or s 3 0) (get_or s 4 0) 0) ≡ b
  tests b f = subst (λ (x : ℕ). every (count_tests (get_or s (x + 3) 0) (get_or s (x + 4) 0) 0) ≡ b) z f

  header : header_of s 1 0 ≡ Field tag 2
  header = h ∙ ap (Field tag) t

  bad : every (count_tests (get_or s (at + 3) 0) (get_or s (at + 4) 0) 0) ≡ false → refusal 5 at ≡ counts_at s
  bad f = ap (refusal 5) z ∙ sym (counts_bad s tag header (tests false f))

  good : every (count_tests (get_or s (at + 3) 0) (get_or s (at + 4) 0) 0) ≡ true → going_on (at + 3 + len) (of_counts (get_or s (at + 3) 0) (get_or s (at + 4) 0)) ≡ counts_at s
  good f =
      ap (λ (x : ℕ). going_on (at + 3 + x) (of_counts (get_or s (at + 3) 0) (get_or s (at + 4) 0))) t
      ∙ ap (λ (x : ℕ). going_on (x + 3 + 2) (of_counts (get_or s (x + 3) 0) (get_or s (x + 4) 0))) z ∙ sym (counts_good s tag header (tests true f))

pub returns-in_err-front : goal.returns-in_err-front
returns-in_err-front c =
    let s = c.args.s.now in
    let r = c.in_err-front.field-0.0 in
    let refused : c.from_residual.result ≡ Err r = grind arith in
    ap (λ x. reached_by x (λ k. of_counts k.r k.n)) refused ∙ ap (refusal (number r.fault)) (stopped_place s 0 1 0 r c.in_err-front.ensures)
    ∙ sym (counts_stopped s (number r.fault) (stopped_there s 0 1 0 r c.in_err-front.ensures))

pub bounds-s-front : goal.bounds-s-front
bounds-s-front c = omega (arith, whole (goal.at.bounds-s-front c).In_ok-front, place (goal.at.bounds-s-front c).In_ok-front)

pub bounds-s-front-2 : goal.bounds-s-front-2
bounds-s-front-2 c = omega (arith, whole (goal.at.bounds-s-front-2 c).In_ok-front, place (goal.at.bounds-s-front-2 c).In_ok-front)

pub overflow_add-result-2 : goal.overflow_add-result-2
overflow_add-result-2 c = omega (arith, two (goal.at.overflow_add-result-2 c).In_ok-front, place (goal.at.overflow_add-result-2 c).In_ok-front)

pub returns-then-not-are_counts_ok : goal.returns-then-not-are_counts_ok
returns-then-not-are_counts_ok c =
    let f = (goal.at.returns-then-not-are_counts_ok c).In_ok-front in
    bad c.args.s.now _ c.in_ok-front.front.at _ (place f) (two f) (here f) (sym c.are_counts_ok.ensures ∙ c.if-not-are_counts_ok.true)

pub invariant_of-result : goal.invariant_of-result
invariant_of-result c =
    let k = counts_told_law _ _ 0 (sym c.are_counts_ok.ensures ∙ c.if-not-are_counts_ok.false) in
    record { in_range = (omega (arith, k.0), omega (arith, k.1)) }

pub returns : goal.returns
returns c =
    let f = (goal.at.returns c).In_ok-front in
    good c.args.s.now _ c.in_ok-front.front.at _ (place f) (two f) (here f) (sym c.are_counts_ok.ensures ∙ c.if-not-are_counts_ok.false)
