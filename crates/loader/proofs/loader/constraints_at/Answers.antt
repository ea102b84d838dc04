-- `loader::loader::constraints_at` meets its contract. The loop's invariant: the fields from here on, behind the constraints so far, give what all of
-- them give, whichever points the set has. Assumes nothing.
use mathlib.Core.Path.{refl, ◌≡◌, sym, ap, ◌∙◌, refl}
use mathlib.Core.List.{List}
use Prim.Native.Nat.{ℕ, suc, ◌+◌, ◌-◌, ◌≤◌, ◌<◌}
use native.Mathlib.Omega.{arith}
use lib.ListN.{length, drop}
use borrow.Author.Rules.{rules}
use Rattle.std.specs.Prelude.{Ok, Err}
use Rattle.scan.specs.declared.set.ReadPoint.{ReadPoint}
use Rattle.scan.specs.declared.set.OutputPoint.{OutputPoint}
use Rattle.scan.specs.Set.{most_constraints, zero_set}
use Rattle.header.specs.Fault.{number}
use Rattle.header.specs.Header.{Field, header_of}
use Rattle.header.proofs.HeaderLaws.{constraint_length, front_place, front_header, front_within, stopped_place, stopped_there}
use Rattle.literal.specs.way.Literal.{literals_told}
use Rattle.loader.specs.Load.{refusal, with_constraint, constraints_from}
use Rattle.loader.specs.way.Load.{reached, reached_by, rested_set, whole_set}
use Rattle.loader.proofs.LoadTurns.{constraints_stopped, constraints_end, constraints_by}
use Rattle.loader.proofs.loader.constraints_at.Goals as goal
use Rattle.loader.proofs.loader.constraints_at.Goals.{In_ok-front, Else-front-eq-TAG_END}

-- the field is within the file, its header is the one there, and what the loop has come to holds of it
module _ (c : In_ok-front) where
  whole : c.in_ok-front.front.at + 3 + c.in_ok-front.front.len ≤ length c.args.s.now
  whole = front_within c.args.s.now c.loop-front.next 4 c.loop-front.m c.in_ok-front.front c.in_ok-front.ensures

  header : header_of (drop c.in_ok-front.front.at c.args.s.now) 4 c.loop-front.m ≡ Field c.in_ok-front.front.tag c.in_ok-front.front.len
  header = front_header c.args.s.now c.loop-front.next 4 c.loop-front.m c.in_ok-front.front c.in_ok-front.ensures

  so_far : (rest : ℕ) (reads : List ReadPoint) (outputs : List OutputPoint) → let l = c.loop-front in
      let a = c.args in
      constraints_from a.s.now (suc most_constraints) a.at (rested_set a.counts.r a.counts.n rest reads outputs)
      ≡ constraints_from a.s.now (suc most_constraints - l.m) c.in_ok-front.front.at (whole_set a.counts.r a.counts.n l.m rest reads outputs l.list)
  so_far rest reads outputs =
      let l = c.loop-front in
      let a = c.args in
      l.invariant.1 rest reads outputs
      ∙ ap (λ (x : ℕ). constraints_from a.s.now (suc most_constraints - l.m) x (whole_set a.counts.r a.counts.n l.m rest reads outputs l.list)) (sym (front_place a.s.now l.next 4 l.m c.in_ok-front.front c.in_ok-front.ensures))

-- what the header of a constraint tells
few : (c : Else-front-eq-TAG_END) → c.loop-front.m < most_constraints
few c = (constraint_length _ _ _ _ c.if-front-eq-TAG_END.false (front_header c.args.s.now c.loop-front.next 4 c.loop-front.m c.in_ok-front.front c.in_ok-front.ensures)).1

pub loop-front-init : goal.loop-front-init
unfolding zero_set
loop-front-init c = (search rules, λ rest reads outputs. refl)

pub returns-in_err-front : goal.returns-in_err-front
returns-in_err-front c rest reads outputs =
    let l = c.loop-front in
    let a = c.args in
    let r = c.in_err-front.field-0.0 in
    let refused : c.from_residual.result ≡ Err r = grind arith in
    ap (λ x. reached_by x (λ k. whole_set a.counts.r a.counts.n k.m rest reads outputs k.list)) refused
    ∙ ap (refusal (number r.fault)) (stopped_place a.s.now l.next 4 l.m r c.in_err-front.ensures)
    ∙ constraints_stopped a.s.now _ l.next (whole_set a.counts.r a.counts.n l.m rest reads outputs l.list) l.invariant.0 (l.invariant.1 rest reads outputs) _ (stopped_there a.s.now l.next 4 l.m r c.in_err-front.ensures)

pub end_at-requires : goal.end_at-requires
end_at-requires c = omega (arith, whole (goal.at.end_at-requires c).In_ok-front)

pub returns-in_err-end : goal.returns-in_err-end
returns-in_err-end c rest reads outputs =
    let l = c.loop-front in
    let a = c.args in
    let f = c.in_ok-front.front in
    let p = (goal.at.returns-in_err-end c).In_ok-front in
    let s = whole_set a.counts.r a.counts.n l.m rest reads outputs l.list in
    let refused : c.from_residual-in_err-end.result ≡ Err c.in_err-end.field-0.0 = grind arith in
    ap (λ x. reached_by x (λ k. whole_set a.counts.r a.counts.n k.m rest reads outputs k.list)) refused ∙ ap (λ p. reached p s) c.in_err-end.ensures
    ∙ constraints_end a.s.now _ f.at s l.invariant.0 (so_far p rest reads outputs) _ _ (header p) c.if-front-eq-TAG_END.true

pub returns-then-front-eq-TAG_END : goal.returns-then-front-eq-TAG_END
returns-then-front-eq-TAG_END c rest reads outputs =
    let l = c.loop-front in
    let a = c.args in
    let f = c.in_ok-front.front in
    let p = (goal.at.returns-then-front-eq-TAG_END c).In_ok-front in
    let s = whole_set a.counts.r a.counts.n l.m rest reads outputs l.list in
    ap (λ p. reached p s) c.in_ok-end.ensures
    ∙ constraints_end a.s.now _ f.at s l.invariant.0 (so_far p rest reads outputs) _ _ (header p) c.if-front-eq-TAG_END.true

pub overflow_add-behind : goal.overflow_add-behind
overflow_add-behind c = omega (arith, whole (goal.at.overflow_add-behind c).In_ok-front, c.well_formed)

pub overflow_add-behind-in-loop-front : goal.overflow_add-behind-in-loop-front
overflow_add-behind-in-loop-front c = omega (arith, whole (goal.at.overflow_add-behind-in-loop-front c).In_ok-front, c.well_formed)

pub overflow_add-offset : goal.overflow_add-offset
overflow_add-offset c = omega (arith, whole (goal.at.overflow_add-offset c).In_ok-front, c.well_formed)

pub slice_bounds-literals_of-end : goal.slice_bounds-literals_of-end
slice_bounds-literals_of-end c = whole (goal.at.slice_bounds-literals_of-end c).In_ok-front

pub bounds-list-m : goal.bounds-list-m
bounds-list-m c = few (goal.at.bounds-list-m c).Else-front-eq-TAG_END

pub returns-in-Err : goal.returns-in-Err
returns-in-Err c rest reads outputs =
    let l = c.loop-front in
    let a = c.args in
    let p = (goal.at.returns-in-Err c).In_ok-front in
    let s = whole_set a.counts.r a.counts.n l.m rest reads outputs l.list in
    sym (constraints_by a.s.now _ c.in_ok-front.front.at s l.invariant.0 (so_far p rest reads outputs) _ _ (header p) c.if-front-eq-TAG_END.false c.is_wide-wide.result c.is_wide-wide.ensures
    (literals_told (Err c.in-Err.fault)) c.args.counts.in_range c.in-Err.ensures _ refl)

pub loop-front-preserved : goal.loop-front-preserved
loop-front-preserved c =
    let l = c.loop-front in
    let a = c.args in
    let f = c.in_ok-front.front in
    let p = (goal.at.loop-front-preserved c).In_ok-front in (
      omega (arith, few (goal.at.loop-front-preserved c).Else-front-eq-TAG_END),
      λ rest reads outputs.
          let s = whole_set a.counts.r a.counts.n l.m rest reads outputs l.list in
          let left : most_constraints - l.m ≡ suc most_constraints - (l.m + 1) = omega arith in
          constraints_by a.s.now _ f.at s l.invariant.0 (so_far p rest reads outputs) _ _ (header p) c.if-front-eq-TAG_END.false c.is_wide-wide.result c.is_wide-wide.ensures
          (literals_told (Ok c.in-Ok.made)) c.args.counts.in_range c.in-Ok.ensures _ refl
          ∙ ap (λ (x : ℕ). constraints_from a.s.now x (f.at + 3 + f.len) (with_constraint s c.in-Ok.made)) left,
    )
