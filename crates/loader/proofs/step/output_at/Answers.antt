-- `loader::step::output_at` meets its contract: by the field's header, then by its body. Assumes nothing.
use mathlib.Core.List.{List}
use Prim.Native.Nat.{ℕ, ◌+◌, ◌≤◌, min}
use native.Mathlib.Omega.{arith}
use lib.ListN.{length}
use Rattle.std.specs.Prelude.{Result, Ok, Err}
use Rattle.scan.specs.Set.{most_reads, most_outputs}
use Rattle.loader.specs.Load.{name_field}
use Rattle.loader.specs.way.Load.{name_given}
use Rattle.header.proofs.HeaderLaws.{front_within}
use Rattle.header.specs.Fault.{number}
use Rattle.shape.specs.way.Names.{name_used}
use Rattle.loader.proofs.LoadWayLaws.{step_taken}
use Rattle.loader.proofs.step.output_at.Goals as goal
use Rattle.loader.proofs.step.output_at.Goals.{In_ok-front}

-- what the body gives
abbrev got : In_ok-front → List ℕ → Result (List ℕ) ℕ
got c body = let a = c.args in name_given (name_field (name_used a.reads.now (min a.r most_reads) a.outputs.now (min a.j most_outputs)) body)

-- the field is within the file
whole : (c : In_ok-front) → c.in_ok-front.front.at + 3 + c.in_ok-front.front.len ≤ length c.args.s.now
whole c = front_within c.args.s.now c.args.at 3 0 c.in_ok-front.front c.in_ok-front.ensures

pub overflow_add-behind : goal.overflow_add-behind
overflow_add-behind c = omega (arith, whole (goal.at.overflow_add-behind c).In_ok-front, c.well_formed)

pub overflow_add-behind-2 : goal.overflow_add-behind-2
overflow_add-behind-2 c = omega (arith, whole (goal.at.overflow_add-behind-2 c).In_ok-front, c.well_formed)

pub overflow_add-offset : goal.overflow_add-offset
overflow_add-offset c = omega (arith, whole (goal.at.overflow_add-offset c).In_ok-front, c.well_formed)

pub slice_bounds-name_of-end : goal.slice_bounds-name_of-end
slice_bounds-name_of-end c = whole (goal.at.slice_bounds-name_of-end c).In_ok-front

pub returns-in-Ok : goal.returns-in-Ok
returns-in-Ok c =
    let a = c.args in
    step_taken a.s.now a.at 3 (got (goal.at.returns-in-Ok c).In_ok-front) c.in_ok-front.front c.in_ok-front.ensures (Ok c.in-Ok.name) c.in-Ok.ensures

pub returns-in-Err : goal.returns-in-Err
returns-in-Err c =
    let a = c.args in
    step_taken a.s.now a.at 3 (got (goal.at.returns-in-Err c).In_ok-front) c.in_ok-front.front c.in_ok-front.ensures (Err (number c.in-Err.fault)) c.in-Err.ensures
