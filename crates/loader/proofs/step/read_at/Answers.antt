-- `loader::step::read_at` meets its contract: by the field's header, then by its body. Assumes nothing.
use mathlib.Core.List.{List}
use Prim.Native.Nat.{ℕ, ◌+◌, ◌≤◌, min}
use native.Mathlib.Omega.{arith}
use lib.ListN.{length}
use Rattle.std.specs.Prelude.{Result, Ok, Err}
use Rattle.scan.specs.declared.set.ReadPoint.{ReadPoint}
use Rattle.scan.specs.Set.{most_reads}
use Rattle.loader.specs.Load.{read_field}
use Rattle.loader.specs.way.Load.{not_past, read_given}
use Rattle.header.proofs.HeaderLaws.{front_header, front_within, read_length}
use Rattle.loader.proofs.LoadLaws.{body_long}
use Rattle.header.specs.Fault.{number}
use Rattle.shape.specs.way.Names.{name_used}
use Rattle.loader.proofs.LoadWayLaws.{step_taken}
use Rattle.loader.proofs.step.read_at.Goals as goal
use Rattle.loader.proofs.step.read_at.Goals.{In_ok-front}

-- what the body gives
abbrev got : In_ok-front → List ℕ → Result ReadPoint ℕ
got c body = let a = c.args in read_given (read_field a.n (not_past a.pasts.now) (name_used a.reads.now (min a.i most_reads) a.outputs.now 0) a.i body)

-- the field is within the file
whole : (c : In_ok-front) → c.in_ok-front.front.at + 3 + c.in_ok-front.front.len ≤ length c.args.s.now
whole c = front_within c.args.s.now c.args.at 2 0 c.in_ok-front.front c.in_ok-front.ensures

pub overflow_add-behind : goal.overflow_add-behind
overflow_add-behind c = omega (arith, whole (goal.at.overflow_add-behind c).In_ok-front, c.well_formed)

pub overflow_add-behind-2 : goal.overflow_add-behind-2
overflow_add-behind-2 c = omega (arith, whole (goal.at.overflow_add-behind-2 c).In_ok-front, c.well_formed)

pub overflow_add-offset : goal.overflow_add-offset
overflow_add-offset c = omega (arith, whole (goal.at.overflow_add-offset c).In_ok-front, c.well_formed)

pub slice_bounds-read_field-end : goal.slice_bounds-read_field-end
slice_bounds-read_field-end c = whole (goal.at.slice_bounds-read_field-end c).In_ok-front

pub read_field-requires : goal.read_field-requires
read_field-requires c =
    let f = c.in_ok-front.front in
    let a = c.args in
    let t = body_long a.s.now f.at f.len (whole (goal.at.read_field-requires c).In_ok-front) in
    let b = read_length _ _ _ (front_header a.s.now a.at 2 0 f c.in_ok-front.ensures) in
    (omega (arith, t, b), c.requires)

pub returns-in-Ok : goal.returns-in-Ok
returns-in-Ok c =
    let a = c.args in
    step_taken a.s.now a.at 2 (got (goal.at.returns-in-Ok c).In_ok-front) c.in_ok-front.front c.in_ok-front.ensures (Ok c.in-Ok.read) c.in-Ok.ensures

pub returns-in-Err : goal.returns-in-Err
returns-in-Err c =
    let a = c.args in
    step_taken a.s.now a.at 2 (got (goal.at.returns-in-Err c).In_ok-front) c.in_ok-front.front c.in_ok-front.ensures (Err (number c.in-Err.fault)) c.in-Err.ensures
