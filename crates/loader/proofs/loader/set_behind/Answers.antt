-- `loader::loader::set_behind` meets its contract: each part goes on from where the one before has brought the load, or stays refused. Assumes nothing.
use mathlib.Core.Path.{◌≡◌, refl, sym, ◌∙◌, ap}
use native.Mathlib.Omega.{arith}
use Rattle.std.specs.Prelude.{Err}
use Rattle.header.specs.Fault.{number}
use Rattle.loader.specs.declared.loader.LoadAnswer.TheVariants.{Refused as WasRefused}
use Rattle.scan.specs.Set.{with_reads, with_outputs, zero_set}
use Rattle.loader.specs.Load.{answered, of_counts, reads_from, outputs_from, rest_at, after_counts, after_reads, after_outputs, after_rest}
use Rattle.loader.specs.way.Load.{numbered, reached_by, points_set, rested_set, whole_set, loaded_with, loaded_told}
use Rattle.loader.proofs.LoadTurns.{stays, goes}
use Rattle.loader.proofs.LoadWayLaws.{rest_stepped}
use Rattle.loader.proofs.loader.set_behind.Goals as goal
use Rattle.loader.proofs.loader.set_behind.Goals.{In_ok-reads, In_ok-outputs, In_ok-rest}

-- where each part brings the load
loaded_reads : (c : In_ok-reads) → let s = c.args.file.now in
    let k = c.args.counts in
    after_counts s c.args.at (of_counts k.r k.n) ≡ after_reads s c.in_ok-reads.at (with_reads (of_counts k.r k.n) c.in_ok-reads.reads)
loaded_reads c =
    let s = c.args.file.now in
    let k = c.args.counts in
    goes (reads_from s k.r 0 c.args.at (of_counts k.r k.n)) (after_reads s) (with_reads (of_counts k.r k.n)) c.reads_at.result c.reads_at.ensures.0 _ c.in_ok-reads.was

loaded_outputs : (c : In_ok-outputs) → let s = c.args.file.now in
    let k = c.args.counts in
    after_reads s c.in_ok-reads.at (with_reads (of_counts k.r k.n) c.in_ok-reads.reads) ≡ after_outputs s c.in_ok-outputs.at (points_set k.r k.n c.in_ok-reads.reads c.in_ok-outputs.outputs)
loaded_outputs c =
    let s = c.args.file.now in
    let k = c.args.counts in
    let reads = c.in_ok-reads.reads in
    let so_far = with_reads (of_counts k.r k.n) reads in
    goes (outputs_from s k.n 0 c.in_ok-reads.at so_far) (after_outputs s) (with_outputs so_far) c.outputs_at.result (c.outputs_at.ensures reads c.in_ok-reads.ensures.1) _ c.in_ok-outputs.was

loaded_rest : (c : In_ok-rest) → let s = c.args.file.now in
    let k = c.args.counts in
    after_outputs s c.in_ok-outputs.at (points_set k.r k.n c.in_ok-reads.reads c.in_ok-outputs.outputs)
    ≡ after_rest s c.in_ok-rest.at (rested_set k.r k.n c.in_ok-rest.rest c.in_ok-reads.reads c.in_ok-outputs.outputs)
loaded_rest c =
    let s = c.args.file.now in
    let k = c.args.counts in
    let reads = c.in_ok-reads.reads in
    let outputs = c.in_ok-outputs.outputs in
    goes (rest_at s c.in_ok-outputs.at (points_set k.r k.n reads outputs)) (after_rest s) (λ rest. rested_set k.r k.n rest reads outputs) c.rest_at.result
    (rest_stepped s c.in_ok-outputs.at k.r k.n reads outputs (numbered c.rest_at.result) c.rest_at.ensures) _ c.in_ok-rest.was

pub reads_at-requires : goal.reads_at-requires
unfolding zero_set
reads_at-requires c = refl

pub returns-in_err-reads : goal.returns-in_err-reads
returns-in_err-reads c =
    let s = c.args.file.now in
    let k = c.args.counts in
    let r = c.in_err-reads.field-0.0 in
    let refused : c.from_residual.result ≡ Err r = grind arith in
    ap (λ x. loaded_told x c.args.set.now) refused ∙ ap (loaded_with (WasRefused (number r.fault) r.offset)) c.requires
    ∙ sym (ap answered (stays (reads_from s k.r 0 c.args.at (of_counts k.r k.n)) (after_reads s) (with_reads (of_counts k.r k.n)) c.reads_at.result c.reads_at.ensures.0 r c.in_err-reads.was))

pub returns-in_err-outputs : goal.returns-in_err-outputs
returns-in_err-outputs c =
    let s = c.args.file.now in
    let p = goal.at.returns-in_err-outputs c in
    let k = c.args.counts in
    let reads = c.in_ok-reads.reads in
    let so_far = with_reads (of_counts k.r k.n) reads in
    let r = c.in_err-outputs.field-0.0 in
    let refused : c.from_residual-in_err-outputs.result ≡ Err r = grind arith in
    ap (λ x. loaded_told x c.args.set.now) refused ∙ ap (loaded_with (WasRefused (number r.fault) r.offset)) c.requires
    ∙ sym (ap answered (loaded_reads p.In_ok-reads
    ∙ stays (outputs_from s k.n 0 c.in_ok-reads.at so_far) (after_outputs s) (with_outputs so_far) c.outputs_at.result (c.outputs_at.ensures reads c.in_ok-reads.ensures.1) r c.in_err-outputs.was))

pub returns-in_err-rest : goal.returns-in_err-rest
returns-in_err-rest c =
    let s = c.args.file.now in
    let p = goal.at.returns-in_err-rest c in
    let k = c.args.counts in
    let reads = c.in_ok-reads.reads in
    let outputs = c.in_ok-outputs.outputs in
    let r = c.in_err-rest.field-0.0 in
    let refused : c.from_residual-in_err-rest.result ≡ Err r = grind arith in
    ap (λ x. loaded_told x c.args.set.now) refused ∙ ap (loaded_with (WasRefused (number r.fault) r.offset)) c.requires
    ∙ sym (ap answered (loaded_reads p.In_ok-reads ∙ loaded_outputs p.In_ok-outputs
    ∙ stays (rest_at s c.in_ok-outputs.at (points_set k.r k.n reads outputs)) (after_rest s) (λ rest. rested_set k.r k.n rest reads outputs) c.rest_at.result
    (rest_stepped s c.in_ok-outputs.at k.r k.n reads outputs (numbered c.rest_at.result) c.rest_at.ensures) r c.in_err-rest.was))

pub returns-in_err-m : goal.returns-in_err-m
returns-in_err-m c =
    let p = goal.at.returns-in_err-m c in
    let k = c.args.counts in
    let reads = c.in_ok-reads.reads in
    let outputs = c.in_ok-outputs.outputs in
    let rest = c.in_ok-rest.rest in
    let r = c.in_err-m.field-0.0 in
    let refused : c.from_residual-in_err-m.result ≡ Err r = grind arith in
    ap (λ x. loaded_told x c.args.set.now) refused ∙ ap (loaded_with (WasRefused (number r.fault) r.offset)) c.requires
    ∙ ap answered (sym (ap (λ x. reached_by x (λ y. whole_set k.r k.n y.m rest reads outputs y.list)) c.in_err-m.was) ∙ c.constraints_at.ensures rest reads outputs
    ∙ sym (loaded_reads p.In_ok-reads ∙ loaded_outputs p.In_ok-outputs ∙ loaded_rest p.In_ok-rest))

pub returns : goal.returns
returns c =
    let p = goal.at.returns c in
    let k = c.args.counts in
    let reads = c.in_ok-reads.reads in
    let outputs = c.in_ok-outputs.outputs in
    let rest = c.in_ok-rest.rest in
    ap answered (sym (ap (λ x. reached_by x (λ y. whole_set k.r k.n y.m rest reads outputs y.list)) c.in_ok-m.was) ∙ c.constraints_at.ensures rest reads outputs
    ∙ sym (loaded_reads p.In_ok-reads ∙ loaded_outputs p.In_ok-outputs ∙ loaded_rest p.In_ok-rest))
