-- `loader::loader::load` meets its contract: what follows the counts goes on from where they have brought the load, or it stays refused. Assumes nothing.
use mathlib.Core.Path.{refl, sym, ap, ap₂, ◌∙◌}
use Prim.Native.Nat.{ℕ}
use Rattle.std.specs.Prelude.{Ok, Err}
use Rattle.loader.specs.declared.loader.Counts.{Counts}
use Rattle.loader.specs.Load.{answered, of_counts, counts_at, after_counts, load_from, load_of}
use Rattle.loader.specs.way.Load.{loaded_with}
use Rattle.loader.proofs.LoadTurns.{stays, goes}
use Rattle.loader.proofs.loader.load.Goals as goal

pub returns : goal.returns
unfolding load_from load_of
returns c =
    let s = c.args.file.now in
    let got : Counts × ℕ = c.in-Ok.counted in
    c.load_behind.ensures ∙ sym (ap answered (goes (counts_at s) (after_counts s) (λ (y : Counts). of_counts y.r y.n) (Ok got) c.in-Ok.ensures got refl))

pub returns-in-Err : goal.returns-in-Err
unfolding load_from load_of
returns-in-Err c =
    let s = c.args.file.now in
    let r = c.in-Err.refusal in
    ap₂ loaded_with c.answer_of.ensures c.zero_set.ensures
    ∙ sym (ap answered (stays (counts_at s) (after_counts s) (λ (y : Counts). of_counts y.r y.n) (Err r) c.in-Err.ensures r refl))
