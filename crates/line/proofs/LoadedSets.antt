-- A loaded set is well formed and has at most 4,096 vectors: with 512 bytes of scratch, a bit for each, its verdict is neither 20 nor 21, but one of those that mean something.
-- Assumes nothing.
use mathlib.Core.Path.{◌≡◌}
use mathlib.Core.Bool.{true}
use mathlib.Core.List.{List}
use Prim.Native.Nat.{ℕ, ◌≤◌}
use native.Mathlib.Omega.{arith}
use Rattle.scan.specs.Set.{most_outputs}
use Rattle.scan.specs.Shape.{well_formed}
use Rattle.scan.proofs.ShapeLaws.{counts}
use Rattle.header.specs.Bytes.{Bytes}
use Rattle.loader.specs.declared.loader.LoadAnswer.TheVariants.{Loaded}
use Rattle.loader.specs.Load.{load_of}
use Rattle.setfile.proofs.WriteLoaded.{write_loaded}
use Rattle.verdict.specs.Judge.{judge_of}
use Rattle.verdict.specs.Meaning.{Means}
use Rattle.verdict.proofs.JudgeLaws.{scratch_eighth, scratch_mono}
use Rattle.verdict.proofs.MeaningLaws.{verdict_means}

pub loaded_judged : (file : List ℕ) (room : ℕ) → Bytes file → 512 ≤ room → (load_of file).answer ≡ Loaded → Means (load_of file).set (judge_of (load_of file).set room)
loaded_judged file room bytes enough loaded =
    let ok : well_formed (load_of file).set ≡ true = (write_loaded file bytes loaded).1 in
    let few = scratch_mono (load_of file).set.n most_outputs (counts (load_of file).set ok).n_le in
    verdict_means (load_of file).set ok room (omega (arith, few, scratch_eighth most_outputs (omega arith)))
