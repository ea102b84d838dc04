-- `verdict::verdict::judge` meets its contract. Assumes nothing.
use mathlib.Core.Path.{◌≡◌, refl, sym, ap, ◌∙◌}
use mathlib.Core.Bool.{true}
use Prim.Native.Nat.{ℕ, ◌-◌, ◌≤◌, min}
use native.Mathlib.Nat.{sub-zero, min-eq_left}
use native.Mathlib.Omega.{arith}
use lib.ListN.{length, length-replicate}
use lib.Seq.{length-take-le}
use Rattle.scan.specs.declared.set.Set.{Set}
use Rattle.scan.specs.Set.{most_outputs}
use Rattle.scan.specs.Shape.{well_formed}
use Rattle.scan.proofs.ShapeLaws.{counts}
use Rattle.verdict.specs.Judge.{scratch_bytes}
use Rattle.verdict.specs.way.Paths.{trail_places}
use Rattle.verdict.proofs.JudgeLaws.{bad_set, short_scratch, judged, later_kept}
use Rattle.verdict.proofs.SeenLaws.{known_none, known_vectors}
use Rattle.verdict.proofs.verdict.judge.Goals as goal
use Rattle.verdict.proofs.verdict.judge.Goals.{After-scratch_bytes-bytes}

-- past the first test the set is well formed, and the bytes of scratch are counted
module _ (b : After-scratch_bytes-bytes) where
  abbrev set : Set
  set = b.args.set

  formed : well_formed set ≡ true
  formed = sym b.well_formed-2.ensures ∙ b.if-not-well_formed.false

  abbrev bytes : ℕ
  bytes = b.scratch_bytes-bytes.result

  bytes_told : bytes ≡ scratch_bytes set.n
  bytes_told =
      let told : bytes ≡ scratch_bytes (min set.n most_outputs) = b.scratch_bytes-bytes.ensures in
      told ∙ ap scratch_bytes (min-eq_left (counts set formed).n_le)

  part_is : bytes - 0 ≡ scratch_bytes set.n
  part_is = sub-zero bytes ∙ bytes_told

pub returns-then-not-well_formed : goal.returns-then-not-well_formed
returns-then-not-well_formed c =
    let a = c.args in
    record { value = bad_set a.set (length a.scratch.now) (sym c.well_formed-2.ensures ∙ c.if-not-well_formed.true); scratch_unchanged = refl }

pub returns-then-scratch-bytes : goal.returns-then-scratch-bytes
returns-then-scratch-bytes c =
    let b = c in
    let a = b.args in
    record { value = short_scratch a.set (length a.scratch.now) (formed (goal.at.returns-then-scratch-bytes c).After-scratch_bytes-bytes) (omega (arith, bytes_told (goal.at.returns-then-scratch-bytes c).After-scratch_bytes-bytes, c.if-scratch-bytes.true)); scratch_unchanged = refl }

pub first_failing-found-requires : goal.first_failing-found-requires
first_failing-found-requires c =
    let f = c in
    let b = f in
    let a = b.args in
    let room : bytes (goal.at.first_failing-found-requires c).After-scratch_bytes-bytes - 0 ≤ length a.scratch.now = omega (arith, f.if-scratch-bytes.false) in
    (formed (goal.at.first_failing-found-requires c).After-scratch_bytes-bytes, length-take-le (bytes (goal.at.first_failing-found-requires c).After-scratch_bytes-bytes - 0) a.scratch.now room ∙ part_is (goal.at.first_failing-found-requires c).After-scratch_bytes-bytes, length-replicate {A = ℕ} trail_places 0, known_none a.set (formed (goal.at.first_failing-found-requires c).After-scratch_bytes-bytes))

pub revise-requires : goal.revise-requires
revise-requires c =
    let j = c in
    let b = j in
    (formed (goal.at.revise-requires c).After-scratch_bytes-bytes, j.first_failing-found.ensures.value, known_vectors (set (goal.at.revise-requires c).After-scratch_bytes-bytes) _ j.first_failing-found.ensures.known)

pub returns : goal.returns
returns c =
    let j = c in
    let f = j in
    let b = f in
    let a = b.args in
    let room : scratch_bytes a.set.n ≤ length a.scratch.now = omega (arith, bytes_told (goal.at.returns c).After-scratch_bytes-bytes, f.if-scratch-bytes.false) in record {
      value = c.revise.ensures ∙ judged a.set (length a.scratch.now) (formed (goal.at.returns c).After-scratch_bytes-bytes) room;
      scratch_unchanged = later_kept a.set (length a.scratch.now) (formed (goal.at.returns c).After-scratch_bytes-bytes) room (bytes (goal.at.returns c).After-scratch_bytes-bytes - 0) (part_is (goal.at.returns c).After-scratch_bytes-bytes) j.first_failing-found.new.marks a.scratch.now
          (j.first_failing-found.auto.marks ∙ length-take-le (bytes (goal.at.returns c).After-scratch_bytes-bytes - 0) a.scratch.now (omega (arith, f.if-scratch-bytes.false)));
    }
