-- The places of a well-formed set: names with their zeros, and zeros beyond the counts.
-- Assumes nothing.
use mathlib.Core.Path.{◌≡◌, sym}
use mathlib.Core.Bool.{true, ◌||◌}
use Prim.Native.Nat.{ℕ, ◌<◌}
use native.Mathlib.Decide.{dec_lt}
use native.Mathlib.Omega.{arith}
use lib.Dec.{eqb, ltb}
use lib.ListN.{get_or-eq_default}
use borrow.Author.Tests.{eqb-true}
use Rattle.words.specs.Word.{bit}
use Rattle.words.proofs.BoolLaws.{by_test, and_true, or_true}
use Rattle.scan.specs.declared.set.Constraint.{Constraint}
use Rattle.scan.specs.declared.set.Set.{Set}
use Rattle.scan.specs.Set.{most_outputs, rank_end, read_point, output_point, constraint, rank, outs}
use Rattle.scan.specs.Shape.{rank_ok, well_formed}
use Rattle.scan.proofs.NamesLaws.{padded_bytes}
use Rattle.scan.proofs.ShapeLaws.{masks, beyond_zero, read_formed, output_formed, PointsFormed, points_formed}
use Rattle.scan.proofs.ZeroPlaces.{read_blank, output_blank, constraint_blank}
use Rattle.promise.specs.Terms.{NamesOutput}
use Rattle.promise.specs.Meanings.{PlacesMean}
use Rattle.promise.proofs.ConstraintMeanings.{names_iff}

module _ (s : Set) (ok : well_formed s ≡ true) where
  points : PointsFormed s
  points = points_formed s ok

  unnamed : (i : ℕ) → i < s.m → (k : ℕ) → ¬ NamesOutput (constraint s i) k → rank (constraint s i) k ≡ 0
  unfolding rank_ok
  unnamed i h k n = go (dec_lt k most_outputs)
    where
      c : Constraint
      c = constraint s i

      go : Dec (k < most_outputs) → rank c k ≡ 0
      go (yes l) =
          let either = (and_true (ltb (rank c k) rank_end) (bit k (outs c) || eqb (rank c k) 0) ((masks s ok i h).ranks_ok k l)).1 in
          eqb-true (rank c k) 0 (or_true (bit k (outs c)) (eqb (rank c k) 0) either (by_test (bit k (outs c)) (λ e. absurd (n ((names_iff c k).0 e))) (λ e. e)))
      go (no l) = let long = (masks s ok i h).ranks_long in get_or-eq_default c.ranks 0 {n = k} (omega arith)

  pub places_mean : PlacesMean s
  places_mean = record {
    read_name_bytes = λ k h. sym (padded_bytes (read_point s.reads k).name (read_formed s.reads s.n k (points.read_ok_law k h)).name_ok_law);
    output_name_bytes = λ j h. sym (padded_bytes (output_point s.outputs j).name (output_formed s.reads s.r s.outputs j (points.output_ok_law j h)).name_ok_law);
    places = (points.reads_long, points.outputs_long, points.constraints_long);
    rank_places = λ i h. (masks s ok i h).ranks_long;
    read_beyond = λ k l h. read_blank (read_point s.reads k) (points.read_zero_law k l h);
    output_beyond = λ j l h. output_blank (output_point s.outputs j) (points.output_zero j l h);
    constraint_beyond = λ i l h. constraint_blank (constraint s i) (beyond_zero s ok i l h);
    rank_unnamed = unnamed;
  }
