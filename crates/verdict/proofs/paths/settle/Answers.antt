-- `verdict::paths::settle` meets its contract: a path of one vector is marked at once; what the trail has lost of a longer one by going again, the rest from the
-- trail. Assumes nothing.
use mathlib.Core.Path.{◌≡◌, refl, sym, ap, subst, ◌∙◌}
use mathlib.Core.Bool.{true, false, not}
use mathlib.Core.List.{List}
use Prim.Native.Nat.{ℕ, ◌+◌, ◌-◌, ◌≤◌, ◌<◌}
use native.Mathlib.Omega.{arith}
use lib.Dec.{ltb}
use borrow.Author.Tests.{lt-ltb, le-ltb, ltb-true}
use Rattle.words.specs.Loop.{iterate}
use Rattle.words.proofs.LoopTurns.{some_none, some_miss}
use Rattle.scan.specs.way.Table.{pass_in}
use Rattle.words.proofs.BoolLaws.{and_true, cond_true, cond_false}
use Rattle.verdict.specs.way.Marks.{marked, with_mark}
use Rattle.verdict.specs.way.Paths.{passes_to_mark, comes_to_mark, path_marked, settled, trail_places, Trail, trail_marked}
use Rattle.verdict.proofs.PathsLaws.{reached_some, reached_none, come_here, path_none, path_more, trail_path}
use Rattle.verdict.proofs.paths.settle.Goals as goal

module _ (next : ℕ → ℕ) (limit v : ℕ) (marks : List ℕ) (made : ℕ) (em : made ≡ passes_to_mark next marks limit v) where
  comes : made ≤ limit → true ≡ comes_to_mark next marks limit v
  unfolding comes_to_mark
  comes h = sym (ap not (le-ltb limit (passes_to_mark next marks limit v) (omega (arith, em))))

  stays : limit < made → false ≡ comes_to_mark next marks limit v
  unfolding comes_to_mark
  stays h = sym (ap not (lt-ltb limit (passes_to_mark next marks limit v) (omega (arith, em))))

  came : made ≤ limit → (x : List ℕ) → x ≡ path_marked next made v marks → x ≡ settled next limit v marks
  unfolding settled
  came h x ex =
      ex ∙ ap (λ (k : ℕ). path_marked next k v marks) em
      ∙ cond_true (comes_to_mark next marks limit v) (path_marked next (passes_to_mark next marks limit v) v marks) marks (sym (comes h))

  stayed : limit < made → marks ≡ settled next limit v marks
  unfolding settled
  stayed h = cond_false (comes_to_mark next marks limit v) (path_marked next (passes_to_mark next marks limit v) v marks) marks (sym (stays h))

module _ (next : ℕ → ℕ) (v : ℕ) (marks : List ℕ) where
  -- a vector that is marked is there after no pass
  here : (limit : ℕ) → marked marks v ≡ true → 0 ≡ passes_to_mark next marks limit v
  unfolding iterate
  here limit e = come_here next marks limit v 0 v (omega arith) refl (some_none _) (marked marks v) refl e

  -- where it is not, and the one after a pass is, that is the first
  one_pass : (limit : ℕ) → marked marks v ≡ false → 1 ≤ limit → (x : ℕ) → x ≡ next v → marked marks x ≡ true → 1 ≡ passes_to_mark next marks limit v
  unfolding iterate
  one_pass limit f h x ex e = come_here next marks limit v 1 x h ex (some_miss _ 0 (some_none _) f) (marked marks x) refl e

  -- a path of one vector
  alone : with_mark marks v ≡ path_marked next 1 v marks
  unfolding iterate
  alone = path_more next v marks 0 v marks (path_none next v marks 0 refl) refl

  -- a path of which the first `lost` vectors are gone again and the others are in the trail
  joined : (made : ℕ) (trail : List ℕ) → Trail next v made trail → (lost : ℕ) → lost ≡ made - trail_places → (mid x : List ℕ)
      → mid ≡ path_marked next lost v marks → x ≡ trail_marked trail lost (made - lost) mid → x ≡ path_marked next made v marks
  joined made trail t lost el mid x em ex =
      let all : lost + (made - lost) ≡ made = omega (arith, el) in
      ex ∙ ap (trail_marked trail lost (made - lost)) em
      ∙ trail_path next v made trail t marks lost (omega (arith, el)) (made - lost) (omega (arith, el))
      ∙ ap (λ (k : ℕ). path_marked next k v marks) all

pub returns-then-is_marked : goal.returns-then-is_marked
returns-then-is_marked c =
    let a = c.args in
    let next = pass_in a.table.now in
    let at_once = here next a.from a.marks.now a.table.now.limit (sym c.is_marked.ensures ∙ c.if-is_marked.true) in record {
      value = comes next a.table.now.limit a.from a.marks.now 0 at_once (omega arith);
      marks_after = came next a.table.now.limit a.from a.marks.now 0 at_once (omega arith) _ (path_none next a.from a.marks.now 0 refl);
      trail_len = c.requires;
    }

pub returns-then-both : goal.returns-then-both
returns-then-both c =
    let a = c.args in
    let next = pass_in a.table.now in
    let on = and_true (ltb 0 a.table.now.limit) c.is_marked-2.result (sym c.both.ensures ∙ c.if-both.true) in
    let some = ltb-true 0 a.table.now.limit on.0 in
    let soon = one_pass next a.from a.marks.now a.table.now.limit (sym c.is_marked.ensures ∙ c.if-is_marked.false) (omega arith) c.pass.result c.pass.ensures
    (sym c.is_marked-2.ensures ∙ on.1) in record {
      value = comes next a.table.now.limit a.from a.marks.now 1 soon (omega arith);
      marks_after = came next a.table.now.limit a.from a.marks.now 1 soon (omega arith) _ (c.put_mark.ensures ∙ alone next a.from a.marks.now);
      trail_len = c.requires;
    }

pub returns-in_default : goal.returns-in_default
returns-in_default c =
    let a = c.args in
    let next = pass_in a.table.now in
    let far = reached_none next a.marks.now a.table.now.limit a.from (sym c.in_default.is ∙ c.passes_to_mark.ensures.value) in record {
      value = stays next a.table.now.limit a.from a.marks.now _ refl far;
      marks_after = stayed next a.table.now.limit a.from a.marks.now _ refl far;
      trail_len = c.passes_to_mark.ensures.trail.long;
    }

pub returns : goal.returns
returns c =
    let a = c.args in
    let next = pass_in a.table.now in
    let made = c.in-Some.made in
    let trail = c.passes_to_mark.new.trail in
    let told = reached_some next a.marks.now a.table.now.limit a.from made (sym c.in-Some.is ∙ c.passes_to_mark.ensures.value) in
    let long = subst (λ (k : ℕ). Trail next a.from k trail) (sym told.0) c.passes_to_mark.ensures.trail in record {
      value = comes next a.table.now.limit a.from a.marks.now made told.0 told.1;
      marks_after = came next a.table.now.limit a.from a.marks.now made told.0 told.1 _
          (joined next a.from a.marks.now made trail long c.saturating_sub-lost.result c.saturating_sub-lost.ensures _ _ c.mark_path.ensures c.mark_trail.ensures);
      trail_len = c.passes_to_mark.ensures.trail.long;
    }
