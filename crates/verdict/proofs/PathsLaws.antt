-- Walks to a mark, turn by turn: looking for a mark, marking a path, and the trail of a path's last vectors.
-- Assumes nothing.
use mathlib.Core.Path.{◌≡◌, refl, sym, ap, ap₂, ◌∙◌, subst}
use mathlib.Core.Bool.{Bool, true, false}
use mathlib.Core.List.{List}
use Prim.Native.Nat.{ℕ, zero, suc, ◌+◌, ◌%◌, ◌≤◌, ◌<◌}
use native.Mathlib.Nat.{add-zero}
use native.Mathlib.Numerals.{add-one}
use native.Mathlib.Decide.{ℕ_discrete}
use native.Mathlib.Omega.{arith}
use lib.ListN.{length, get_or, set, length-set}
use lib.Seq.{get_or-set_same, get_or-set_other}
use lib.Dec.{ltb}
use borrow.Author.Tests.{lt-ltb, le-ltb, ltb-true, ltb-false}
use Rattle.std.specs.Prelude.{Some, None}
use Rattle.words.proofs.BoolLaws.{by_test, cond_true, cond_false}
use Rattle.words.specs.Loop.{some, iterate}
use Rattle.words.proofs.LoopTurns.{some_miss, missed_here, missed_all}
use Rattle.verdict.specs.way.Marks.{marked, with_mark}
use Rattle.verdict.specs.way.Paths.{mark_reached, passes_to_mark, path_marked, trail_places, Trail, trail_marked}

-- one pass more, as code counts
pub pass_more : (next : ℕ → ℕ) (from made v x : ℕ) → v ≡ iterate next made from → x ≡ next v → x ≡ iterate next (made + 1) from
unfolding iterate
pass_more next from made v x e ex = ex ∙ ap next e ∙ ap (λ (k : ℕ). iterate next k from) (sym (add-one made))

-- ---- looking for a mark

-- the vector after k passes is marked
abbrev pub marked_after : (ℕ → ℕ) → List ℕ → ℕ → ℕ → Bool
marked_after next marks from k = marked marks (iterate next k from)

-- at the vector after `made` passes, where none before it is marked; b tells whether it is
module _ (next : ℕ → ℕ) (marks : List ℕ) (limit from made v : ℕ) (few : made ≤ limit) (at : v ≡ iterate next made from)
    (none : some made (marked_after next marks from) ≡ false) (b : Bool) (eb : b ≡ marked marks v) where
  here : b ≡ marked_after next marks from made
  here = eb ∙ ap (marked marks) at

  pub come_here : b ≡ true → made ≡ passes_to_mark next marks limit from
  unfolding passes_to_mark
  come_here e = missed_here (limit + 1) (marked_after next marks from) made (omega arith, none) (omega arith) (sym here ∙ e)

  pub come_on : b ≡ false → some (made + 1) (marked_after next marks from) ≡ false
  come_on e = some_miss (marked_after next marks from) made none (sym here ∙ e)

-- and where none at all is marked
pub none_came : (next : ℕ → ℕ) (marks : List ℕ) (limit from made : ℕ) → made ≡ limit + 1 → some made (marked_after next marks from) ≡ false
    → made ≡ passes_to_mark next marks limit from
unfolding passes_to_mark
none_came next marks limit from made all none = all ∙ missed_all (limit + 1) (marked_after next marks from) made (omega (arith, all), none) (omega (arith, all))

-- the passes, if there is a mark
module _ (next : ℕ → ℕ) (marks : List ℕ) (limit v : ℕ) where
  abbrev due : ℕ
  due = passes_to_mark next marks limit v

  pub reach_some : (made : ℕ) → made ≡ due → made ≤ limit → Some made ≡ mark_reached next marks limit v
  unfolding mark_reached
  reach_some made e h = ap Some e ∙ cond_false (ltb limit due) None (Some due) (le-ltb limit due (omega (arith, e)))

  pub reach_none : limit < due → None ≡ mark_reached next marks limit v
  unfolding mark_reached
  reach_none h = cond_true (ltb limit due) None (Some due) (lt-ltb limit due h)

  pub reached_some : (made : ℕ) → Some made ≡ mark_reached next marks limit v → (made ≡ due) × (made ≤ limit)
  unfolding mark_reached
  reached_some made e =
      by_test (ltb limit due)
      (λ t. let no : Some made ≡ None = e ∙ sym (cond_true (ltb limit due) None (Some due) t) in absurd (cc no))
      (λ f. let is : Some made ≡ Some due = e ∙ sym (cond_false (ltb limit due) None (Some due) f) in
      let same : made ≡ due = cc is in
      let few = ltb-false limit due f in
      (same, omega (arith, same, few)))

  pub reached_none : None ≡ mark_reached next marks limit v → limit < due
  unfolding mark_reached
  reached_none e =
      by_test (ltb limit due)
      (λ t. ltb-true limit due t)
      (λ f. let no : None ≡ Some due = e ∙ sym (cond_false (ltb limit due) None (Some due) f) in absurd (cc no))

-- ---- marking a path

module _ (next : ℕ → ℕ) (v : ℕ) (marks : List ℕ) where
  pub path_none : (k : ℕ) → k ≡ 0 → marks ≡ path_marked next k v marks
  unfolding path_marked
  path_none k e = ap (λ (j : ℕ). path_marked next j v marks) (sym e)

  pub path_more : (k x : ℕ) (l : List ℕ) → l ≡ path_marked next k v marks → x ≡ iterate next k v → with_mark l x ≡ path_marked next (k + 1) v marks
  unfolding path_marked
  path_more k x l el ex = ap₂ with_mark el ex ∙ ap (λ (j : ℕ). path_marked next j v marks) (sym (add-one k))

-- ---- the trail

module _ (next : ℕ → ℕ) (v : ℕ) where
  pub trail_none : (trail : List ℕ) → length trail ≡ trail_places → Trail next v 0 trail
  trail_none trail long = record { long = long; at = λ k h l. absurd (omega arith) }

  -- one vector more takes the place of the one that is lost
  pub trail_more : (made x : ℕ) (trail : List ℕ) → Trail next v made trail → x ≡ iterate next made v → Trail next v (made + 1) (set trail (made % trail_places) x)
  trail_more made x trail t ex = record {
    long = length-set trail (made % trail_places) x ∙ t.long;
    at = λ k h l. go k h l (ℕ_discrete k made);
  }
    where
      room : made % trail_places < length trail
      room = subst (λ (n : ℕ). made % trail_places < n) (sym t.long) (omega arith)

      go : (k : ℕ) → k < made + 1 → made + 1 ≤ k + trail_places → Dec (k ≡ made) → get_or (set trail (made % trail_places) x) (k % trail_places) 0 ≡ iterate next k v
      go k h l (yes e) =
          ap (λ (j : ℕ). get_or (set trail (made % trail_places) x) (j % trail_places) 0) e
          ∙ get_or-set_same trail (made % trail_places) x 0 room ∙ ex ∙ ap (λ (j : ℕ). iterate next j v) (sym e)
      go k h l (no ne) =
          let apart : k % trail_places ≡ made % trail_places → ⊥ = λ q. omega (arith, q) in
          get_or-set_other trail (made % trail_places) (k % trail_places) x 0 apart ∙ t.at k (omega arith) (omega arith)

  -- marking from the trail is marking the path
  module _ (made : ℕ) (trail : List ℕ) (t : Trail next v made trail) (marks : List ℕ) (begin : ℕ) (near : made ≤ begin + trail_places) where
    pub trail_path : (more : ℕ) → begin + more ≤ made → trail_marked trail begin more (path_marked next begin v marks) ≡ path_marked next (begin + more) v marks
    unfolding trail_marked path_marked
    trail_path zero h = ap (λ (k : ℕ). path_marked next k v marks) (sym (add-zero begin))
    trail_path (suc more) h =
        let on : begin + suc more ≡ suc (begin + more) = omega arith in
        ap₂ with_mark (trail_path more (omega arith)) (t.at (begin + more) (omega arith) (omega arith))
        ∙ ap (λ (k : ℕ). path_marked next k v marks) (sym on)

-- one vector more of the trail is marked, as code counts
pub trail_step : (trail : List ℕ) (begin more x : ℕ) (marks l : List ℕ) → l ≡ trail_marked trail begin more marks → x ≡ get_or trail ((begin + more) % trail_places) 0
    → with_mark l x ≡ trail_marked trail begin (more + 1) marks
unfolding trail_marked
trail_step trail begin more x marks l el ex = ap₂ with_mark el ex ∙ ap (λ (k : ℕ). trail_marked trail begin k marks) (sym (add-one more))

pub trail_begun : (trail : List ℕ) (begin : ℕ) (marks : List ℕ) → marks ≡ trail_marked trail begin 0 marks
unfolding trail_marked
trail_begun trail begin marks = refl
