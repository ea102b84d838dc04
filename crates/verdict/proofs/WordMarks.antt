-- Marks at one read word of a well-formed set: they are right from the safe vectors on, stay right as requests are settled, and tell which walk
-- never is safe.
-- Assumes nothing.
use mathlib.Core.Path.{◌≡◌, sym, ap, ◌∙◌, subst, fun_ext}
use mathlib.Core.Bool.{Bool, true, false, not, ◌||◌}
use mathlib.Core.List.{List}
use Prim.Native.Nat.{ℕ, zero, suc, ◌+◌, ◌-◌, ◌/◌, ◌^◌, ◌≤◌, ◌<◌}
use native.Mathlib.Omega.{arith}
use lib.Dec.{eqb}
use lib.ListN.{length}
use lib.Pow.{pow_pos}
use borrow.Author.Tests.{eqb-true, ltb-true, ltb-false, not-true, not-false}
use Rattle.words.specs.Loop.{some, iterate}
use Rattle.words.proofs.BoolLaws.{by_test, clash, or_true, or_left}
use Rattle.words.proofs.LoopLaws.{First, first_spec, listed_long, some_false}
use Rattle.words.proofs.Orbit.{iterate_add}
use Rattle.scan.specs.declared.set.Set.{Set}
use Rattle.scan.specs.Shape.{well_formed}
use Rattle.scan.specs.Constraint.{safe, has_vector}
use Rattle.scan.specs.Active.{active_of}
use Rattle.scan.specs.declared.table.Table.{Table}
use Rattle.scan.specs.declared.holds.Holds.{Holds}
use Rattle.scan.specs.declared.holds.Holds.TheVariants.{Forced, Clash}
use Rattle.scan.specs.Holds.{unheld_count, pass_limit, start_from, start_vector}
use Rattle.scan.specs.way.Table.{table_of, safe_over, safe_held, safe_in, pass_in}
use Rattle.scan.specs.Pass.{pass}
use Rattle.scan.specs.Walk.{after, Reaches}
use Rattle.scan.proofs.PassLaws.{after_lt}
use Rattle.scan.proofs.TableLaws.{table_holds, table_safe, table_clash, table_pass, table_start, table_limit}
use Rattle.scan.proofs.WalkLaws.{ReachesFrom, safe_reaches, meets_reaches, walk_due, walk_never}
use Rattle.verdict.specs.Judge.{is_never, endless, none_by, none_at, scratch_bytes}
use Rattle.verdict.specs.way.Marks.{marked, with_mark, mark_byte, marked_where}
use Rattle.verdict.specs.way.Paths.{passes_to_mark, comes_to_mark, path_marked, settled}
use Rattle.verdict.proofs.MarksLaws.{byte_lt, mark_length, marked_more, marked_here, marked_passes}
use Rattle.verdict.proofs.PathsLaws.{marked_after}

-- a bit for each vector; a mark says that passes lead to a safe vector; every safe vector is marked
pub record Ready (s : Set) (w : ℕ) (marks : List ℕ) : Type 0 where
  pub long : length marks ≡ scratch_bytes s.n
  pub sound : (v : ℕ) → marked marks v ≡ true → ReachesFrom s w v
  pub complete : (v : ℕ) → v < 2 ^ s.n → safe s w v ≡ true → marked marks v ≡ true

module _ (s : Set) (ok : well_formed s ≡ true) (w : ℕ) where
  -- ---- the safe vectors

  pub ready_safe : Ready s w (marked_where s.n (safe s w))
  ready_safe = record {
    long = listed_long (mark_byte s.n (safe s w)) (scratch_bytes s.n);
    sound = λ v e. safe_reaches s w v (marked_passes s.n (safe s w) v e).1;
    complete = λ v h e. marked_here s.n (safe s w) v h ∙ e;
  }

  -- ---- one mark more, and a path of them

  ready_more : (marks : List ℕ) (v : ℕ) → Ready s w marks → v < 2 ^ s.n → ReachesFrom s w v → Ready s w (with_mark marks v)
  ready_more marks v ready h r =
      let there : v / 8 < length marks = omega (arith, ready.long, byte_lt s.n v h) in
      let more : (x : ℕ) → marked (with_mark marks v) x ≡ marked marks x || eqb x v = marked_more marks v there in
      record {
        long = mark_length marks v ∙ ready.long;
        sound = λ x e. by_test (marked marks x) (ready.sound x)
            (λ f. subst (ReachesFrom s w) (sym (eqb-true x v (or_true (marked marks x) (eqb x v) (sym (more x) ∙ e) f))) r);
        complete = λ x l e. more x ∙ or_left (marked marks x) (eqb x v) (ready.complete x l e);
      }

  -- a vector that is not marked is not safe
  unmarked_unsafe : (marks : List ℕ) → Ready s w marks → (v : ℕ) → v < 2 ^ s.n → marked marks v ≡ false → safe s w v ≡ false
  unmarked_unsafe marks ready v h e = by_test (safe s w v) (λ t. clash (ready.complete v h t) e) (λ f. f)

  -- a path of them, each below 2 ^ n and leading to a safe vector
  ready_path : (k v : ℕ) (marks : List ℕ) → Ready s w marks
      → ((j : ℕ) → j < k → (iterate (pass s w) j v < 2 ^ s.n) × ReachesFrom s w (iterate (pass s w) j v)) → Ready s w (path_marked (pass s w) k v marks)
  unfolding path_marked
  ready_path zero v marks ready all = ready
  ready_path (suc k) v marks ready all =
      let last = all k (omega arith) in
      ready_more (path_marked (pass s w) k v marks) (iterate (pass s w) k v) (ready_path k v marks ready (λ j l. all j (omega arith))) last.0 last.1

  -- the vectors of a walk before one that leads to a safe vector lead there too
  reaches_before : (g i j : ℕ) → j ≤ i → ReachesFrom s w (after s w g i) → ReachesFrom s w (after s w g j)
  unfolding after
  reaches_before g i j l r =
      let x = start_vector s w g in
      let e : j + (i - j) ≡ i = omega arith in (
        (i - j) + r.0,
        ap (safe s w)
            (iterate_add (pass s w) (iterate (pass s w) j x) (i - j) r.0
            ∙ ap (iterate (pass s w) r.0) (sym (iterate_add (pass s w) x j (i - j)) ∙ ap (λ (k : ℕ). iterate (pass s w) k x) e))
            ∙ r.1,
      )

  -- ---- a request

  module _ (marks : List ℕ) (ready : Ready s w marks) (g : ℕ) (fits : g < 2 ^ s.n) where
    -- the passes to the first mark
    abbrev made : ℕ
    made = passes_to_mark (pass s w) marks (pass_limit s w) (start_vector s w g)

    made_first : First (pass_limit s w + 1) (marked_after (pass s w) marks (start_vector s w g)) made
    unfolding passes_to_mark
    made_first = first_spec (pass_limit s w + 1) (marked_after (pass s w) marks (start_vector s w g))

    -- from there passes lead to a safe vector
    comes_on : comes_to_mark (pass s w) marks (pass_limit s w) (start_vector s w g) ≡ true → ReachesFrom s w (after s w g made)
    unfolding comes_to_mark after
    comes_on e = ready.sound (after s w g made) (made_first.here (omega (arith, ltb-false (pass_limit s w) made (not-true _ e))))

    comes_reaches : comes_to_mark (pass s w) marks (pass_limit s w) (start_vector s w g) ≡ true → Reaches s w g
    comes_reaches e = meets_reaches s w g made (comes_on e)

    not_comes : comes_to_mark (pass s w) marks (pass_limit s w) (start_vector s w g) ≡ false → (k : ℕ) → k < 2 ^ unheld_count s w → safe s w (after s w g k) ≡ false
    unfolding comes_to_mark after
    not_comes e k h =
        unmarked_unsafe marks ready (after s w g k) (after_lt s w ok g fits k)
        (made_first.before k (omega (arith, pow_pos (unheld_count s w), ltb-true (pass_limit s w) made (not-false _ e))))

    -- the walk comes to a mark exactly when it reaches a safe vector
    pub comes_endless : comes_to_mark (pass s w) marks (pass_limit s w) (start_vector s w g) ≡ not (endless s w g)
    unfolding endless
    comes_endless =
        by_test (comes_to_mark (pass s w) marks (pass_limit s w) (start_vector s w g))
        (λ e. e ∙ sym (ap (λ x. not (is_never x)) (walk_due s ok w g fits (comes_reaches e)).walked))
        (λ e. e ∙ sym (ap (λ x. not (is_never x)) (walk_never s w g ok (not_comes e))))

    pub ready_settled : Ready s w (settled (pass s w) (pass_limit s w) (start_vector s w g) marks)
    unfolding settled after
    ready_settled =
        by_test (comes_to_mark (pass s w) marks (pass_limit s w) (start_vector s w g))
        (λ e. rw e (ready_path made (start_vector s w g) marks ready
        (λ j l. (after_lt s w ok g fits j, reaches_before g made j (omega arith) (comes_on e)))))
        (λ e. rw e ready)

-- ---- by the table of the active constraints

module _ (s : Set) (ok : well_formed s ≡ true) (w : ℕ) (t : Table) (et : t ≡ table_of s (active_of s w)) where
  -- at a clash no vector is safe
  pub clash_none : (k : ℕ) → t.holds ≡ Clash k → has_vector s w ≡ false
  unfolding has_vector
  clash_none k e = some_false (2 ^ s.n) (safe s w) (λ v h. table_clash s w ok k (ap (λ (y : Table). y.holds) (sym et) ∙ e) v)

  -- and the clash is what the word is told by
  pub clash_told : (k : ℕ) → t.holds ≡ Clash k → none_by w (Clash k) ≡ none_at s w
  unfolding none_at
  clash_told k e = ap (none_by w) (sym e ∙ ap (λ (y : Table). y.holds) et ∙ table_holds s w ok)

  -- where the two words of forced outputs are told
  module _ (f0 f1 : ℕ) (forced : t.holds ≡ Forced f0 f1) where
    table_forced : (table_of s (active_of s w)).holds ≡ Forced f0 f1
    table_forced = ap (λ (y : Table). y.holds) (sym et) ∙ forced

    safe_is : safe_over f0 f1 t.entries.plain t.entries.named t.entries.count ≡ safe s w
    safe_is = fun_ext (λ v.
        ap (λ (h : Holds). safe_held h t.entries.plain t.entries.named t.entries.count v) (sym forced) ∙ ap (λ (x : Table). safe_in x v) et ∙ table_safe s w ok v)

    pass_is : pass_in t ≡ pass s w
    pass_is = fun_ext (λ v. ap (λ (x : Table). pass_in x v) et ∙ table_pass s w ok f0 f1 table_forced v)

    -- once the safe vectors are marked, the marks are right, and it is told whether there is a safe vector
    pub marked_safe : (b : Bool) (x : List ℕ) → b ≡ some (2 ^ s.n) (safe_over f0 f1 t.entries.plain t.entries.named t.entries.count)
        → x ≡ marked_where s.n (safe_over f0 f1 t.entries.plain t.entries.named t.entries.count) → (b ≡ has_vector s w) × Ready s w x
    unfolding has_vector
    marked_safe b x eb ex = (
      eb ∙ ap (some (2 ^ s.n)) safe_is,
      subst (Ready s w) (sym (ex ∙ ap (marked_where s.n) safe_is)) (ready_safe s ok w),
    )

    -- settling a request tells whether its walk never is safe, and leaves the marks right
    pub settled_request : (marks : List ℕ) → Ready s w marks → (g : ℕ) → g < 2 ^ s.n → (from : ℕ) → from ≡ start_from f0 f1 g
        → (b : Bool) (x : List ℕ) → b ≡ comes_to_mark (pass_in t) marks t.limit from → x ≡ settled (pass_in t) t.limit from marks
        → (b ≡ not (endless s w g)) × Ready s w x
    settled_request marks ready g fits from ef b x eb ex =
        let start : from ≡ start_vector s w g = ef ∙ table_start s w ok f0 f1 table_forced g in
        let limit : t.limit ≡ pass_limit s w = ap (λ (y : Table). y.limit) et ∙ table_limit s w ok f0 f1 table_forced in (
          eb ∙ (λ i. comes_to_mark (pass_is i) marks (limit i) (start i)) ∙ comes_endless s ok w marks ready g fits,
          subst (Ready s w) (sym (ex ∙ (λ i. settled (pass_is i) (limit i) (start i) marks))) (ready_settled s ok w marks ready g fits),
        )
