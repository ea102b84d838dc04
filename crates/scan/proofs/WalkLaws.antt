-- Walks: the executable walk finds the first safe vector if there is one, and looking at 2 ^ f vectors is enough to tell: a walk that is not
-- safe after 2 ^ f - 1 passes never is. At a clash it is not begun, and would find nothing.
-- Assumes nothing.
use mathlib.Core.Path.{◌≡◌, sym, ap, ◌∙◌, subst}
use mathlib.Core.Bool.{Bool, true, false, cond}
use Prim.Native.Nat.{ℕ, zero, suc, ◌+◌, ◌-◌, ◌<◌, ◌^◌, ◌≤◌}
use native.Mathlib.Omega.{arith}
use native.Mathlib.Numerals.{add-one}
use native.Mathlib.Decide.{ℕ_discrete, dec_lt}
use lib.Pow.{pow_pos}
use Rattle.scan.specs.declared.walk.Walk.TheVariants.{Safe, Never}
use Rattle.scan.specs.Walk.{walk_by, walk_held, walk, after, Reaches, FirstSafe, safe_after, passes_due, vector_due}
use Rattle.words.specs.Word.{popcount}
use Rattle.words.specs.Loop.{iterate, first}
use Rattle.words.proofs.BoolLaws.{by_test, clash}
use Rattle.words.proofs.LoopLaws.{least, First, first_spec, first_is}
use Rattle.words.proofs.Orbit.{Agree, pack, pack_lt, pack_inj, soon, iterate_add}
use Rattle.scan.specs.declared.set.Set.{Set}
use Rattle.scan.specs.declared.walk.Walk.{Walk}
use Rattle.scan.specs.Shape.{well_formed}
use Rattle.scan.specs.Constraint.{safe}
use Rattle.scan.specs.Holds.{F0, F1, unheld, unheld_count, pass_limit, start_vector}
use Rattle.scan.specs.Pass.{pass}
use Rattle.scan.proofs.ShapeLaws.{wide}
use Rattle.scan.proofs.HoldsLaws.{reckoned_clash, reckoned_forced, by_reckoned}
use Rattle.scan.proofs.SafeLaws.{clash_unsafe}
use Rattle.scan.proofs.PassLaws.{after_lt, after_agrees}

-- ---- one pass more, by any safety and any pass

module _ (ok : ℕ → Bool) (next : ℕ → ℕ) where
  pub by_stop : (left v made : ℕ) → ok v ≡ true → Safe v made ≡ walk_by ok next left v made
  unfolding walk_by
  by_stop zero v made e = ap (λ (b : Bool). cond b (Safe v made) Never) (sym e)
  by_stop (suc left) v made e = ap (λ (b : Bool). cond b (Safe v made) (walk_by ok next left (next v) (suc made))) (sym e)

  pub by_more : (left v made : ℕ) → ok v ≡ false → walk_by ok next (suc left) v made ≡ walk_by ok next left (next v) (suc made)
  unfolding walk_by
  by_more left v made e = ap (λ (b : Bool). cond b (Safe v made) (walk_by ok next left (next v) (suc made))) e

  -- the same as code counts, up to a limit
  pub by_on : (limit v made : ℕ) → made < limit → ok v ≡ false → walk_by ok next (limit - made) v made ≡ walk_by ok next (limit - (made + 1)) (next v) (made + 1)
  by_on limit v made l e =
      ap (λ (k : ℕ). walk_by ok next k v made) (less limit made l)
      ∙ by_more (limit - (made + 1)) v made e
      ∙ ap (walk_by ok next (limit - (made + 1)) (next v)) (sym (add-one made))
    where
      less : (n k : ℕ) → k < n → n - k ≡ suc (n - (k + 1))
      less n k h = omega arith

  pub by_never : (left v made : ℕ) → left ≡ 0 → ok v ≡ false → Never ≡ walk_by ok next left v made
  unfolding walk_by
  by_never left v made e h = ap (λ (b : Bool). cond b (Safe v made) Never) (sym h) ∙ ap (λ (k : ℕ). walk_by ok next k v made) (sym e)

-- ---- the executable walk, from the vector after k passes on

module _ (s : Set) (w request : ℕ) where
  -- what is left of the walk after k passes
  abbrev from : ℕ → ℕ → Walk
  from left k = walk_by (safe s w) (pass s w) left (after s w request k) k

  here_safe : (left k t : ℕ) → k ≡ t → safe s w (after s w request t) ≡ true → from left k ≡ Safe (after s w request t) t
  here_safe left k t e q =
      subst (λ (x : ℕ). from left x ≡ Safe (after s w request t) t) (sym e) (sym (by_stop (safe s w) (pass s w) left (after s w request t) t q))

  from_safe : (left k t : ℕ) → k ≤ t → t ≤ k + left → FirstSafe s w request t → from left k ≡ Safe (after s w request t) t
  unfolding after iterate
  from_safe zero k t lo hi f = here_safe zero k t (omega arith) f.here
  from_safe (suc left) k t lo hi f = go (ℕ_discrete k t) (λ h. from_safe left (suc k) t h (omega arith) f)
    where
      go : Dec (k ≡ t) → (k < t → from left (suc k) ≡ Safe (after s w request t) t) → from (suc left) k ≡ Safe (after s w request t) t
      go (yes e) ih = here_safe (suc left) k t e f.here
      go (no ne) ih = by_more (safe s w) (pass s w) left (after s w request k) k (f.before k (omega arith)) ∙ ih (omega arith)

  from_never : (left k : ℕ) → ((j : ℕ) → j ≤ k + left → safe s w (after s w request j) ≡ false) → from left k ≡ Never
  unfolding after iterate walk_by
  from_never zero k f = ap (λ (b : Bool). cond b (Safe (after s w request k) k) Never) (f k (omega arith))
  from_never (suc left) k f =
      by_more (safe s w) (pass s w) left (after s w request k) k (f k (omega arith)) ∙ from_never left (suc k) (λ j h. f j (omega arith))

  module _ (ok : well_formed s ≡ true) where
    -- the walk is that from the start vector, clash or not: at a clash no vector is safe, and that one finds none either
    pub walk_is : walk s w request ≡ walk_by (safe s w) (pass s w) (pass_limit s w) (start_vector s w request) 0
    unfolding walk start_vector after iterate
    walk_is =
        by_reckoned (F0 s w) (F1 s w)
        (λ k l. ap (walk_held (safe s w) (pass s w) (pass_limit s w) request) (reckoned_clash (F0 s w) (F1 s w) k l)
        ∙ sym (from_never (pass_limit s w) 0 (λ j h. clash_unsafe s w (after s w request j) ok k l.off l.on)))
        (λ n. ap (walk_held (safe s w) (pass s w) (pass_limit s w) request) (reckoned_forced (F0 s w) (F1 s w) n))

    -- a first safe vector within the limit is what the walk finds
    pub walk_safe : (k : ℕ) → k < 2 ^ unheld_count s w → FirstSafe s w request k → walk s w request ≡ Safe (after s w request k) k
    unfolding after iterate
    walk_safe k h f = walk_is ∙ from_safe (2 ^ unheld_count s w - 1) 0 k (omega arith) (omega arith) f

    -- and with none among the first 2 ^ f vectors it gives up
    pub walk_never : ((k : ℕ) → k < 2 ^ unheld_count s w → safe s w (after s w request k) ≡ false) → walk s w request ≡ Never
    unfolding after iterate
    walk_never f = walk_is ∙ from_never (2 ^ unheld_count s w - 1) 0 (λ j h. f j (omega (arith, pow_pos (unheld_count s w))))

  -- the passes due are those before the first safe vector
  pub due_is : (k : ℕ) → k < 2 ^ unheld_count s w → FirstSafe s w request k → passes_due s w request ≡ k
  unfolding passes_due safe_after
  due_is k h f = first_is (2 ^ unheld_count s w) k (safe_after s w request) h f.here f.before

-- ---- 2 ^ f vectors are enough

module _ (s : Set) (ok : well_formed s ≡ true) (w request : ℕ) (fits : request < 2 ^ s.n) where
  vectors_fit : (k : ℕ) → after s w request k < 2 ^ 16
  vectors_fit k = wide s ok (after s w request k) (after_lt s w ok request fits k)

  agree : (i j : ℕ) → Agree (unheld s w) (after s w request i) (after s w request j)
  agree i j k e = sym (after_agrees s w request i k e) ∙ after_agrees s w request j k e

  -- the first safe vector comes after at most 2 ^ f - 1 passes
  pub first_soon : (k : ℕ) → FirstSafe s w request k → k < 2 ^ unheld_count s w
  unfolding after unheld_count popcount
  first_soon k f =
      soon (pass s w) (start_vector s w request) (safe s w) (pack 16 (unheld s w)) (2 ^ unheld_count s w)
      (λ i. pack_lt 16 (unheld s w) (after s w request i))
      (λ i j e. pack_inj 16 (unheld s w) (after s w request i) (after s w request j) (vectors_fit i) (vectors_fit j) (agree i j) e)
      k f.here f.before

  -- a walk that reaches a safe vector has a first one, within the limit
  pub reach_soon : Reaches s w request → (k : ℕ) × (k < 2 ^ unheld_count s w) × FirstSafe s w request k
  reach_soon r =
      let l = least (λ i. safe s w (after s w request i)) r.0 r.1 in
      let f : FirstSafe s w request l.0 = record { here = l.2; before = l.3 } in
      (l.0, first_soon l.0 f, f)

  -- no safe vector among the first 2 ^ f, and there is none ever
  pub never_safe : ((k : ℕ) → k < 2 ^ unheld_count s w → safe s w (after s w request k) ≡ false) → ¬ Reaches s w request
  never_safe f r = let l = reach_soon r in clash l.2.here (f l.0 l.1)

  -- a walk that is not safe within 2 ^ f - 1 passes never is
  pub walk_endless : ¬ Reaches s w request → walk s w request ≡ Never
  walk_endless nr = walk_never s w request ok (λ k h. by_test (safe s w (after s w request k)) (λ e. absurd (nr (k, e))) (λ e. e))

  -- whether a walk reaches a safe vector can be told
  pub reaches_or_never : Dec (Reaches s w request)
  unfolding safe_after
  reaches_or_never = go (first n (safe_after s w request)) (first_spec n (safe_after s w request))
    where
      n : ℕ
      n = 2 ^ unheld_count s w

      go : (k : ℕ) → First n (safe_after s w request) k → Dec (Reaches s w request)
      go k f = told (dec_lt k n)
        where
          told : Dec (k < n) → Dec (Reaches s w request)
          told (yes h) = yes (k, f.here h)
          told (no nh) = no (never_safe (λ j h. f.before j (omega arith)))

  -- a walk that reaches a safe vector: the executable walk ends at the vector due, after the passes due
  pub record Due : Type 0 where
    pub walked : walk s w request ≡ Safe (vector_due s w request) (passes_due s w request)
    pub soon_enough : passes_due s w request < 2 ^ unheld_count s w
    pub first_safe : FirstSafe s w request (passes_due s w request)

  pub walk_due : Reaches s w request → Due
  unfolding vector_due
  walk_due r =
      let l = reach_soon r in
      let e = due_is s w request l.0 l.1 l.2 in
      let f = subst (FirstSafe s w request) (sym e) l.2 in
      let h = subst (λ (k : ℕ). k < 2 ^ unheld_count s w) (sym e) l.1 in
      record { walked = walk_safe s w request ok (passes_due s w request) h f; soon_enough = h; first_safe = f }

-- ---- walks that meet

-- passes from v lead to a safe vector
abbrev pub ReachesFrom : Set → ℕ → ℕ → Type 0
ReachesFrom s w v = (k : ℕ) × (safe s w (iterate (pass s w) k v) ≡ true)

module _ (s : Set) (w : ℕ) where
  pub safe_reaches : (v : ℕ) → safe s w v ≡ true → ReachesFrom s w v
  unfolding iterate
  safe_reaches v e = (0, e)

  -- a walk that meets such a vector reaches a safe one
  pub meets_reaches : (request j : ℕ) → ReachesFrom s w (after s w request j) → Reaches s w request
  unfolding after
  meets_reaches g j r = (j + r.0, ap (safe s w) (iterate_add (pass s w) (start_vector s w g) j r.0) ∙ r.1)
