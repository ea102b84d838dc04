-- One scan of any state: its refusals, and for words that pass 30 to 32 the walk's first safe vector with its passes, or 33 where the walk
-- never is safe.
-- Assumes nothing.
use mathlib.Core.Path.{◌≡◌, refl, sym, ap, ◌∙◌, subst}
use mathlib.Core.Bool.{Bool, true, false, cond, not}
use mathlib.Core.Logic.{◌⊎◌, inl, inr, ◌↔◌, ◌≢◌}
use mathlib.Core.List.{[], ◌∷◌}
use Prim.Native.Nat.{ℕ, zero, ◌^◌, ◌-◌, ◌≤◌, ◌<◌}
use native.Mathlib.Nat.{eq-zero-or-pos}
use native.Mathlib.Omega.{arith}
use lib.Dec.{eqb, ltb}
use lib.ListN.{get_or}
use borrow.Author.Tests.{ltb-true, lt-ltb}
use Rattle.words.specs.Loop.{iterate}
use Rattle.words.proofs.BoolLaws.{by_test, clash, and_true}
use Rattle.scan.specs.declared.set.Set.{Set}
use Rattle.scan.specs.declared.set.State.{State}
use Rattle.scan.specs.declared.walk.Walk.{Walk}
use Rattle.scan.specs.declared.walk.Walk.TheVariants.{Safe, Never}
use Rattle.machine.specs.declared.machine.ScanAnswer.{ScanAnswer}
use Rattle.machine.specs.declared.machine.ScanAnswer.TheVariants.{Sent, BadState, BadSensor, BadRequest, Unsafe}
use Rattle.machine.specs.declared.machine.Scanned.{Scanned}
use Rattle.scan.specs.Set.{state_of}
use Rattle.scan.specs.Shape.{well_formed}
use Rattle.scan.specs.Constraint.{safe}
use Rattle.scan.specs.Holds.{start_vector, unheld_count}
use Rattle.scan.specs.Walk.{walk, after, Reaches, FirstSafe, passes_due, vector_due}
use Rattle.machine.specs.Past.{sensor_before, read_word}
use Rattle.machine.specs.Machine.{state_ok, sensor_ok, request_ok, refused, sending, scan_of}
use Rattle.machine.specs.History.{Sends}
use Rattle.machine.specs.Told.{scan_told}
use Rattle.scan.proofs.SafeLaws.{start_safe}
use Rattle.scan.proofs.WalkLaws.{Due, walk_due, walk_endless, reaches_or_never}

-- ---- what passes 30 and 32

-- a state that passes 30 has a well-formed set and pasts of its widths
pub state_parts : (st : State) → state_ok st ≡ true
    → (well_formed st.set ≡ true) × (st.past_output < 2 ^ st.set.n) × (st.past_sensor < 2 ^ st.set.r)
unfolding state_ok
state_parts st e =
    let a = and_true (well_formed st.set) _ e in
    let b = and_true (ltb st.past_output (2 ^ st.set.n)) _ a.1 in
    (a.0, ltb-true _ _ b.0, ltb-true _ _ (and_true (ltb st.past_sensor (2 ^ st.set.r)) _ b.1).0)

-- and such a state passes
pub state_passes : (st : State) → well_formed st.set ≡ true → st.past_output < 2 ^ st.set.n → st.past_sensor < 2 ^ st.set.r → state_ok st ≡ true
unfolding state_ok
state_passes st ok h l = rw (ok, lt-ltb st.past_output (2 ^ st.set.n) h, lt-ltb st.past_sensor (2 ^ st.set.r) l)

pub state_formed : (st : State) → state_ok st ≡ true → well_formed st.set ≡ true
state_formed st e = (state_parts st e).0

pub request_lt : (s : Set) (request : ℕ) → request_ok s request ≡ true → request < 2 ^ s.n
unfolding request_ok
request_lt s request e = ltb-true _ _ e

pub request_passes : (s : Set) (request : ℕ) → request < 2 ^ s.n → request_ok s request ≡ true
unfolding request_ok
request_passes s request h = lt-ltb _ _ h

-- ---- the request is sent untouched exactly when it makes no constraint true

module _ (s : Set) (ok : well_formed s ≡ true) (w request : ℕ) (fits : request < 2 ^ s.n) where
  first_untouched : (k : ℕ) → FirstSafe s w request k → (after s w request k ≡ request) ↔ (safe s w request ≡ true)
  unfolding after iterate
  first_untouched k f = (
    λ e. ap (safe s w) (sym e) ∙ f.here,
    λ e. let same = start_safe s w request ok e fits in go e same (eq-zero-or-pos k),
  )
    where
      go : safe s w request ≡ true → start_vector s w request ≡ request → (k ≡ zero) ⊎ (zero < k) → after s w request k ≡ request
      go e same (inl z) = ap (after s w request) z ∙ same
      go e same (inr p) = clash (ap (safe s w) same ∙ e) (f.before 0 p)

  pub due_untouched : Reaches s w request → (vector_due s w request ≡ request) ↔ (safe s w request ≡ true)
  unfolding vector_due
  due_untouched r = first_untouched (passes_due s w request) (walk_due s ok w request fits r).first_safe

  -- an answer that tells the vector due and the passes due is what an allowed scan sends
  pub sends_due : Reaches s w request → (a : ScanAnswer) → scan_told a ≡ 0 ∷ vector_due s w request ∷ passes_due s w request ∷ [] → Sends s w request a
  sends_due r a e =
      let due = walk_due s ok w request fits r in
      record {
        answers = e;
        first_safe = due.first_safe;
        within = within (2 ^ unheld_count s w) due.soon_enough;
        untouched = due_untouched r;
      }
    where
      within : {k : ℕ} (n : ℕ) → k < n → k ≤ n - 1
      within n h = omega arith

  -- the walk from a safe request reaches a safe vector
  pub safe_start_reaches : safe s w request ≡ true → Reaches s w request
  unfolding after iterate
  safe_start_reaches e = (0, ap (safe s w) (start_safe s w request ok e fits) ∙ e)

-- ---- a scan, by its tests

-- what a walk's end answers
walk_answer : Walk → ScanAnswer
walk_answer (Safe v made) = Sent v made
walk_answer Never = Unsafe

-- the answer, from the tests 30 to 32 and the walk
pub answer_by : Bool → Bool → Bool → Walk → ScanAnswer
answer_by p q r x = cond (not p) BadState (cond (not q) BadSensor (cond (not r) BadRequest (walk_answer x)))

-- an answer sends one vector
pub same_vector : (a : ScanAnswer) (v k u j : ℕ) → a ≡ Sent v k → a ≡ Sent u j → v ≡ u
same_vector a v k u j e f = cc

-- an answer whose number is not 0 is none that sends
unsent : (a : ScanAnswer) → eqb (get_or (scan_told a) 0 0) 0 ≡ false → (v k : ℕ) → a ≢ Sent v k
unsent a n v k e = clash (ap (λ (x : ScanAnswer). eqb (get_or (scan_told x) 0 0) 0) e) n

module _ (st : State) (present request : ℕ) where
  pub scan_bad_state : state_ok st ≡ false → scan_of st present request ≡ refused st BadState
  unfolding scan_of
  scan_bad_state p = rw p

  pub scan_bad_sensor : state_ok st ≡ true → sensor_ok st.set present ≡ false → scan_of st present request ≡ refused st BadSensor
  unfolding scan_of
  scan_bad_sensor p q = rw (p, q)

  pub scan_bad_request : state_ok st ≡ true → sensor_ok st.set present ≡ true → request_ok st.set request ≡ false → scan_of st present request ≡ refused st BadRequest
  unfolding scan_of
  scan_bad_request p q r = rw (p, q, r)

  -- the read word of the scan
  abbrev pub scan_word : ℕ
  scan_word = read_word st.set st.past_output (sensor_before st.accepted st.past_sensor present) present

  pub scan_walks : state_ok st ≡ true → sensor_ok st.set present ≡ true → request_ok st.set request ≡ true
      → scan_of st present request ≡ sending st present (walk st.set scan_word request)
  unfolding scan_of
  scan_walks p q r = rw (p, q, r)

  -- the answer knows of the state what the tests and the walk know
  pub scan_answer : (scan_of st present request).answer ≡ answer_by (state_ok st) (sensor_ok st.set present) (request_ok st.set request) (walk st.set scan_word request)
  unfolding scan_of answer_by walk_answer
  scan_answer = go (state_ok st) (sensor_ok st.set present) (request_ok st.set request) (walk st.set scan_word request)
    where
      go : (p q r : Bool) (x : Walk)
          → (cond (not p) (refused st BadState) (cond (not q) (refused st BadSensor) (cond (not r) (refused st BadRequest) (sending st present x)))).answer
          ≡ answer_by p q r x
      go true true true (Safe v made) = refl
      go true true true Never = refl
      go true true false x = refl
      go true false r x = refl
      go false q r x = refl

  -- ---- how a scan ends

  -- refused, and the state is as it was; or sent, and the state has the vector, this sensor word and the mark
  pub data Ended (x : Scanned) : Type 0 where
    stopped : ((v k : ℕ) → x.answer ≢ Sent v k) → x.state ≡ st → Ended x
    sent : (v k : ℕ) → x.answer ≡ Sent v k → x.state ≡ state_of st.set v present true → Ended x

  pub scan_ended : Ended (scan_of st present request)
  scan_ended =
      by_test (state_ok st)
      (λ p. by_test (sensor_ok st.set present)
      (λ q. by_test (request_ok st.set request)
      (λ r. subst Ended (sym (scan_walks p q r)) (walked (walk st.set scan_word request)))
      (λ r. subst Ended (sym (scan_bad_request p q r)) (stopped (unsent BadRequest refl) refl)))
      (λ q. subst Ended (sym (scan_bad_sensor p q)) (stopped (unsent BadSensor refl) refl)))
      (λ p. subst Ended (sym (scan_bad_state p)) (stopped (unsent BadState refl) refl))
    where
      walked : (x : Walk) → Ended (sending st present x)
      walked (Safe v made) = sent v made refl refl
      walked Never = stopped (unsent Unsafe refl) refl

  -- no scan changes the set
  pub scan_keeps_set : (scan_of st present request).state.set ≡ st.set
  scan_keeps_set = go scan_ended
    where
      go : Ended (scan_of st present request) → (scan_of st present request).state.set ≡ st.set
      go (stopped n e) = ap (λ (x : State). x.set) e
      go (sent v k a e) = ap (λ (x : State). x.set) e

  -- a refused scan gives the state as it was
  pub refused_keeps_state : ((v k : ℕ) → (scan_of st present request).answer ≢ Sent v k) → (scan_of st present request).state ≡ st
  refused_keeps_state n = go scan_ended
    where
      go : Ended (scan_of st present request) → (scan_of st present request).state ≡ st
      go (stopped m e) = e
      go (sent v k a e) = absurd (n v k a)

  -- ---- words that pass 30 to 32

  module _ (p : state_ok st ≡ true) (q : sensor_ok st.set present ≡ true) (r : request_ok st.set request ≡ true) where
    -- the vector due and the passes due, and they are put into the state
    abbrev pub sent_due : Scanned
    sent_due = record {
      answer = Sent (vector_due st.set scan_word request) (passes_due st.set scan_word request);
      state = state_of st.set (vector_due st.set scan_word request) present true;
    }

    due : Reaches st.set scan_word request → Due st.set (state_formed st p) scan_word request (request_lt st.set request r)
    due = walk_due st.set (state_formed st p) scan_word request (request_lt st.set request r)

    pub scan_sends : Reaches st.set scan_word request → scan_of st present request ≡ sent_due
    scan_sends e = scan_walks p q r ∙ ap (sending st present) (due e).walked

    pub scan_unsafe : ¬ Reaches st.set scan_word request → scan_of st present request ≡ refused st Unsafe
    scan_unsafe n = scan_walks p q r ∙ ap (sending st present) (walk_endless st.set (state_formed st p) scan_word request (request_lt st.set request r) n)

    -- the answer is the walk's first safe vector with its passes, or 33 where the walk never is safe
    pub scan_answers : (FirstSafe st.set scan_word request (passes_due st.set scan_word request) × (scan_of st present request ≡ sent_due))
        ⊎ ((¬ Reaches st.set scan_word request) × (scan_of st present request ≡ refused st Unsafe))
    scan_answers = go (reaches_or_never st.set (state_formed st p) scan_word request (request_lt st.set request r))
      where
        go : Dec (Reaches st.set scan_word request)
            → (FirstSafe st.set scan_word request (passes_due st.set scan_word request) × (scan_of st present request ≡ sent_due))
            ⊎ ((¬ Reaches st.set scan_word request) × (scan_of st present request ≡ refused st Unsafe))
        go (yes e) = inl ((due e).first_safe, scan_sends e)
        go (no n) = inr (n, scan_unsafe n)

    -- the request is sent untouched exactly when it makes no constraint true
    pub scan_untouched : ((k : ℕ) × ((scan_of st present request).answer ≡ Sent request k)) ↔ (safe st.set scan_word request ≡ true)
    scan_untouched = (λ x. there x.0 x.1 (reaches_or_never st.set ok scan_word request fits), back)
      where
        ok : well_formed st.set ≡ true
        ok = state_formed st p

        fits : request < 2 ^ st.set.n
        fits = request_lt st.set request r

        never : (a : ScanAnswer) (v k : ℕ) → a ≡ Sent v k → a ≡ Unsafe → ⊥
        never a v k e f = let z : ◌≡◌ {A = ℕ} 0 1 = cc in omega arith

        there : (k : ℕ) → (scan_of st present request).answer ≡ Sent request k → Dec (Reaches st.set scan_word request) → safe st.set scan_word request ≡ true
        there k e (yes t) =
            (due_untouched st.set ok scan_word request fits t).0
            (sym (same_vector (scan_of st present request).answer request k _ _ e (ap (λ (x : Scanned). x.answer) (scan_sends t))))
        there k e (no n) = absurd (never (scan_of st present request).answer request k e (ap (λ (x : Scanned). x.answer) (scan_unsafe n)))

        back : safe st.set scan_word request ≡ true → (k : ℕ) × ((scan_of st present request).answer ≡ Sent request k)
        back e =
            let t = safe_start_reaches st.set ok scan_word request fits e in (
              passes_due st.set scan_word request,
              ap (λ (x : Scanned). x.answer) (scan_sends t)
                  ∙ ap (λ (v : ℕ). Sent v (passes_due st.set scan_word request)) ((due_untouched st.set ok scan_word request fits t).1 e),
            )
