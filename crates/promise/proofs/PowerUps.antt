-- No rising edge on power-up: what the mark says, what is read until a scan is accepted, and that a past sensor word is not read until then.
-- Assumes nothing.
use mathlib.Core.Path.{◌≡◌, refl, sym, ap, ap₂, subst, ◌∙◌}
use mathlib.Core.Bool.{Bool, true, false}
use mathlib.Core.List.{List, [], ◌∷◌}
use mathlib.Core.Logic.{◌⊎◌, inl, inr, ⊎_elim, ◌↔◌}
use Prim.Native.Nat.{ℕ, ◌^◌, ◌<◌}
use native.Mathlib.Nat.{lt_trans}
use lib.Dec.{ltb}
use borrow.Author.Tests.{ltb-true, lt-ltb}
use Rattle.words.proofs.BoolLaws.{and_true}
use Rattle.scan.specs.declared.set.Kind.{Kind}
use Rattle.scan.specs.declared.set.Kind.TheVariants.{Sensor, PastSensor}
use Rattle.scan.specs.declared.set.Constraint.{Constraint}
use Rattle.scan.specs.declared.set.Set.{Set}
use Rattle.scan.specs.declared.set.State.{State}
use Rattle.machine.specs.declared.machine.ScanAnswer.{ScanAnswer}
use Rattle.machine.specs.declared.machine.ScanAnswer.TheVariants.{Sent, BadState, BadSensor, BadRequest, Unsafe}
use Rattle.machine.specs.declared.machine.Scanned.{Scanned}
use Rattle.scan.specs.Set.{kind, read_point}
use Rattle.scan.specs.Shape.{well_formed, kind_ok, is_sensor}
use Rattle.scan.specs.Walk.{walk}
use Rattle.scan.proofs.ShapeLaws.{is_sensor_law, points_formed, read_formed}
use Rattle.machine.specs.Past.{read_word}
use Rattle.machine.specs.Machine.{state_ok, sensor_ok, request_ok, scan_of}
use Rattle.machine.specs.Told.{scan_told}
use Rattle.machine.specs.History.{Call, read_after, run, run_state}
use Rattle.machine.proofs.MachineLaws.{answer_by, scan_answer, same_vector, Ended, stopped, sent, scan_ended}
use Rattle.promise.specs.Terms.{Bit, ReadsTrue, BitRead, state_with}
use Rattle.promise.specs.Allowed.{word_of}
use Rattle.promise.specs.PowerUp.{PastOf, PastSensorsRead, AsksEdge, NoEdge, IsSent, SomeSent, PowerUp}
use Rattle.promise.proofs.Numbers.{apart}
use Rattle.promise.proofs.ReadMeanings.{reads_mean, reads_of_list}

-- ---- edges

-- the index of a past sensor names an earlier read point, and that is a sensor
past_of_sensor : (s : Set) → well_formed s ≡ true → (k i : ℕ) → PastOf s k i → (i < s.r) × (kind s i ≡ Sensor)
unfolding kind kind_ok
past_of_sensor s ok k i p =
    let formed = (read_formed s.reads s.n k ((points_formed s ok).read_ok_law k p.0)).kind_ok_law in
    let by = and_true (ltb i k) (is_sensor (read_point s.reads i).kind) (ap (kind_ok s.reads s.n k) (sym p.1) ∙ formed) in
    (lt_trans (ltb-true i k by.0) p.0, is_sensor_law (read_point s.reads i).kind by.1)

module _ (s : Set) (w output sensor present : ℕ) (reads : (k : ℕ) → k < s.r → Bit k w ↔ BitRead (kind s k) output sensor present k) where
  -- read point k, where its kind is known
  of_kind : (x : Kind) (k : ℕ) → k < s.r → kind s k ≡ x → Bit k w ↔ BitRead x output sensor present k
  of_kind x k h e = subst (λ (y : Kind). Bit k w ↔ BitRead y output sensor present k) e (reads k h)

  pasts_read : PastSensorsRead s w sensor
  pasts_read k i p = of_kind (PastSensor i) k p.0 p.1

no_edge : (s : Set) (w output present : ℕ) → ((k : ℕ) → k < s.r → Bit k w ↔ BitRead (kind s k) output present present k) → NoEdge s w present
no_edge s w output present reads = record { now = now; none = none }
  where
    now : PastSensorsRead s w present
    now = pasts_read s w output present present reads

    own : well_formed s ≡ true → (k i : ℕ) → PastOf s k i → Bit i w ↔ Bit i present
    own ok k i p = let q = past_of_sensor s ok k i p in of_kind s w output present present reads Sensor i q.0 q.1

    none : well_formed s ≡ true → (c : Constraint) → AsksEdge s c → ¬ ReadsTrue c w
    none ok c (k, i, p, inl e) t = t.1 k e.1 ((now k i p).1 ((own ok k i p).0 (t.0 i e.0)))
    none ok c (k, i, p, inr e) t = t.1 i e.0 ((own ok k i p).1 ((now k i p).0 (t.0 k e.1)))

-- ---- the mark

-- an answer that tells 0 sends
sent_of : (a : ScanAnswer) (v k : ℕ) → scan_told a ≡ 0 ∷ v ∷ k ∷ [] → a ≡ Sent v k
sent_of (Sent u j) v k e = let p : u ≡ v = cc in let q : j ≡ k = cc in ap₂ Sent p q
sent_of BadState v k e = apart 30 0 [] _ refl e
sent_of BadSensor v k e = apart 31 0 [] _ refl e
sent_of BadRequest v k e = apart 32 0 [] _ refl e
sent_of Unsafe v k e = apart 33 0 [] _ refl e

-- an accepted scan's state
sent_state : (st : State) (present request : ℕ) → IsSent (scan_of st present request).answer
    → (v : ℕ) × ((scan_of st present request).state ≡ state_with st.set v present true)
sent_state st present request t = go (scan_ended st present request)
  where
    go : Ended st present request (scan_of st present request) → (v : ℕ) × ((scan_of st present request).state ≡ state_with st.set v present true)
    go (stopped n e) = absurd (n t.0 t.1 (sent_of (scan_of st present request).answer t.0 t.1 t.2))
    go (sent v k a e) = (v, e)

-- the mark behind one scan
mark_of_one : (st : State) (present request : ℕ) → ((scan_of st present request).state.accepted ≡ true) ↔ ((st.accepted ≡ true) ⊎ IsSent (scan_of st present request).answer)
mark_of_one st present request = go (scan_ended st present request)
  where
    x : Scanned
    x = scan_of st present request

    go : Ended st present request x → (x.state.accepted ≡ true) ↔ ((st.accepted ≡ true) ⊎ IsSent x.answer)
    go (stopped n e) = (
      λ m. inl (ap (λ (z : State). z.accepted) (sym e) ∙ m),
      ⊎_elim (λ m. ap (λ (z : State). z.accepted) e ∙ m) (λ t. absurd (n t.0 t.1 (sent_of x.answer t.0 t.1 t.2))),
    )
    go (sent v k a e) = (λ m. inr (v, k, ap scan_told a), λ y. ap (λ (z : State). z.accepted) e)

-- the mark behind a list
mark : (st : State) (calls : List Call) → ((run_state st calls).accepted ≡ true) ↔ ((st.accepted ≡ true) ⊎ SomeSent (run st calls))
unfolding run run_state
mark st [] = (inl, ⊎_elim (λ m. m) absurd)
mark st (c ∷ calls) =
    let one = mark_of_one st c.sensor c.request in
    let more = mark (scan_of st c.sensor c.request).state calls in (
      λ m. ⊎_elim (λ p. ⊎_elim (λ q. inl q) (λ t. inr (inl t)) (one.0 p)) (λ t. inr (inr t)) (more.0 m),
      ⊎_elim (λ p. more.1 (inl (one.1 (inl p)))) (⊎_elim (λ t. more.1 (inl (one.1 (inr t)))) (λ t. more.1 (inr t))),
    )

-- ---- the past sensor word is not read until a scan is accepted

module _ (s : Set) (output x y : ℕ) (hx : x < 2 ^ s.r) (hy : y < 2 ^ s.r) where
  abbrev sx : State
  sx = state_with s output x false

  abbrev sy : State
  sy = state_with s output y false

  same_ok : state_ok sx ≡ state_ok sy
  unfolding state_ok
  same_ok = rw (lt-ltb x (2 ^ s.r) hx, lt-ltb y (2 ^ s.r) hy) refl

  module _ (present request : ℕ) where
    same_answer : (scan_of sx present request).answer ≡ (scan_of sy present request).answer
    same_answer =
        scan_answer sx present request
        ∙ ap (λ (p : Bool). answer_by p (sensor_ok s present) (request_ok s request) (walk s (read_word s output present present) request)) same_ok
        ∙ sym (scan_answer sy present request)

    -- both are sent, and the states behind them are the same; or both are refused
    same_end : ((scan_of sx present request).state ≡ (scan_of sy present request).state)
        ⊎ (((scan_of sx present request).state ≡ sx) × ((scan_of sy present request).state ≡ sy))
    same_end = go (scan_ended sx present request) (scan_ended sy present request)
      where
        go : Ended sx present request (scan_of sx present request) → Ended sy present request (scan_of sy present request)
            → ((scan_of sx present request).state ≡ (scan_of sy present request).state)
            ⊎ (((scan_of sx present request).state ≡ sx) × ((scan_of sy present request).state ≡ sy))
        go (stopped n e) (stopped m f) = inr (e, f)
        go (stopped n e) (sent v k a f) = absurd (n v k (same_answer ∙ a))
        go (sent v k a e) (stopped m f) = absurd (m v k (sym same_answer ∙ a))
        go (sent v k a e) (sent u j b f) =
            inl (e ∙ ap (λ (z : ℕ). state_with s z present true) (same_vector (scan_of sx present request).answer v k u j a (same_answer ∙ b)) ∙ sym f)

  unread : (calls : List Call) → run sx calls ≡ run sy calls
  unfolding run
  unread [] = refl
  unread (c ∷ calls) = ap₂ ◌∷◌ (same_answer c.sensor c.request) (behind (same_end c.sensor c.request) (unread calls))
    where
      next : State → State
      next st = (scan_of st c.sensor c.request).state

      behind : (next sx ≡ next sy) ⊎ ((next sx ≡ sx) × (next sy ≡ sy)) → run sx calls ≡ run sy calls → run (next sx) calls ≡ run (next sy) calls
      behind (inl e) more = ap (λ (st : State). run st calls) e
      behind (inr e) more = ap (λ (st : State). run st calls) e.0 ∙ more ∙ sym (ap (λ (st : State). run st calls) e.1)

-- ---- what is promised

pub power_up : PowerUp
power_up = record {
  mark = mark;
  state_no_edge = λ st present e. no_edge st.set (word_of st present) st.past_output present ((reads_mean st present).first e);
  unread = unread;
  state_next = next;
  list_no_edge = λ s before n c. no_edge s (read_after s before c) s.rest c.sensor ((reads_of_list s before c).none n);
  list_next = λ s before b earlier l c. pasts_read s (read_after s before c) _ b.sensor c.sensor ((reads_of_list s before c).last b earlier l);
}
  where
    next : (st : State) (present request : ℕ) → IsSent (scan_of st present request).answer → (later : ℕ)
        → PastSensorsRead st.set (word_of (scan_of st present request).state later) present
    next st present request t later =
        let e = sent_state st present request t in
        let behind = state_with st.set e.0 present true in
        subst (λ (z : State). PastSensorsRead st.set (word_of z later) present) (sym e.1)
        (pasts_read st.set (word_of behind later) e.0 present later ((reads_mean behind later).later refl))
