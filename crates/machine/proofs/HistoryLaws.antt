-- Lists of scans from a start of a set whose walks all reach a safe vector: every scan is right, and the state after the list is the set with
-- the two pasts of the list, and the mark whether one of its calls is allowed.
-- Assumes nothing.
use mathlib.Core.Path.{◌≡◌, refl, sym, ap, ◌∙◌, subst}
use mathlib.Core.Bool.{Bool, true, false, ◌&&◌}
use mathlib.Core.List.{List, [], ◌∷◌}
use Prim.Native.Nat.{ℕ, ◌^◌, ◌<◌}
use lib.Pow.{pow_pos}
use Rattle.words.proofs.BoolLaws.{by_test, and_true}
use Rattle.scan.specs.declared.set.Set.{Set}
use Rattle.scan.specs.declared.set.State.{State}
use Rattle.machine.specs.declared.machine.ScanAnswer.TheVariants.{Sent, BadSensor, BadRequest}
use Rattle.machine.specs.declared.machine.Scanned.{Scanned}
use Rattle.scan.specs.Set.{state_of}
use Rattle.scan.specs.Shape.{well_formed}
use Rattle.scan.specs.Walk.{Reaches, passes_due, vector_due}
use Rattle.machine.specs.Machine.{state_ok, sensor_ok, request_ok, refused, scan_of}
use Rattle.machine.specs.Told.{scan_told}
use Rattle.machine.specs.History.{Call, allowed, any_allowed, past_sensor_after, sensor_read, past_output_after, read_after, state_after, run, run_state, followed, Right, AllRight}
use Rattle.scan.proofs.ShapeLaws.{rest_lt}
use Rattle.scan.proofs.PassLaws.{after_lt}
use Rattle.machine.proofs.PastLaws.{read_lt, sensor_lt}
use Rattle.machine.proofs.MachineLaws.{state_passes, request_lt, sends_due, scan_bad_sensor, scan_bad_request, scan_sends}

module _ (s : Set) (ok : well_formed s ≡ true) (ends : (w : ℕ) → w < 2 ^ s.r → (g : ℕ) → g < 2 ^ s.n → Reaches s w g) where
  -- ---- the pasts that a list leaves

  parts : (c : Call) → allowed s c ≡ true → (sensor_ok s c.sensor ≡ true) × (request_ok s c.request ≡ true)
  unfolding allowed
  parts c e = and_true (sensor_ok s c.sensor) (request_ok s c.request) e

  reaches : (before : List Call) (c : Call) → allowed s c ≡ true → Reaches s (read_after s before c) c.request
  unfolding read_after
  reaches before c e = ends (read_after s before c) (read_lt s (past_output_after s before) (sensor_read s before c) c.sensor) c.request (request_lt s c.request (parts c e).1)

  past_sensor_lt : (before : List Call) → past_sensor_after s before < 2 ^ s.r
  unfolding past_sensor_after
  past_sensor_lt [] = pow_pos s.r
  past_sensor_lt (b ∷ before) =
      by_test (allowed s b) (λ e. rw e (sensor_lt s b.sensor (parts b e).0)) (λ e. rw e (past_sensor_lt before))

  past_output_lt : (before : List Call) → past_output_after s before < 2 ^ s.n
  unfolding past_output_after read_after vector_due
  past_output_lt [] = rest_lt s ok
  past_output_lt (b ∷ before) =
      by_test (allowed s b)
      (λ e. rw e (after_lt s (read_after s before b) ok b.request (request_lt s b.request (parts b e).1) _))
      (λ e. rw e (past_output_lt before))

  state_ok_law : (before : List Call) → state_ok (state_after s before) ≡ true
  state_ok_law before = state_passes (state_after s before) ok (past_output_lt before) (past_sensor_lt before)

  -- a call that is not allowed leaves the pasts and the mark, and one that is puts its own there
  state_kept : (before : List Call) (c : Call) → allowed s c ≡ false → state_after s (c ∷ before) ≡ state_after s before
  unfolding past_sensor_after past_output_after any_allowed
  state_kept before c e = rw e

  state_moved : (before : List Call) (c : Call) → allowed s c ≡ true → state_after s (c ∷ before) ≡ state_of s (vector_due s (read_after s before c) c.request) c.sensor true
  unfolding past_sensor_after past_output_after read_after any_allowed
  state_moved before c e = rw e

  -- ---- one scan of the list

  module _ (before : List Call) (c : Call) where
    scanned : Scanned
    scanned = scan_of (state_after s before) c.sensor c.request

    refuses_sensor : sensor_ok s c.sensor ≡ false → scanned ≡ refused (state_after s before) BadSensor
    unfolding scanned
    refuses_sensor e = scan_bad_sensor (state_after s before) c.sensor c.request (state_ok_law before) e

    refuses_request : sensor_ok s c.sensor ≡ true → request_ok s c.request ≡ false → scanned ≡ refused (state_after s before) BadRequest
    unfolding scanned
    refuses_request e f = scan_bad_request (state_after s before) c.sensor c.request (state_ok_law before) e f

    sends : allowed s c ≡ true → scanned ≡ record {
      answer = Sent (vector_due s (read_after s before c) c.request) (passes_due s (read_after s before c) c.request);
      state = state_of s (vector_due s (read_after s before c) c.request) c.sensor true;
    }
    unfolding scanned read_after sensor_read
    sends e = scan_sends (state_after s before) c.sensor c.request (state_ok_law before) (parts c e).0 (parts c e).1 (reaches before c e)

    right_one : Right s before c scanned.answer
    unfolding read_after
    right_one = record {
      refuses_sensor = λ e. ap (λ (x : Scanned). scan_told x.answer) (refuses_sensor e);
      refuses_request = λ e f. ap (λ (x : Scanned). scan_told x.answer) (refuses_request e f);
      sends = λ e.
          sends_due s ok (read_after s before c) c.request (request_lt s c.request (parts c e).1) (reaches before c e) scanned.answer
          (ap (λ (x : Scanned). scan_told x.answer) (sends e));
    }

    state_next : scanned.state ≡ state_after s (c ∷ before)
    unfolding allowed
    state_next =
        by_test (allowed s c)
        (λ e. ap (λ (x : Scanned). x.state) (sends e) ∙ sym (state_moved before c e))
        (λ e. refused_state e ∙ sym (state_kept before c e))
      where
        refused_state : allowed s c ≡ false → scanned.state ≡ state_after s before
        refused_state e =
            by_test (sensor_ok s c.sensor)
            (λ p. ap (λ (x : Scanned). x.state) (refuses_request p (sym (ap (λ (b : Bool). b && request_ok s c.request) p) ∙ e)))
            (λ p. ap (λ (x : Scanned). x.state) (refuses_sensor p))

  -- ---- the list

  -- every scan of a list is right, after any calls before it
  pub all_right : (before calls : List Call) → AllRight s before calls (run (state_after s before) calls)
  unfolding run scanned
  all_right before [] = tt
  all_right before (c ∷ calls) = (
    right_one before c,
    subst (λ (st : State). AllRight s (c ∷ before) calls (run st calls)) (sym (state_next before c)) (all_right (c ∷ before) calls),
  )

  -- the state after a list is the set with the two pasts and the mark of the list
  pub list_state : (before calls : List Call) → run_state (state_after s before) calls ≡ state_after s (followed before calls)
  unfolding run_state scanned
  list_state before [] = refl
  list_state before (c ∷ calls) = ap (λ (st : State). run_state st calls) (state_next before c) ∙ list_state (c ∷ before) calls
