-- Demand 3: every list of scans from a start of an accepted set.
-- Assumes nothing.
use mathlib.Core.Path.{◌≡◌, refl, sym, ap, ◌∙◌, subst}
use mathlib.Core.Bool.{true, false}
use mathlib.Core.List.{List, [], ◌∷◌}
use mathlib.Core.Logic.{◌≢◌}
use Prim.Native.Nat.{ℕ, ◌^◌, ◌≤◌, ◌<◌}
use lib.Dec.{eqb, ltb}
use borrow.Author.Tests.{ltb-true, ltb-false}
use Rattle.words.proofs.BoolLaws.{by_test, clash}
use Rattle.scan.specs.declared.set.Set.{Set}
use Rattle.scan.specs.declared.set.State.{State}
use Rattle.machine.specs.declared.machine.ScanAnswer.{ScanAnswer}
use Rattle.scan.specs.Shape.{well_formed}
use Rattle.scan.specs.Holds.{unheld_count}
use Rattle.scan.specs.Walk.{after, passes_due, vector_due}
use Rattle.scan.proofs.PassLaws.{after_lt}
use Rattle.machine.specs.Machine.{sensor_ok, request_ok}
use Rattle.machine.specs.Told.{scan_told}
use Rattle.machine.specs.History.{Call, read_after, run, run_state, followed, state_after, any_allowed, past_sensor_after, past_output_after, Sends, Right, AllRight}
use Rattle.machine.proofs.HistoryLaws.{all_right, list_state}
use Rattle.verdict.specs.declared.verdict.Verdict.TheVariants.{Accepted, BadSet, ShortScratch}
use Rattle.verdict.specs.Judge.{scratch_bytes, judge_of}
use Rattle.start.specs.Start.{start_state, start_of}
use Rattle.verdict.specs.Told.{verdict_told}
use Rattle.verdict.specs.Meaning.{Good}
use Rattle.verdict.proofs.JudgeLaws.{bad_set, short_scratch}
use Rattle.promise.specs.NeverTold.{NeverTold}
use Rattle.promise.specs.Promise.{RightScans}
use Rattle.promise.specs.Allowed.{SensorAllowed, RequestAllowed}
use Rattle.promise.specs.Scans.{SendsDue, CallAllowed, RightScan, EveryRight, StateOfList}
use Rattle.promise.proofs.Numbers.{apart, fails_not}
use Rattle.promise.proofs.ConstraintMeanings.{safe_iff}
use Rattle.promise.proofs.HoldMeanings.{holds_mean}
use Rattle.promise.proofs.ScanRefusals.{sensor_iff, request_iff}
use Rattle.promise.proofs.ReadMeanings.{allowed_iff, reads_of_list, state_of_list}
use Rattle.promise.proofs.ExactVerdicts.{means}

-- ---- lists of scans

-- a set that is not turned down by 20 is well formed, and one that is not by 21 either had scratch enough
pub judged_formed : (s : Set) (room : ℕ) → judge_of s room ≢ BadSet → well_formed s ≡ true
judged_formed s room n = by_test (well_formed s) (λ q. q) (λ q. absurd (n (sym (bad_set s room q))))

pub judged_enough : (s : Set) (room : ℕ) → judge_of s room ≢ BadSet → judge_of s room ≢ ShortScratch → scratch_bytes s.n ≤ room
judged_enough s room n m =
    by_test (ltb room (scratch_bytes s.n)) (λ q. absurd (m (sym (short_scratch s room (judged_formed s room n) (ltb-true room (scratch_bytes s.n) q)))))
    (λ q. ltb-false room (scratch_bytes s.n) q)

-- so an accepted one
accepted_not_bad : (s : Set) (room : ℕ) → judge_of s room ≡ Accepted → judge_of s room ≢ BadSet
accepted_not_bad s room e b = apart 0 20 [] [] refl (ap verdict_told (sym e ∙ b))

accepted_not_short : (s : Set) (room : ℕ) → judge_of s room ≡ Accepted → judge_of s room ≢ ShortScratch
accepted_not_short s room e b = apart 0 21 [] [] refl (ap verdict_told (sym e ∙ b))

-- what a scan sends, in the terms of document 01
pub sends_mean : (s : Set) → well_formed s ≡ true → (w request : ℕ) → RequestAllowed s request → (a : ScanAnswer) → Sends s w request a → SendsDue s w request a
unfolding vector_due
sends_mean s ok w request h a r = record {
  answers = r.answers;
  vector = refl;
  safe = (safe_iff s ok w (after s w request (passes_due s w request))).0 r.first_safe.here;
  first = λ j l x. clash ((safe_iff s ok w (after s w request j)).1 x) (r.first_safe.before j l);
  fits = after_lt s w ok request h (passes_due s w request);
  few = (unheld_count s w, (holds_mean s ok w).f_counts, r.within);
  untouched = (λ e. (safe_iff s ok w request).0 (r.untouched.0 e), λ x. r.untouched.1 ((safe_iff s ok w request).1 x));
}

module _ (s : Set) (ok : well_formed s ≡ true) (before : List Call) (c : Call) (a : ScanAnswer) (r : Right s before c a) where
  -- by what is allowed of a call
  by_call : {C : Type 0} → (¬ SensorAllowed s c.sensor → C) → (SensorAllowed s c.sensor → ¬ RequestAllowed s c.request → C) → (CallAllowed s c → C) → C
  by_call sensor request both =
      by_test (sensor_ok s c.sensor)
      (λ p. by_test (request_ok s c.request) (λ q. both ((sensor_iff s c.sensor).0 p, (request_iff s c.request).0 q))
      (λ q. request ((sensor_iff s c.sensor).0 p) ((fails_not (request_ok s c.request) (request_iff s c.request)).0 q)))
      (λ p. sensor ((fails_not (sensor_ok s c.sensor) (sensor_iff s c.sensor)).0 p))

  told_31 : ¬ SensorAllowed s c.sensor → scan_told a ≡ 31 ∷ []
  told_31 n = r.refuses_sensor ((fails_not (sensor_ok s c.sensor) (sensor_iff s c.sensor)).1 n)

  told_32 : SensorAllowed s c.sensor → ¬ RequestAllowed s c.request → scan_told a ≡ 32 ∷ []
  told_32 y n = r.refuses_request ((sensor_iff s c.sensor).1 y) ((fails_not (request_ok s c.request) (request_iff s c.request)).1 n)

  told_0 : CallAllowed s c → Sends s (read_after s before c) c.request a
  told_0 y = r.sends ((allowed_iff s c).1 y)

  right_scan : RightScan s before c a
  right_scan = record {
    refuses_sensor = (
      λ t. by_call (λ n. n) (λ y n. apart 32 31 [] [] refl (sym (told_32 y n) ∙ t)) (λ y. apart 0 31 _ [] refl (sym (told_0 y).answers ∙ t)),
      told_31,
    );
    refuses_request = (
      λ t. by_call (λ n. apart 31 32 [] [] refl (sym (told_31 n) ∙ t)) (λ y n. (y, n)) (λ y. apart 0 32 _ [] refl (sym (told_0 y).answers ∙ t)),
      λ x. told_32 x.0 x.1,
    );
    sends = λ y. sends_mean s ok (read_after s before c) c.request y.1 a (told_0 y);
    reads = reads_of_list s before c;
  }

  -- a right scan is not refused with another number than 31 and 32
  never_told : (number : ℕ) → eqb number 0 ≡ false → eqb number 31 ≡ false → eqb number 32 ≡ false → scan_told a ≢ number ∷ []
  never_told number n0 n31 n32 e =
      by_call (λ n. apart number 31 [] [] n31 (sym e ∙ told_31 n)) (λ y n. apart number 32 [] [] n32 (sym e ∙ told_32 y n))
      (λ y. apart number 0 [] _ n0 (sym e ∙ (told_0 y).answers))

every_right : (s : Set) → well_formed s ≡ true → (before calls : List Call) (answers : List ScanAnswer) → AllRight s before calls answers → EveryRight s before calls answers
every_right s ok before [] [] r = tt
every_right s ok before [] (a ∷ answers) r = absurd r
every_right s ok before (c ∷ calls) [] r = absurd r
every_right s ok before (c ∷ calls) (a ∷ answers) r = (right_scan s ok before c a r.0, every_right s ok (c ∷ before) calls answers r.1)

none_told : (number : ℕ) → eqb number 0 ≡ false → eqb number 31 ≡ false → eqb number 32 ≡ false → (s : Set) → well_formed s ≡ true → (before calls : List Call) (answers : List ScanAnswer)
    → AllRight s before calls answers → NeverTold number answers
none_told number n0 n31 n32 s ok before [] [] r = tt
none_told number n0 n31 n32 s ok before [] (a ∷ answers) r = absurd r
none_told number n0 n31 n32 s ok before (c ∷ calls) [] r = absurd r
none_told number n0 n31 n32 s ok before (c ∷ calls) (a ∷ answers) r =
    (never_told s ok before c a r.0 number n0 n31 n32, none_told number n0 n31 n32 s ok (c ∷ before) calls answers r.1)

module _ (s : Set) (room : ℕ) (e : judge_of s room ≡ Accepted) (calls : List Call) where
  ok : well_formed s ≡ true
  ok = judged_formed s room (accepted_not_bad s room e)

  good : (w : ℕ) → w < 2 ^ s.r → Good s w
  good = means s room ok (judged_enough s room (accepted_not_bad s room e) (accepted_not_short s room e)) Accepted e

  -- the state of an accepted start is that before any call
  started : (start_of s room).state ≡ state_after s []
  unfolding start_of past_sensor_after past_output_after any_allowed
  started = ap (start_state s) e

  right : AllRight s [] calls (run (start_of s room).state calls)
  right =
      subst (λ (st : State). AllRight s [] calls (run st calls)) (sym started) (all_right s ok (λ w h. (good w h).ends) [] calls)

  ended : run_state (start_of s room).state calls ≡ state_after s (followed [] calls)
  ended = ap (λ (st : State). run_state st calls) started ∙ list_state s ok (λ w h. (good w h).ends) [] calls

  pub right_scans : RightScans s room calls
  right_scans = record {
    answers = every_right s ok [] calls (run (start_of s room).state calls) right;
    state = subst (StateOfList s (followed [] calls)) (sym ended) (state_of_list s (followed [] calls));
    never_30 = none_told 30 refl refl refl s ok [] calls (run (start_of s room).state calls) right;
    never_33 = none_told 33 refl refl refl s ok [] calls (run (start_of s room).state calls) right;
  }
