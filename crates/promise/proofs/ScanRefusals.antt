-- Demand 1 for scans: each number exactly when its condition holds and no earlier one does, and the state that is kept.
-- Assumes nothing.
use mathlib.Core.Path.{◌≡◌, refl, sym, ap, ◌∙◌}
use mathlib.Core.Bool.{true}
use mathlib.Core.List.{List, [], ◌∷◌}
use mathlib.Core.Logic.{◌↔◌}
use Prim.Native.Nat.{ℕ}
use Rattle.words.proofs.BitLaws.{bit_below}
use Rattle.words.proofs.BoolLaws.{by_test}
use Rattle.scan.specs.declared.set.Set.{Set}
use Rattle.scan.specs.declared.set.State.{State}
use Rattle.machine.specs.declared.machine.Scanned.{Scanned}
use Rattle.scan.specs.Set.{kind}
use Rattle.scan.specs.Shape.{is_sensor}
use Rattle.scan.specs.Walk.{Reaches, vector_due, passes_due}
use Rattle.machine.specs.Machine.{state_ok, sensor_ok, request_ok, scan_of}
use Rattle.machine.specs.Told.{scan_told}
use Rattle.scan.proofs.ShapeLaws.{is_sensor_law}
use Rattle.machine.proofs.PastLaws.{sensor_lt, sensor_bits, sensor_allowed}
use Rattle.scan.proofs.WalkLaws.{reaches_or_never}
use Rattle.machine.proofs.MachineLaws.{state_parts, state_passes, state_formed, request_lt, request_passes, scan_bad_state, scan_bad_sensor, scan_bad_request, scan_sends, scan_unsafe, refused_keeps_state}
use Rattle.promise.specs.Allowed.{StateAllowed, SensorAllowed, RequestAllowed, word_of}
use Rattle.promise.specs.Verdicts.{EndsSafe}
use Rattle.promise.specs.Promise.{ScanRefusals}
use Rattle.promise.proofs.Numbers.{apart, fails_not}
use Rattle.promise.proofs.Bits.{bit_set, set_bit}
use Rattle.promise.proofs.PassMeanings.{ends_iff}
use Rattle.promise.proofs.Clashes.{both_unsafe}

pub state_iff : (st : State) → (state_ok st ≡ true) ↔ StateAllowed st
state_iff st = (state_parts st, λ a. state_passes st a.0 a.1 a.2)

pub sensor_iff : (s : Set) (present : ℕ) → (sensor_ok s present ≡ true) ↔ SensorAllowed s present
sensor_iff s present = (
  λ e. (sensor_lt s present e, λ k h b. is_sensor_law (kind s k) (sensor_bits s present e k (set_bit k present b)).1),
  λ a. sensor_allowed s present a.0 (λ k b. ap is_sensor (a.1 k (bit_below s.r k present a.0 b) (bit_set k present b))),
)

pub request_iff : (s : Set) (request : ℕ) → (request_ok s request ≡ true) ↔ RequestAllowed s request
request_iff s request = (request_lt s request, request_passes s request)

module _ (st : State) (present request : ℕ) where
  abbrev told : List ℕ
  told = scan_told (scan_of st present request).answer

  -- what a scan tells, by the way that it goes
  pub data Went : Type 0 where
    bad_state : ¬ StateAllowed st → told ≡ 30 ∷ [] → Went
    bad_sensor : StateAllowed st → ¬ SensorAllowed st.set present → told ≡ 31 ∷ [] → Went
    bad_request : StateAllowed st → SensorAllowed st.set present → ¬ RequestAllowed st.set request → told ≡ 32 ∷ [] → Went
    never : StateAllowed st → SensorAllowed st.set present → RequestAllowed st.set request → ¬ EndsSafe st.set (word_of st present) request → told ≡ 33 ∷ [] → Went
    sent : StateAllowed st → SensorAllowed st.set present → RequestAllowed st.set request → EndsSafe st.set (word_of st present) request
        → (v k : ℕ) → told ≡ 0 ∷ v ∷ k ∷ [] → Went

  went : Went
  went =
      by_test (state_ok st)
      (λ p. by_test (sensor_ok st.set present)
      (λ q. by_test (request_ok st.set request)
      (λ r. walked p q r (reaches_or_never st.set (state_formed st p) (word_of st present) request (request_lt st.set request r)))
      (λ r. bad_request ((state_iff st).0 p) ((sensor_iff st.set present).0 q) ((fails_not (request_ok st.set request) (request_iff st.set request)).0 r)
      (ap (λ (x : Scanned). scan_told x.answer) (scan_bad_request st present request p q r))))
      (λ q. bad_sensor ((state_iff st).0 p) ((fails_not (sensor_ok st.set present) (sensor_iff st.set present)).0 q)
      (ap (λ (x : Scanned). scan_told x.answer) (scan_bad_sensor st present request p q))))
      (λ p. bad_state ((fails_not (state_ok st) (state_iff st)).0 p) (ap (λ (x : Scanned). scan_told x.answer) (scan_bad_state st present request p)))
    where
      ends : state_ok st ≡ true → Reaches st.set (word_of st present) request ↔ EndsSafe st.set (word_of st present) request
      ends p = ends_iff st.set (state_formed st p) (word_of st present) request

      walked : state_ok st ≡ true → sensor_ok st.set present ≡ true → request_ok st.set request ≡ true → Dec (Reaches st.set (word_of st present) request) → Went
      walked p q r (yes e) =
          sent ((state_iff st).0 p) ((sensor_iff st.set present).0 q) ((request_iff st.set request).0 r) ((ends p).0 e)
          (vector_due st.set (word_of st present) request) (passes_due st.set (word_of st present) request)
          (ap (λ (x : Scanned). scan_told x.answer) (scan_sends st present request p q r e))
      walked p q r (no n) =
          never ((state_iff st).0 p) ((sensor_iff st.set present).0 q) ((request_iff st.set request).0 r) (λ x. n ((ends p).1 x))
          (ap (λ (x : Scanned). scan_told x.answer) (scan_unsafe st present request p q r n))

  state_case : Went → (told ≡ 30 ∷ []) ↔ (¬ StateAllowed st)
  state_case (bad_state n e) = (λ t. n, λ x. e)
  state_case (bad_sensor a n e) = (λ t. apart 31 30 [] [] refl (sym e ∙ t), λ x. absurd (x a))
  state_case (bad_request a b n e) = (λ t. apart 32 30 [] [] refl (sym e ∙ t), λ x. absurd (x a))
  state_case (never a b c n e) = (λ t. apart 33 30 [] [] refl (sym e ∙ t), λ x. absurd (x a))
  state_case (sent a b c y v k e) = (λ t. apart 0 30 (v ∷ k ∷ []) [] refl (sym e ∙ t), λ x. absurd (x a))

  sensor_case : Went → (told ≡ 31 ∷ []) ↔ (StateAllowed st × (¬ SensorAllowed st.set present))
  sensor_case (bad_state n e) = (λ t. apart 30 31 [] [] refl (sym e ∙ t), λ x. absurd (n x.0))
  sensor_case (bad_sensor a n e) = (λ t. (a, n), λ x. e)
  sensor_case (bad_request a b n e) = (λ t. apart 32 31 [] [] refl (sym e ∙ t), λ x. absurd (x.1 b))
  sensor_case (never a b c n e) = (λ t. apart 33 31 [] [] refl (sym e ∙ t), λ x. absurd (x.1 b))
  sensor_case (sent a b c y v k e) = (λ t. apart 0 31 (v ∷ k ∷ []) [] refl (sym e ∙ t), λ x. absurd (x.1 b))

  request_case : Went → (told ≡ 32 ∷ []) ↔ (StateAllowed st × SensorAllowed st.set present × (¬ RequestAllowed st.set request))
  request_case (bad_state n e) = (λ t. apart 30 32 [] [] refl (sym e ∙ t), λ x. absurd (n x.0))
  request_case (bad_sensor a n e) = (λ t. apart 31 32 [] [] refl (sym e ∙ t), λ x. absurd (n x.1))
  request_case (bad_request a b n e) = (λ t. (a, b, n), λ x. e)
  request_case (never a b c n e) = (λ t. apart 33 32 [] [] refl (sym e ∙ t), λ x. absurd (x.2 c))
  request_case (sent a b c y v k e) = (λ t. apart 0 32 (v ∷ k ∷ []) [] refl (sym e ∙ t), λ x. absurd (x.2 c))

  walk_case : Went → (told ≡ 33 ∷ [])
      ↔ (StateAllowed st × SensorAllowed st.set present × RequestAllowed st.set request × (¬ EndsSafe st.set (word_of st present) request))
  walk_case (bad_state n e) = (λ t. apart 30 33 [] [] refl (sym e ∙ t), λ x. absurd (n x.0))
  walk_case (bad_sensor a n e) = (λ t. apart 31 33 [] [] refl (sym e ∙ t), λ x. absurd (n x.1))
  walk_case (bad_request a b n e) = (λ t. apart 32 33 [] [] refl (sym e ∙ t), λ x. absurd (n x.2))
  walk_case (never a b c n e) = (λ t. (a, b, c, n), λ x. e)
  walk_case (sent a b c y v k e) = (λ t. apart 0 33 (v ∷ k ∷ []) [] refl (sym e ∙ t), λ x. absurd (x.3 y))

  sent_case : Went → StateAllowed st → SensorAllowed st.set present → RequestAllowed st.set request → EndsSafe st.set (word_of st present) request
      → (v : ℕ) × (k : ℕ) × (told ≡ 0 ∷ v ∷ k ∷ [])
  sent_case (bad_state n e) a b c y = absurd (n a)
  sent_case (bad_sensor _ n e) a b c y = absurd (n b)
  sent_case (bad_request _ _ n e) a b c y = absurd (n c)
  sent_case (never _ _ _ n e) a b c y = absurd (n y)
  sent_case (sent _ _ _ _ v k e) a b c y = (v, k, e)

  pub scan_refusals : ScanRefusals st present request
  scan_refusals = record {
    bad_state = state_case went;
    bad_sensor = sensor_case went;
    bad_request = request_case went;
    unsafe = walk_case went;
    clash = λ a b c k both. (walk_case went).1 (a, b, c, λ e. both_unsafe st.set a.0 (word_of st present) k both _ e.1);
    sends = sent_case went;
    kept = λ n. refused_keeps_state st present request (λ v k e. n v k (ap scan_told e));
  }
