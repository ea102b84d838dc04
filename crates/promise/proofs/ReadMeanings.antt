-- The read word of a scan, bit by bit: of a state, and in a list, told from the calls before it.
-- Assumes nothing.
use mathlib.Core.Path.{◌≡◌, refl, sym, ap, ap₂, subst, ◌∙◌}
use mathlib.Core.Bool.{Bool, true, false, ◌&&◌, ◌||◌}
use mathlib.Core.List.{List, [], ◌∷◌}
use mathlib.Core.Logic.{◌↔◌, inl, inr}
use Prim.Native.Nat.{ℕ, ◌≤◌, ◌<◌}
use Rattle.words.proofs.BitLaws.{bit_above}
use Rattle.words.proofs.BoolLaws.{and_true, or_left, or_right, cond_true, cond_false}
use Rattle.scan.specs.declared.set.Kind.{Kind}
use Rattle.scan.specs.declared.set.Kind.TheVariants.{Sensor, PastOutput, PastSensor}
use Rattle.scan.specs.declared.set.Set.{Set}
use Rattle.scan.specs.declared.set.State.{State}
use Rattle.scan.specs.Set.{kind}
use Rattle.machine.specs.Past.{sensor_before, reading, read_word}
use Rattle.machine.specs.Machine.{sensor_ok, request_ok}
use Rattle.machine.specs.History.{Call, allowed, any_allowed, past_sensor_after, sensor_read, past_output_after, read_after, state_after}
use Rattle.machine.proofs.PastLaws.{read_bit, read_lt}
use Rattle.promise.specs.Terms.{Bit, BitRead, state_with}
use Rattle.promise.specs.Meanings.{ReadsMean}
use Rattle.promise.specs.Scans.{CallAllowed, LastAllowed, NoneAllowed, due_after, ReadsOfList, StateOfList}
use Rattle.promise.proofs.Numbers.{fails_not}
use Rattle.promise.proofs.Bits.{bit_set, set_bit, bit_clear, bit_iff}
use Rattle.promise.proofs.ScanRefusals.{sensor_iff, request_iff}

-- ---- with two pasts

reading_iff : (output sensor present k : ℕ) (x : Kind) → (reading output sensor present k x ≡ true) ↔ BitRead x output sensor present k
reading_iff output sensor present k Sensor = bit_iff k present
reading_iff output sensor present k (PastOutput i) = bit_iff i output
reading_iff output sensor present k (PastSensor i) = bit_iff i sensor

read_iff : (s : Set) (output sensor present k : ℕ) → k < s.r → Bit k (read_word s output sensor present) ↔ BitRead (kind s k) output sensor present k
read_iff s output sensor present k h =
    let by = reading_iff output sensor present k (kind s k) in
    let row = read_bit s output sensor present k h in (
      λ b. by.0 (sym row ∙ set_bit k (read_word s output sensor present) b),
      λ a. bit_set k (read_word s output sensor present) (row ∙ by.1 a),
    )

-- the same, with the pasts told by what they are equal to
read_with : (s : Set) (output sensor present : ℕ) {o x : ℕ} → output ≡ o → sensor ≡ x → (k : ℕ) → k < s.r
    → Bit k (read_word s output sensor present) ↔ BitRead (kind s k) o x present k
read_with s output sensor present {o} {x} eo ex k h =
    let by = read_iff s o x present k h in
    let same : read_word s output sensor present ≡ read_word s o x present = λ i. read_word s (eo i) (ex i) present in
    (λ b. by.0 (subst (Bit k) same b), λ a. subst (Bit k) (sym same) (by.1 a))

none_above : (s : Set) (output sensor present k : ℕ) → s.r ≤ k → ¬ Bit k (read_word s output sensor present)
none_above s output sensor present k h =
    bit_clear k (read_word s output sensor present) (bit_above s.r k (read_word s output sensor present) (read_lt s output sensor present) h)

pub reads_mean : (st : State) (present : ℕ) → ReadsMean st present
reads_mean st present =
    let past : Bool → ℕ = λ accepted. sensor_before accepted st.past_sensor present in
    record {
      later = λ e. read_with st.set st.past_output (past st.accepted) present refl (ap past e);
      first = λ e. read_with st.set st.past_output (past st.accepted) present refl (ap past e);
      above = none_above st.set st.past_output (past st.accepted) present;
    }

-- ---- in a list

module _ (s : Set) where
  pub allowed_iff : (c : Call) → (allowed s c ≡ true) ↔ CallAllowed s c
  unfolding allowed
  allowed_iff c = (
    λ e.
        let both = and_true (sensor_ok s c.sensor) (request_ok s c.request) e in
        ((sensor_iff s c.sensor).0 both.0, (request_iff s c.request).0 both.1),
    λ a. ap₂ ◌&&◌ ((sensor_iff s c.sensor).1 a.0) ((request_iff s c.request).1 a.1),
  )

  -- the two pasts that a call finds are those of the last call that is allowed, and the mark says that there is one
  last_pasts : (before : List Call) (b : Call) (earlier : List Call) → LastAllowed s before b earlier
      → (past_output_after s before ≡ due_after s earlier b) × (past_sensor_after s before ≡ b.sensor) × (any_allowed s before ≡ true)
  unfolding past_output_after past_sensor_after read_after any_allowed
  last_pasts [] b earlier l = absurd l
  last_pasts (x ∷ before) b earlier (inl a) =
      let here = (allowed_iff x).1 a.0 in (
        sym (cond_true (allowed s x) (due_after s before x) (past_output_after s before) here) ∙ ap₂ (due_after s) a.2 a.1,
        sym (cond_true (allowed s x) x.sensor (past_sensor_after s before) here) ∙ ap (λ (c : Call). c.sensor) a.1,
        or_left (allowed s x) (any_allowed s before) here,
      )
  last_pasts (x ∷ before) b earlier (inr a) =
      let skipped = (fails_not (allowed s x) (allowed_iff x)).1 a.0 in
      let more = last_pasts before b earlier a.1 in (
        sym (cond_false (allowed s x) (due_after s before x) (past_output_after s before) skipped) ∙ more.0,
        sym (cond_false (allowed s x) x.sensor (past_sensor_after s before) skipped) ∙ more.1,
        or_right (allowed s x) (any_allowed s before) more.2,
      )

  -- and a start's where there is none
  no_pasts : (before : List Call) → NoneAllowed s before → (past_output_after s before ≡ s.rest) × (past_sensor_after s before ≡ 0) × (any_allowed s before ≡ false)
  unfolding past_output_after past_sensor_after read_after any_allowed
  no_pasts [] n = (refl, refl, refl)
  no_pasts (x ∷ before) n =
      let skipped = (fails_not (allowed s x) (allowed_iff x)).1 n.0 in
      let more = no_pasts before n.1 in (
        sym (cond_false (allowed s x) (due_after s before x) (past_output_after s before) skipped) ∙ more.0,
        sym (cond_false (allowed s x) x.sensor (past_sensor_after s before) skipped) ∙ more.1,
        ap (λ (b : Bool). b || any_allowed s before) skipped ∙ more.2,
      )

  pub reads_of_list : (before : List Call) (c : Call) → ReadsOfList s before c
  unfolding read_after sensor_read
  reads_of_list before c = record {
    last = λ b earlier l.
        let e = last_pasts before b earlier l in
        read_with s (past_output_after s before) (sensor_read s before c) c.sensor e.0 (marked e.2 ∙ e.1);
    none = λ n. let e = no_pasts before n in read_with s (past_output_after s before) (sensor_read s before c) c.sensor e.0 (marked e.2);
    above = none_above s (past_output_after s before) (sensor_read s before c) c.sensor;
  }
    where
      -- the past sensor word that the call reads, by the mark that it finds
      marked : {accepted : Bool} → any_allowed s before ≡ accepted → sensor_read s before c ≡ sensor_before accepted (past_sensor_after s before) c.sensor
      marked e = ap (λ (accepted : Bool). sensor_before accepted (past_sensor_after s before) c.sensor) e

  pub state_of_list : (before : List Call) → StateOfList s before (state_after s before)
  state_of_list before = record {
    last = λ b earlier l. with_parts (last_pasts before b earlier l);
    none = λ n. with_parts (no_pasts before n);
  }
    where
      with_parts : {output sensor : ℕ} {accepted : Bool} → (past_output_after s before ≡ output) × (past_sensor_after s before ≡ sensor) × (any_allowed s before ≡ accepted)
          → state_after s before ≡ state_with s output sensor accepted
      with_parts e = λ i. state_with s (e.0 i) (e.1 i) (e.2 i)
