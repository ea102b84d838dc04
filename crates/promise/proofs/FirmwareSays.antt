-- What is promised of the functions that C calls is kept.
-- Assumes nothing.
use mathlib.Core.Path.{◌≡◌, refl, sym, ap, ◌∙◌, subst}
use mathlib.Core.Bool.{Bool, true, false, cond, not}
use mathlib.Core.List.{List, [], ◌∷◌}
use mathlib.Core.Logic.{◌↔◌, ◌≢◌}
use Prim.Native.Nat.{ℕ, zero, suc, ◌%◌, ◌≤◌, ◌<◌}
use native.Mathlib.Omega.{arith}
use lib.Dec.{eqb}
use lib.ListN.{get_or}
use borrow.Author.Tests.{ne_eqb}
use Rattle.words.proofs.BoolLaws.{clash}
use Rattle.scan.specs.declared.set.Set.{Set}
use Rattle.scan.specs.declared.set.State.{State}
use Rattle.scan.specs.Set.{zero_set, state_of}
use Rattle.scan.specs.Shape.{well_formed}
use Rattle.scan.proofs.ShapeLaws.{counts}
use Rattle.std.specs.Prelude.{Result, Ok, Err}
use Rattle.shape.specs.declared.finding.Point.{Point}
use Rattle.shape.specs.declared.finding.Point.TheVariants.{Read, Output}
use Rattle.shape.specs.declared.finding.FindError.{FindError}
use Rattle.shape.specs.declared.finding.FindError.TheVariants.{BadSet as FindBadSet, BadLength, Unknown}
use Rattle.shape.specs.Finding.{find_of}
use Rattle.shape.specs.Told.{find_told}
use Rattle.machine.specs.declared.machine.ScanAnswer.{ScanAnswer}
use Rattle.machine.specs.declared.machine.ScanAnswer.TheVariants.{Sent, BadState, BadSensor, BadRequest, Unsafe}
use Rattle.machine.specs.Machine.{scan_of}
use Rattle.machine.specs.Told.{scan_told}
use Rattle.machine.specs.History.{Call, run, run_state, followed}
use Rattle.machine.proofs.MachineLaws.{scan_keeps_set, refused_keeps_state}
use Rattle.verdict.specs.declared.verdict.Verdict.{Verdict}
use Rattle.verdict.specs.declared.verdict.Verdict.TheVariants.{Accepted, BadSet, ShortScratch, NoVector, Clash, NoEnd}
use Rattle.verdict.specs.Judge.{judge_of}
use Rattle.verdict.specs.Told.{verdict_told}
use Rattle.start.specs.Start.{start_state, start_of}
use Rattle.header.specs.Bytes.{Bytes}
use Rattle.loader.specs.declared.loader.LoadAnswer.{LoadAnswer}
use Rattle.loader.specs.declared.loader.LoadAnswer.TheVariants.{Loaded, Refused}
use Rattle.loader.specs.Load.{load_of}
use Rattle.loader.specs.Told.{load_told}
use Rattle.loader.proofs.RefusedZero.{refused_zero}
use Rattle.setfile.proofs.WriteLoaded.{write_loaded}
use Rattle.prepared.specs.Put.{bytes_of}
use Rattle.prepared.specs.Said.{set_said}
use Rattle.prepared.proofs.SaidBack.{said_back, said_zero}
use Rattle.firmware.specs.declared.past.Past.{Past}
use Rattle.firmware.specs.declared.scanning.ScanResult.{ScanResult}
use Rattle.firmware.specs.Past.{with_past, past_of}
use Rattle.firmware.specs.Loading.{load_result, load_file}
use Rattle.firmware.specs.Judging.{verdict_result, judge_file}
use Rattle.firmware.specs.Starting.{start_file}
use Rattle.firmware.specs.Scanning.{scan_result, scanned_result, scan_file}
use Rattle.firmware.specs.Preparing.{scan_prepared}
use Rattle.firmware.specs.Finding.{find_result, find_file}
use Rattle.promise.specs.Scans.{EveryRight, StateOfList}
use Rattle.promise.specs.NeverTold.{NeverTold}
use Rattle.promise.specs.Firmware.{set_in, mark_of, state_by, state_in, LoadSays, VerdictSays, StartSays, AnswerSays, ScanSays, FindSays, answers_of, past_after, EachSays, EachRight, NeverNumber, HandsOn, RightCalls, Firmware}
use Rattle.promise.proofs.Numbers.{apart}
use Rattle.promise.proofs.FileRefusals.{told_loaded, told_refused, zero_not_formed}
use Rattle.promise.proofs.ColumnNumbers.{refusal_numbered}
use Rattle.promise.proofs.ExactVerdicts.{told_accepted, told_clash, means}
use Rattle.promise.proofs.ScanLists.{judged_formed, judged_enough, right_scans}

-- ---- loading

-- a byte is its own low eight bits
low_byte : (x : ℕ) → x < 256 → x % 256 ≡ x
low_byte x h = omega arith

module _ (file : List ℕ) where
  load_loaded : Bytes file → load_told (load_of file).answer ≡ 0 ∷ [] → load_file file ≡ record { number = 0; r = (set_in file).r; n = (set_in file).n; m = (set_in file).m; offset = 0 }
  unfolding load_file
  load_loaded bytes e =
      let c = counts (set_in file) (write_loaded file bytes (told_loaded (load_of file).answer e)).1 in
      λ i. record {
        number = get_or (e i) 0 0;
        r = low_byte (set_in file).r (omega (arith, c.r_le)) i;
        n = low_byte (set_in file).n (omega (arith, c.n_le)) i;
        m = low_byte (set_in file).m (omega (arith, c.m_le)) i;
        offset = get_or (e i) 1 0;
      }

  load_refused : (c o : ℕ) → load_told (load_of file).answer ≡ c ∷ o ∷ [] → load_file file ≡ record { number = c; r = 0; n = 0; m = 0; offset = o }
  unfolding load_file zero_set
  load_refused c o e = let z = refused_zero file c o (told_refused (load_of file).answer c o e) in λ i. load_result (e i) (z i)

  load_good : ((load_file file).number ≡ 0) ↔ (load_told (load_of file).answer ≡ 0 ∷ [])
  unfolding load_file
  load_good = (go (load_of file).answer refl, λ e. ap (λ (told : List ℕ). get_or told 0 0) e)
    where
      go : (a : LoadAnswer) → (load_of file).answer ≡ a → get_or (load_told (load_of file).answer) 0 0 ≡ 0 → load_told (load_of file).answer ≡ 0 ∷ []
      go Loaded e z = ap load_told e
      go (Refused c o) e z =
          let above = refusal_numbered file c o (ap load_told e) in
          let same : c ≡ 0 = sym (ap (λ (a : LoadAnswer). get_or (load_told a) 0 0) e) ∙ z in
          absurd (omega arith)

load_says : (file : List ℕ) → LoadSays file
load_says file = record { loaded = load_loaded file; refused = load_refused file; good = load_good file }

-- ---- the verdict and the start

module _ (s : Set) (room : ℕ) where
  -- an output that a verdict names is a byte
  clash_byte : (w k : ℕ) → verdict_told (judge_of s room) ≡ 58 ∷ w ∷ k ∷ [] → k < 256
  clash_byte w k e =
      let is = told_clash (judge_of s room) w k e in
      let formed = judged_formed s room (λ b. apart 58 20 (w ∷ k ∷ []) [] refl (sym e ∙ ap verdict_told b)) in
      let enough = judged_enough s room (λ b. apart 58 20 (w ∷ k ∷ []) [] refl (sym e ∙ ap verdict_told b)) (λ b. apart 58 21 (w ∷ k ∷ []) [] refl (sym e ∙ ap verdict_told b)) in
      let low = (means s room formed enough (Clash w k) is).1.fits in
      omega arith

-- by the numbers of verdicts, 0 is acceptance alone
verdict_good : (v : Verdict) → (get_or (verdict_told v) 0 0 ≡ 0) ↔ (verdict_told v ≡ 0 ∷ [])
verdict_good v = (go v, λ e. ap (λ (told : List ℕ). get_or told 0 0) e)
  where
    go : (u : Verdict) → get_or (verdict_told u) 0 0 ≡ 0 → verdict_told u ≡ 0 ∷ []
    go Accepted e = refl
    go BadSet e = absurd (omega arith)
    go ShortScratch e = absurd (omega arith)
    go (NoVector w) e = absurd (omega arith)
    go (Clash w k) e = absurd (omega arith)
    go (NoEnd w g) e = absurd (omega arith)

judge_says : (file : List ℕ) (room : ℕ) → VerdictSays (verdict_told (judge_of (set_in file) room)) (judge_file file room)
unfolding judge_file
judge_says file room = record {
  accepted = ap verdict_result;
  not_formed = ap verdict_result;
  short = ap verdict_result;
  no_vector = λ w e. ap verdict_result e;
  clash = λ w k e. ap verdict_result e ∙ (λ i. record { number = 58; output = low_byte k (clash_byte (set_in file) room w k e) i; request = 0; word = w });
  no_end = λ w g e. ap verdict_result e;
  good = verdict_good (judge_of (set_in file) room);
}

-- the past of a start's state
start_past : (s : Set) (v : Verdict) → v ≡ Accepted → past_of (start_state s v) ≡ record { output = s.rest; accepted = 0; sensor = 0 }
start_past s v e = ap (λ (u : Verdict). past_of (start_state s u)) e

start_none : (s : Set) (v : Verdict) → get_or (verdict_told v) 0 0 ≢ 0 → past_of (start_state s v) ≡ record { output = 0; accepted = 0; sensor = 0 }
start_none s Accepted n = absurd (n refl)
start_none s BadSet n = refl
start_none s ShortScratch n = refl
start_none s (NoVector w) n = refl
start_none s (Clash w k) n = refl
start_none s (NoEnd w g) n = refl

start_says : (file : List ℕ) (room : ℕ) → StartSays file room
unfolding start_file judge_file start_of
start_says file room = record {
  says = refl;
  gives = λ e. start_past (set_in file) (judge_of (set_in file) room) (told_accepted (judge_of (set_in file) room) ((verdict_good (judge_of (set_in file) room)).0 e));
  refuses = start_none (set_in file) (judge_of (set_in file) room);
}

-- ---- a scan

-- a mark's byte, read and written
mark_read : (k : ℕ) → not (eqb k 0) ≡ mark_of k
mark_read zero = refl
mark_read (suc k) = ap not (ne_eqb (suc k) 0 (λ e. omega arith))

mark_back : (b : Bool) → mark_of (cond b 1 0) ≡ b
mark_back true = refl
mark_back false = refl

mark_same : (k : ℕ) → k ≤ 1 → cond {A = ℕ} (mark_of k) 1 0 ≡ k
mark_same zero h = refl
mark_same (suc k) h = omega arith

-- the state that is scanned is the set with the past
state_read : (s : Set) (p : Past) → with_past s p ≡ state_by s p
state_read s p = ap (state_of s p.output p.sensor) (mark_read p.accepted)

-- a scan's number and values
answer_says : (a : ScanAnswer) (p : Past) → AnswerSays (scan_told a) (scan_result (scan_told a) p)
answer_says a p = record {
  sent = λ v k e. (ap (λ (told : List ℕ). get_or told 0 0) e, ap (λ (told : List ℕ). get_or told 1 0) e, ap (λ (told : List ℕ). get_or told 2 0) e);
  refused = λ c e. (
    ap (λ (told : List ℕ). get_or told 0 0) e,
    not_0 a c e,
    ap (λ (told : List ℕ). get_or told 1 0) e,
    ap (λ (told : List ℕ). get_or told 2 0) e,
  );
}
  where
    not_0 : (b : ScanAnswer) (c : ℕ) → scan_told b ≡ c ∷ [] → c ≢ 0
    not_0 (Sent v k) c e z = let x : ◌≡◌ {A = ℕ} 0 1 = cc in omega arith
    not_0 BadState c e z = apart 30 0 [] [] refl (e ∙ ap (λ (n : ℕ). n ∷ []) z)
    not_0 BadSensor c e z = apart 31 0 [] [] refl (e ∙ ap (λ (n : ℕ). n ∷ []) z)
    not_0 BadRequest c e z = apart 32 0 [] [] refl (e ∙ ap (λ (n : ℕ). n ∷ []) z)
    not_0 Unsafe c e z = apart 33 0 [] [] refl (e ∙ ap (λ (n : ℕ). n ∷ []) z)

-- a scan of a set, however its result was put together
module _ (s : Set) (p : Past) (sensor request : ℕ) (x : ScanResult) (e : x ≡ scanned_result (scan_of (with_past s p) sensor request)) where
  -- what is answered, of that state
  scanned : x ≡ scanned_result (scan_of (state_by s p) sensor request)
  scanned = e ∙ ap (λ (st : State). scanned_result (scan_of st sensor request)) (state_read s p)

  -- the set with the past of the next state is the next state
  next_state : state_by s (past_of (scan_of (state_by s p) sensor request).state) ≡ (scan_of (state_by s p) sensor request).state
  next_state =
      let st = (scan_of (state_by s p) sensor request).state in
      λ i. state_of (sym (scan_keeps_set (state_by s p) sensor request) i) st.past_output st.past_sensor (mark_back st.accepted i)

  scan_next : state_by s x.past ≡ (scan_of (state_by s p) sensor request).state
  scan_next = ap (λ (y : ScanResult). state_by s y.past) scanned ∙ next_state

  -- a refused scan's state is as it was
  as_before : x.number ≢ 0 → (scan_of (state_by s p) sensor request).state ≡ state_by s p
  as_before n =
      refused_keeps_state (state_by s p) sensor request (λ v k q. n (ap (λ (y : ScanResult). y.number) scanned ∙ ap (λ (a : ScanAnswer). get_or (scan_told a) 0 0) q))

  past_back : x.number ≢ 0 → p.accepted ≤ 1 → x.past ≡ p
  past_back n h =
      ap (λ (y : ScanResult). y.past) scanned ∙ ap past_of (as_before n) ∙ (λ i. record { output = p.output; accepted = mark_same p.accepted h i; sensor = p.sensor })

  scan_says : ScanSays s p sensor request x
  scan_says = record {
    says = subst (AnswerSays (scan_told (scan_of (state_by s p) sensor request).answer)) (sym scanned)
        (answer_says (scan_of (state_by s p) sensor request).answer (past_of (scan_of (state_by s p) sensor request).state));
    next = scan_next;
    kept = λ n. scan_next ∙ as_before n;
    as_it_was = past_back;
  }

-- of a file's
file_says : (file : List ℕ) (p : Past) (sensor request : ℕ) → ScanSays (set_in file) p sensor request (scan_file file p sensor request)
unfolding scan_file
file_says file p sensor request = scan_says (set_in file) p sensor request (scan_file file p sensor request) refl

-- of the set that bytes say
bytes_say : (bytes : List ℕ) (p : Past) (sensor request : ℕ) → ScanSays (set_said bytes) p sensor request (scan_prepared bytes p sensor request)
unfolding scan_prepared
bytes_say bytes p sensor request = scan_says (set_said bytes) p sensor request (scan_prepared bytes p sensor request) refl

-- the bytes that were prepared of a file say its set: it is well formed, or the zero set
prepared_said : (file : List ℕ) → Bytes file → set_said (bytes_of (set_in file)) ≡ set_in file
prepared_said file bytes = go (load_of file).answer refl
  where
    go : (a : LoadAnswer) → (load_of file).answer ≡ a → set_said (bytes_of (set_in file)) ≡ set_in file
    go Loaded e = said_back (set_in file) (write_loaded file bytes e).1
    go (Refused c o) e = let z = refused_zero file c o e in subst (λ (s : Set). set_said (bytes_of s) ≡ s) (sym z) said_zero

prepared_scans : (file : List ℕ) → Bytes file → (p : Past) (sensor request : ℕ) → scan_prepared (bytes_of (set_in file)) p sensor request ≡ scan_file file p sensor request
unfolding scan_prepared scan_file
prepared_scans file bytes p sensor request = ap (λ (s : Set). scanned_result (scan_of (with_past s p) sensor request)) (prepared_said file bytes)

-- ---- finding

find_says : (file name : List ℕ) → FindSays (find_told (find_of (set_in file) name)) (find_file file name)
unfolding find_file
find_says file name = record {
  read = λ k e. ap find_result e;
  output = λ j e. ap find_result e;
  refused = λ c e. (not_0 (find_of (set_in file) name) c e, ap find_result e);
}
  where
    not_0 : (f : Result Point FindError) (c : ℕ) → find_told f ≡ c ∷ [] → c ≢ 0
    not_0 (Ok (Read k)) c e z = let x : ◌≡◌ {A = ℕ} 0 1 = cc in omega arith
    not_0 (Ok (Output k)) c e z = let x : ◌≡◌ {A = ℕ} 0 1 = cc in omega arith
    not_0 (Err FindBadSet) c e z = apart 20 0 [] [] refl (e ∙ ap (λ (n : ℕ). n ∷ []) z)
    not_0 (Err BadLength) c e z = apart 40 0 [] [] refl (e ∙ ap (λ (n : ℕ). n ∷ []) z)
    not_0 (Err Unknown) c e z = apart 41 0 [] [] refl (e ∙ ap (λ (n : ℕ). n ∷ []) z)

-- ---- lists of calls

-- the scans behind the first are those of the next state
module _ (file : List ℕ) where
  each_says : (calls : List Call) (p : Past) → EachSays (run (state_in file p) calls) (answers_of file p calls)
  unfolding run answers_of
  each_says [] p = tt
  each_says (c ∷ calls) p =
      let next = (scan_file file p c.sensor c.request).past in (
        (file_says file p c.sensor c.request).says,
        subst (λ (st : State). EachSays (run st calls) (answers_of file next calls)) (file_says file p c.sensor c.request).next (each_says calls next),
      )

  state_after : (calls : List Call) (p : Past) → state_in file (past_after file p calls) ≡ run_state (state_in file p) calls
  unfolding run_state past_after
  state_after [] p = refl
  state_after (c ∷ calls) p =
      state_after calls (scan_file file p c.sensor c.request).past ∙ ap (λ (st : State). run_state st calls) (file_says file p c.sensor c.request).next

hands_on : (file : List ℕ) (p : Past) (calls : List Call) → HandsOn file p calls
hands_on file p calls = record { answers = each_says file calls p; state = state_after file calls p }

-- right answers that results hold
each_right : (s : Set) (before calls : List Call) (answers : List ScanAnswer) (results : List ScanResult)
    → EveryRight s before calls answers → EachSays answers results → EachRight s before calls results
each_right s before [] [] [] r e = tt
each_right s before [] [] (x ∷ results) r e = e
each_right s before [] (a ∷ answers) results r e = absurd r
each_right s before (c ∷ calls) [] results r e = absurd r
each_right s before (c ∷ calls) (a ∷ answers) [] r e = e
each_right s before (c ∷ calls) (a ∷ answers) (x ∷ results) r e = ((a, r.0, e.0), each_right s (c ∷ before) calls answers results r.1 e.1)

-- a number that is never told is in no result
told_number : (number : ℕ) → number ≢ 0 → (a : ScanAnswer) (x : ScanResult) → AnswerSays (scan_told a) x → scan_told a ≢ number ∷ [] → x.number ≢ number
told_number number pos (Sent v k) x e n h = pos (sym h ∙ (e.sent v k refl).0)
told_number number pos BadState x e n h = n (ap (λ (c : ℕ). c ∷ []) (sym (e.refused 30 refl).0 ∙ h))
told_number number pos BadSensor x e n h = n (ap (λ (c : ℕ). c ∷ []) (sym (e.refused 31 refl).0 ∙ h))
told_number number pos BadRequest x e n h = n (ap (λ (c : ℕ). c ∷ []) (sym (e.refused 32 refl).0 ∙ h))
told_number number pos Unsafe x e n h = n (ap (λ (c : ℕ). c ∷ []) (sym (e.refused 33 refl).0 ∙ h))

never_number : (number : ℕ) → number ≢ 0 → (answers : List ScanAnswer) (results : List ScanResult) → NeverTold number answers → EachSays answers results → NeverNumber number results
never_number number pos [] [] n e = tt
never_number number pos [] (x ∷ results) n e = absurd e
never_number number pos (a ∷ answers) [] n e = absurd e
never_number number pos (a ∷ answers) (x ∷ results) n e = (told_number number pos a x e.0 n.0, never_number number pos answers results n.1 e.1)

module _ (file : List ℕ) (room : ℕ) (good : (start_file file room).verdict.number ≡ 0) where
  is_accepted : judge_of (set_in file) room ≡ Accepted
  unfolding start_file start_of
  is_accepted = told_accepted (judge_of (set_in file) room) ((verdict_good (judge_of (set_in file) room)).0 good)

  -- a file whose set is accepted loads: where it does not, its set is not well formed
  file_loads : (load_file file).number ≡ 0
  file_loads = (load_good file).1 (go (load_of file).answer refl)
    where
      formed : well_formed (set_in file) ≡ true
      formed = judged_formed (set_in file) room (λ b. apart 0 20 [] [] refl (ap verdict_told (sym is_accepted ∙ b)))

      go : (a : LoadAnswer) → (load_of file).answer ≡ a → load_told (load_of file).answer ≡ 0 ∷ []
      go Loaded e = ap load_told e
      go (Refused c o) e = clash (ap well_formed (sym (refused_zero file c o e)) ∙ formed) zero_not_formed

  -- the start's past, with the file, is the start's state
  start_state_law : state_in file (start_file file room).past ≡ (start_of (set_in file) room).state
  unfolding start_file start_of
  start_state_law =
      subst (λ (v : Verdict). state_in file (past_of (start_state (set_in file) v)) ≡ start_state (set_in file) v) (sym is_accepted) refl

  -- the lists of demand 3, from that past
  list_answers : (calls : List Call) → EachSays (run (start_of (set_in file) room).state calls) (answers_of file (start_file file room).past calls)
  list_answers calls =
      subst (λ (st : State). EachSays (run st calls) (answers_of file (start_file file room).past calls)) start_state_law (hands_on file (start_file file room).past calls).answers

  list_state : (calls : List Call) → state_in file (past_after file (start_file file room).past calls) ≡ run_state (start_of (set_in file) room).state calls
  list_state calls = (hands_on file (start_file file room).past calls).state ∙ ap (λ (st : State). run_state st calls) start_state_law

  right_calls : (calls : List Call) → RightCalls file room calls
  right_calls calls =
      let r = right_scans (set_in file) room is_accepted calls in
      let told = run (start_of (set_in file) room).state calls in
      let results = answers_of file (start_file file room).past calls in
      record {
        loads = file_loads;
        answers = each_right (set_in file) [] calls told results r.answers (list_answers calls);
        state = subst (StateOfList (set_in file) (followed [] calls)) (sym (list_state calls)) r.state;
        never_30 = never_number 30 (λ e. omega arith) told results r.never_30 (list_answers calls);
        never_33 = never_number 33 (λ e. omega arith) told results r.never_33 (list_answers calls);
      }

-- ---- all of it

pub firmware : Firmware
firmware = record {
  load = load_says;
  judge = judge_says;
  start = start_says;
  scan = file_says;
  find = find_says;
  hands_on = hands_on;
  prepared = prepared_scans;
  any_bytes = bytes_say;
  calls = right_calls;
}
