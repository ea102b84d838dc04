-- The promises are kept.
-- Assumes nothing.
use mathlib.Core.Path.{◌≡◌, sym, ap, ◌∙◌}
use mathlib.Core.Bool.{true}
use mathlib.Core.List.{List, [], ◌∷◌, ◌++◌}
use mathlib.Core.Logic.{inl, inr, ⊎_elim}
use Prim.Native.Nat.{ℕ, ◌≤◌}
use lib.ListN.{length, take, drop}
use lib.Seq.{take-append_seam}
use Rattle.scan.specs.declared.set.Set.{Set}
use Rattle.scan.specs.declared.set.State.{State}
use Rattle.machine.specs.declared.machine.Scanned.{Scanned}
use Rattle.scan.specs.Set.{zero_set}
use Rattle.scan.specs.Shape.{well_formed}
use Rattle.machine.specs.Machine.{scan_of}
use Rattle.scan.specs.Walk.{passes_due}
use Rattle.machine.specs.Told.{scan_told}
use Rattle.machine.proofs.MachineLaws.{sends_due, scan_answers, scan_keeps_set}
use Rattle.verdict.specs.Judge.{judge_of}
use Rattle.start.specs.Start.{start_of}
use Rattle.header.specs.Bytes.{Bytes}
use Rattle.loader.specs.Load.{load_of}
use Rattle.writer.specs.Write.{write_of, write_answer, buffer_after}
use Rattle.loader.specs.Told.{load_told}
use Rattle.writer.specs.Told.{write_told}
use Rattle.setfile.proofs.WriteLoaded.{write_loaded}
use Rattle.text.proofs.TextLaws.{text_fits}
use Rattle.setfile.proofs.WrittenBytes.{written_bytes}
use Rattle.promise.specs.Allowed.{StateAllowed, SensorAllowed, RequestAllowed, word_of}
use Rattle.promise.specs.Meanings.{Meanings}
use Rattle.promise.specs.Promise.{Answers, Demand1, Demand2, Demand3, Promise}
use Rattle.promise.proofs.FilesAsBefore.{files_of_today}
use Rattle.promise.proofs.FileRefusals.{told_loaded, formed, zero_not_formed, written_loads, load_refusals, write_refusals}
use Rattle.promise.proofs.SetRefusals.{verdict_refusals}
use Rattle.promise.proofs.ScanRefusals.{state_iff, sensor_iff, request_iff, scan_refusals}
use Rattle.promise.proofs.NameRefusals.{name_bytes_iff, find_refusals}
use Rattle.promise.proofs.ConstraintMeanings.{constraints_mean}
use Rattle.promise.proofs.HoldMeanings.{holds_mean}
use Rattle.promise.proofs.PassMeanings.{ends_iff, pass_means, walk_means}
use Rattle.promise.proofs.ReadMeanings.{reads_mean}
use Rattle.promise.proofs.NameMeanings.{names_mean}
use Rattle.promise.proofs.PlaceMeanings.{places_mean}
use Rattle.promise.proofs.LoneRankMeanings.{lone_ranks_unread}
use Rattle.promise.proofs.FilesSay.{file_says}
use Rattle.promise.proofs.TextsSay.{text_says}
use Rattle.promise.proofs.LinesSay.{printed_says}
use Rattle.promise.proofs.OneText.{one_set, one_text}
use Rattle.promise.proofs.TextRefusals.{text_refusals}
use Rattle.promise.proofs.ExactVerdicts.{told_accepted, exact_verdict, exact_start}
use Rattle.promise.proofs.Clashes.{reckoning}
use Rattle.promise.proofs.ClashesNamed.{clash_named}
use Rattle.promise.proofs.OneGroups.{one_group}
use Rattle.promise.proofs.OneBits.{scratch_size, one_bit, by_eights}
use Rattle.promise.proofs.ScanLists.{sends_mean, right_scans}
use Rattle.promise.proofs.PowerUps.{power_up}
use Rattle.promise.proofs.RestWords.{rest_word}
use Rattle.promise.proofs.OneWords.{by_active}
use Rattle.promise.proofs.FirmwareSays.{firmware}

-- ---- demand 1

-- Demand 1 is met.
pub demand_1 : Demand1
unfolding zero_set
demand_1 = record {
  loading = load_refusals;
  writing = write_refusals;
  verdict = verdict_refusals;
  scratch = scratch_size;
  scan = scan_refusals;
  finding = find_refusals;
  formed = formed;
  zero_not_formed = zero_not_formed;
}

-- ---- demand 2

answers : (st : State) (present request : ℕ) → StateAllowed st → SensorAllowed st.set present → RequestAllowed st.set request → Answers st present request
answers st present request a b c =
    ⊎_elim
    (λ x. inl (
      sends_mean st.set a.0 (word_of st present) request c (scan_of st present request).answer
          (sends_due st.set a.0 (word_of st present) request c (passes_due st.set (word_of st present) request, x.0.here) (scan_of st present request).answer
          (ap (λ (y : Scanned). scan_told y.answer) x.1)),
      ap (λ (y : Scanned). y.state) x.1,
    ))
    (λ x. inr (λ y. x.0 ((ends_iff st.set a.0 (word_of st present) request).1 y), ap (λ (y : Scanned). scan_told y.answer) x.1))
    (scan_answers st present request ((state_iff st).1 a) ((sensor_iff st.set present).1 b) ((request_iff st.set request).1 c))

loads_back : (s : Set) (buf : List ℕ) (size : ℕ) → write_told (write_answer s (length buf)) ≡ 0 ∷ size ∷ []
    → (load_told (load_of (take size (buffer_after s buf))).answer ≡ 0 ∷ []) × ((load_of (take size (buffer_after s buf))).set ≡ s)
loads_back s buf size e =
    let w = write_refusals s buf in
    let fits = (w.wrote size).0 e in
    let file : take size (buffer_after s buf) ≡ write_of s =
    ap (take size) (w.front size e) ∙ ap (λ (k : ℕ). take k (write_of s ++ drop size buf)) fits.1 ∙ take-append_seam (write_of s) (drop size buf) in
    written_loads s fits.0 (take size (buffer_after s buf)) (sym file)

writes_back : (file buf : List ℕ) → Bytes file → load_told (load_of file).answer ≡ 0 ∷ [] → length file ≤ length buf
    → (write_told (write_answer (load_of file).set (length buf)) ≡ 0 ∷ length file ∷ []) × (buffer_after (load_of file).set buf ≡ file ++ drop (length file) buf)
writes_back file buf bytes e h =
    let back = write_loaded file bytes (told_loaded (load_of file).answer e) in
    let w = write_refusals (load_of file).set buf in
    let told = (w.wrote (length file)).1 (back.1, ap length (sym back.0), h) in
    (told, w.front (length file) told ∙ ap (λ (l : List ℕ). l ++ drop (length file) buf) back.0)

one_file : (f g : List ℕ) → Bytes f → Bytes g → load_told (load_of f).answer ≡ 0 ∷ [] → load_told (load_of g).answer ≡ 0 ∷ [] → (load_of f).set ≡ (load_of g).set → f ≡ g
one_file f g bf bg ef eg same =
    sym (write_loaded f bf (told_loaded (load_of f).answer ef)).0 ∙ ap write_of same ∙ (write_loaded g bg (told_loaded (load_of g).answer eg)).0

-- Demand 2 is met.
pub demand_2 : Demand2
demand_2 = record {
  scan = answers;
  same_set = scan_keeps_set;
  load_written = loads_back;
  writes_bytes = written_bytes;
  write_loaded = writes_back;
  files_of_today = files_of_today;
  one_file = one_file;
}

-- ---- demand 3

-- Demand 3 is met.
pub demand_3 : Demand3
unfolding start_of
demand_3 = record {
  verdict = exact_verdict;
  one_group = λ s room ok enough. one_group s ok room enough;
  one_bit = one_bit;
  clash_named = clash_named;
  start = exact_start;
  scans = λ s room e calls. right_scans s room (told_accepted (judge_of s room) e) calls;
}

-- ---- the promise

meanings : (s : Set) → well_formed s ≡ true → Meanings s
meanings s ok = record {
  constraints = constraints_mean s ok;
  holds = holds_mean s ok;
  pass = pass_means s ok;
  walk = walk_means s ok;
  names = names_mean s ok;
  places = places_mean s ok;
}

-- The promise is kept.
pub promise : Promise
promise = record {
  demand_1 = demand_1;
  demand_2 = demand_2;
  demand_3 = demand_3;
  meanings = meanings;
  reads = reads_mean;
  power_up = power_up;
  rest_word = rest_word;
  by_active = λ s w ok. by_active s ok w;
  reckoning = λ s w ok. reckoning s ok w;
  by_eights = λ s w ok. by_eights s ok w;
  name_bytes = name_bytes_iff;
  files = file_says;
  lone_ranks = lone_ranks_unread;
  line = printed_says;
  firmware = firmware;
  texts = record { putting = text_refusals; most = text_fits; says = text_says; one_set = one_set; one_text = one_text };
}
