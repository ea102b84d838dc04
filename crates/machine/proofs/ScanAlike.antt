-- A lone output's rank changes no walk and no answer.
-- Assumes nothing.
use mathlib.Core.Path.{◌≡◌, sym, ap, ◌∙◌}
use mathlib.Core.Bool.{Bool, true, not, ◌&&◌}
use Prim.Native.Nat.{ℕ, ◌-◌, ◌^◌}
use mathlib.Core.Path.{fun_ext}
use lib.Bits.{bit_and}
use Rattle.words.specs.Word.{popcount}
use Rattle.words.specs.Loop.{word}
use Rattle.scan.specs.declared.set.Kind.{Kind}
use Rattle.scan.specs.declared.set.Set.{Set}
use Rattle.scan.specs.Set.{state_of}
use Rattle.scan.specs.Shape.{is_sensor, well_formed}
use Rattle.scan.specs.Holds.{reckoned, unheld_count}
use Rattle.scan.specs.Walk.{walk_held, walk}
use Rattle.machine.specs.Past.{sensor_before, reading, reading_at, read_word}
use Rattle.machine.specs.Machine.{state_ok, is_past, sensor_ok, request_ok, scan_of}
use Rattle.machine.proofs.MachineLaws.{answer_by, scan_answer}
use Rattle.scan.proofs.LoneRanks.{AlikeButLone, f0_alike, f1_alike, unheld_alike, safe_alike, pass_alike}

module _ (s t : Set) (a : AlikeButLone s t) (w : ℕ) where
  -- every walk is the same
  pub walk_alike : (request : ℕ) → walk s w request ≡ walk t w request
  unfolding walk unheld_count
  walk_alike g = λ i.
      walk_held (fun_ext (safe_alike s t a w) i) (fun_ext (pass_alike s t a w) i) (2 ^ popcount (unheld_alike s t a w i) - 1) g (reckoned (f0_alike s t a w i) (f1_alike s t a w i))

module _ (s t : Set) (a : AlikeButLone s t) (formed : well_formed s ≡ well_formed t) (output sensor : ℕ) (accepted : Bool) (present request : ℕ) where
  -- the past sensor word that the scan reads
  abbrev past : ℕ
  past = sensor_before accepted sensor present

  read_alike : read_word s output past present ≡ read_word t output past present
  unfolding read_word reading_at
  read_alike = λ i. word (a.r_same i) (fun_ext (λ k. ap (reading output past present k) (a.kinds k)) i)

  sensor_alike : sensor_ok s present ≡ sensor_ok t present
  unfolding sensor_ok is_past
  sensor_alike = λ i. lib.Dec.ltb present (2 ^ a.r_same i) && lib.Dec.eqb (bit_and present (word (a.r_same i) (fun_ext (λ k. ap (λ (x : Kind). not (is_sensor x)) (a.kinds k)) i))) 0

  -- a lone output's rank changes no answer
  pub scan_alike : (scan_of (state_of s output sensor accepted) present request).answer ≡ (scan_of (state_of t output sensor accepted) present request).answer
  unfolding state_ok request_ok
  scan_alike =
      scan_answer (state_of s output sensor accepted) present request
      ∙ (λ i. answer_by (formed i && (lib.Dec.ltb output (2 ^ a.n_same i) && (lib.Dec.ltb sensor (2 ^ a.r_same i) && true))) (sensor_alike i)
      (lib.Dec.ltb request (2 ^ a.n_same i)) ((walk_alike s t a (read_word s output past present) request ∙ ap (λ (w : ℕ). walk t w request) read_alike) i))
      ∙ sym (scan_answer (state_of t output sensor accepted) present request)
