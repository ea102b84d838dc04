-- The laws of specs/Starting: what is put together step by step is what the definitions say.
-- Assumes nothing.
use mathlib.Core.Path.{◌≡◌, ap, ◌∙◌}
use mathlib.Core.List.{List}
use Prim.Native.Nat.{ℕ}
use Rattle.loader.specs.declared.loader.Loaded.{Loaded}
use Rattle.loader.specs.Load.{load_of}
use Rattle.verdict.specs.Told.{verdict_told}
use Rattle.start.specs.declared.starting.Started.{Started}
use Rattle.start.specs.Start.{start_of}
use Rattle.firmware.specs.declared.past.Past.{Past}
use Rattle.firmware.specs.declared.judging.VerdictResult.{VerdictResult}
use Rattle.firmware.specs.declared.starting.StartResult.{StartResult}
use Rattle.firmware.specs.Past.{past_of}
use Rattle.firmware.specs.Judging.{verdict_result}
use Rattle.firmware.specs.Starting.{start_result, start_file}

-- a start's two parts
pub start_of_law : (t : Started) (v : VerdictResult) (p : Past) → v ≡ verdict_result (verdict_told t.verdict) → p ≡ past_of t.state → record { verdict = v; past = p } ≡ start_result t
start_of_law t v p ev ep = λ i. record { verdict = ev i; past = ep i }

-- a start of the set that was loaded is one of the file's
pub start_crosses : (file : List ℕ) (l : Loaded) → l ≡ load_of file → (room : ℕ) (t : Started) (x : StartResult) → t ≡ start_of l.set room → x ≡ start_result t → x ≡ start_file file room
unfolding start_file
start_crosses file l e room t x et q = q ∙ ap start_result et ∙ ap (λ (a : Loaded). start_result (start_of a.set room)) e
