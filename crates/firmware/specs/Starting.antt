-- What is said to C of the start.
-- Assumes nothing.
use Rattle.std.specs.Prelude.{ℕ, List}
use Rattle.verdict.specs.Told.{verdict_told}
use Rattle.start.specs.declared.starting.Started.{Started}
use Rattle.start.specs.Start.{start_of}
use Rattle.firmware.specs.declared.starting.StartResult.{StartResult}
use Rattle.firmware.specs.Past.{set_in, past_of}
use Rattle.firmware.specs.Judging.{verdict_result}

-- the verdict, and the past of the state
abbrev pub start_result : Started → StartResult
start_result t = record { verdict = verdict_result (verdict_told t.verdict); past = past_of t.state }

-- what `rsf_start` answers
unfoldable pub start_file : List ℕ → ℕ → StartResult
start_file file room = start_result (start_of (set_in file) room)
