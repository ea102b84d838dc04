-- What is said to C of the verdict.
-- Assumes nothing.
use Rattle.std.specs.Prelude.{ℕ, ◌%◌, cond, List, eqb, get_or}
use Rattle.verdict.specs.Judge.{judge_of}
use Rattle.verdict.specs.Told.{verdict_told}
use Rattle.firmware.specs.declared.judging.VerdictResult.{VerdictResult}
use Rattle.firmware.specs.Past.{set_in}

-- the value behind a verdict's word, if it is this number's; else 0
abbrev pub value_if : ℕ → List ℕ → ℕ
value_if number told = cond (eqb (get_or told 0 0) number) (get_or told 2 0) 0

-- by what the verdict tells: the refusal and its word; 58 has an output behind it, which is below 256, and 23 a request
abbrev pub verdict_result : List ℕ → VerdictResult
verdict_result told = record { number = get_or told 0 0; output = value_if 58 told % 256; request = value_if 23 told; word = get_or told 1 0 }

-- what `rsf_judge` answers, with scratch of `room` bytes; 20 where the file does not load
unfoldable pub judge_file : List ℕ → ℕ → VerdictResult
judge_file file room = verdict_result (verdict_told (judge_of (set_in file) room))
