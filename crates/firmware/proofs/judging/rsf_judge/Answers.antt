-- `firmware::judging::rsf_judge` meets its contract. Assumes nothing.
use Rattle.firmware.proofs.JudgingLaws.{judge_crosses, scratch_crosses}
use Rattle.firmware.proofs.judging.rsf_judge.Goals as goal

pub returns : goal.returns
returns c =
    let j = c in
    let l = j in
    record { value = judge_crosses _ _ l.load-loaded.ensures _ _ _ j.judge.ensures.value c.verdict_result.ensures; scratch_unchanged = scratch_crosses _ _ l.load-loaded.ensures _ _ _ j.judge.ensures.scratch_unchanged }
