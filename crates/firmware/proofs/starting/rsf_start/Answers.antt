-- `firmware::starting::rsf_start` meets its contract. Assumes nothing.
use Rattle.firmware.proofs.JudgingLaws.{scratch_crosses}
use Rattle.firmware.proofs.StartingLaws.{start_crosses}
use Rattle.firmware.proofs.starting.rsf_start.Goals as goal

pub returns : goal.returns
returns c =
    let j = c in
    let l = j in
    record { value = start_crosses _ _ l.load-loaded.ensures _ _ _ j.start.ensures.value c.start_result.ensures; scratch_unchanged = scratch_crosses _ _ l.load-loaded.ensures _ _ _ j.start.ensures.scratch_unchanged }
