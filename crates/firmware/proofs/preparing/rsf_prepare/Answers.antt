-- `firmware::preparing::rsf_prepare` meets its contract. Assumes nothing.
use Rattle.firmware.proofs.LoadingLaws.{load_crosses}
use Rattle.firmware.proofs.PreparingLaws.{prepare_crosses}
use Rattle.firmware.proofs.preparing.rsf_prepare.Goals as goal

pub returns : goal.returns
returns c =
    let p = c in
    let l = p in
    record { value = load_crosses _ _ l.load-loaded.ensures _ c.load_result.ensures; prepared_after = prepare_crosses _ _ l.load-loaded.ensures _ p.put_set.ensures }
