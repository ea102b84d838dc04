-- `firmware::preparing::rsf_scan_prepared` meets its contract. Assumes nothing.
use Rattle.firmware.proofs.PreparingLaws.{prepared_crosses}
use Rattle.firmware.proofs.preparing.rsf_scan_prepared.Goals as goal

pub returns : goal.returns
returns c =
    let t = c in
    let st = t in
    let s = st in
    prepared_crosses _ _ _ _ _ _ _ _ s.set_said.ensures st.with_past.ensures t.scan.ensures c.scanned_result.ensures
