-- `firmware::loading::rsf_load` meets its contract. Assumes nothing.
use Rattle.firmware.proofs.LoadingLaws.{load_crosses}
use Rattle.firmware.proofs.loading.rsf_load.Goals as goal

pub returns : goal.returns
returns c = load_crosses _ _ c.load-loaded.ensures _ c.load_result.ensures
