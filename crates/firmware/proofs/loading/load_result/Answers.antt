-- `firmware::loading::load_result` meets its contract. Assumes nothing.
use mathlib.Core.Path.{refl}
use Rattle.firmware.proofs.LoadingLaws.{load_of_law}
use Rattle.firmware.proofs.loading.load_result.Goals as goal

pub returns-in-Loaded : goal.returns-in-Loaded
returns-in-Loaded c =
    let k = c in
    let a = k.args in
    load_of_law a.answer _ a.set _ _ _ _ k.number_of-number.ensures refl refl refl c.in-Loaded.is

pub returns-in-Refused : goal.returns-in-Refused
returns-in-Refused c =
    let k = c in
    let a = k.args in
    load_of_law a.answer _ a.set _ _ _ _ k.number_of-number.ensures refl refl refl c.in-Refused.is
