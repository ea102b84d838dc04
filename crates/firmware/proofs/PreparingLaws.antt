-- The laws of specs/Preparing: what is put together step by step is what the definitions say.
-- Assumes nothing.
use mathlib.Core.Path.{◌≡◌, ap, ◌∙◌}
use mathlib.Core.List.{List}
use Prim.Native.Nat.{ℕ}
use Rattle.scan.specs.declared.set.Set.{Set}
use Rattle.scan.specs.declared.set.State.{State}
use Rattle.loader.specs.declared.loader.Loaded.{Loaded}
use Rattle.loader.specs.Load.{load_of}
use Rattle.machine.specs.declared.machine.Scanned.{Scanned}
use Rattle.machine.specs.Machine.{scan_of}
use Rattle.prepared.specs.Put.{bytes_of}
use Rattle.prepared.specs.Said.{set_said}
use Rattle.firmware.specs.declared.past.Past.{Past}
use Rattle.firmware.specs.declared.scanning.ScanResult.{ScanResult}
use Rattle.firmware.specs.Past.{set_in, with_past}
use Rattle.firmware.specs.Scanning.{scanned_result}
use Rattle.firmware.specs.Preparing.{scan_prepared}

-- the bytes of the set that was loaded are those of the file's
pub prepare_crosses : (file : List ℕ) (l : Loaded) → l ≡ load_of file → (after : List ℕ) → after ≡ bytes_of l.set → after ≡ bytes_of (set_in file)
prepare_crosses file l e after q = q ∙ ap (λ (a : Loaded). bytes_of a.set) e

-- a scan of the set that the bytes say
pub prepared_crosses : (bytes : List ℕ) (p : Past) (sensor request : ℕ) (s : Set) (st : State) (t : Scanned) (x : ScanResult)
    → s ≡ set_said bytes → st ≡ with_past s p → t ≡ scan_of st sensor request → x ≡ scanned_result t → x ≡ scan_prepared bytes p sensor request
unfolding scan_prepared
prepared_crosses bytes p sensor request s st t x es est et q =
    q ∙ ap scanned_result et ∙ ap (λ (a : State). scanned_result (scan_of a sensor request)) est
    ∙ ap (λ (a : Set). scanned_result (scan_of (with_past a p) sensor request)) es
