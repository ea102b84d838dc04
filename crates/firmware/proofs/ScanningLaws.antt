-- The laws of specs/Scanning: what is put together step by step is what the definitions say.
-- Assumes nothing.
use mathlib.Core.Path.{◌≡◌, refl, sym, ap, ◌∙◌}
use mathlib.Core.List.{List}
use Prim.Native.Nat.{ℕ}
use lib.ListN.{get_or}
use Rattle.scan.specs.declared.set.State.{State}
use Rattle.loader.specs.declared.loader.Loaded.{Loaded}
use Rattle.loader.specs.Load.{load_of}
use Rattle.machine.specs.declared.machine.ScanAnswer.{ScanAnswer}
use Rattle.machine.specs.declared.machine.ScanAnswer.TheVariants.{Sent, BadState, BadSensor, BadRequest, Unsafe}
use Rattle.machine.specs.declared.machine.Scanned.{Scanned}
use Rattle.machine.specs.Machine.{scan_of}
use Rattle.machine.specs.Told.{scan_told}
use Rattle.firmware.specs.declared.past.Past.{Past}
use Rattle.firmware.specs.declared.scanning.ScanResult.{ScanResult}
use Rattle.firmware.specs.Past.{with_past}
use Rattle.firmware.specs.Scanning.{scan_result, scanned_result, scan_file}

-- an answer's number, with the values of the answer that it is
pub scan_of_law : (a b : ScanAnswer) (p : Past) (number : ℕ) → number ≡ get_or (scan_told a) 0 0 → a ≡ b
    → record { number = number; vector = (scan_result (scan_told b) p).vector; passes = (scan_result (scan_told b) p).passes; past = p } ≡ scan_result (scan_told a) p
scan_of_law a b p number e h =
    λ i. record { number = e i; vector = (scan_result (scan_told (sym h i)) p).vector; passes = (scan_result (scan_told (sym h i)) p).passes; past = p }

-- a refusal has no values
pub scan_bare : (a : ScanAnswer) (p : Past) (number : ℕ) → number ≡ get_or (scan_told a) 0 0 → ((v made : ℕ) → a ≡ Sent v made → ⊥)
    → record { number = number; vector = 0; passes = 0; past = p } ≡ scan_result (scan_told a) p
scan_bare (Sent v made) p number e h = absurd (h v made refl)
scan_bare BadState p number e h = scan_of_law BadState BadState p number e refl
scan_bare BadSensor p number e h = scan_of_law BadSensor BadSensor p number e refl
scan_bare BadRequest p number e h = scan_of_law BadRequest BadRequest p number e refl
scan_bare Unsafe p number e h = scan_of_law Unsafe Unsafe p number e refl

-- a scan of the set that was loaded is one of the file's
pub scan_crosses : (file : List ℕ) (l : Loaded) → l ≡ load_of file → (p : Past) (sensor request : ℕ) (st : State) (t : Scanned) (x : ScanResult)
    → st ≡ with_past l.set p → t ≡ scan_of st sensor request → x ≡ scanned_result t → x ≡ scan_file file p sensor request
unfolding scan_file
scan_crosses file l e p sensor request st t x est et q =
    q ∙ ap scanned_result et ∙ ap (λ (a : State). scanned_result (scan_of a sensor request)) est
    ∙ ap (λ (a : Loaded). scanned_result (scan_of (with_past a.set p) sensor request)) e
