-- `firmware::past::past_of` meets its contract. Assumes nothing.
use mathlib.Core.Path.{◌≡◌, refl}
use mathlib.Core.Bool.{Bool, true, false, cond}
use Prim.Native.Nat.{ℕ}
use mir.Val.{bool_byte}
use Rattle.scan.specs.declared.set.State.{State}
use Rattle.firmware.specs.Past.{past_of}
use Rattle.firmware.proofs.past.past_of.Goals as goal

-- a Bool as a byte
as_byte : (b : Bool) → bool_byte b ≡ cond {A = ℕ} b 1 0
as_byte true = refl
as_byte false = refl

-- a past's parts, one by one
past_by : (st : State) (output accepted sensor : ℕ) → output ≡ st.past_output → accepted ≡ cond st.accepted 1 0 → sensor ≡ st.past_sensor
    → record { output = output; accepted = accepted; sensor = sensor } ≡ past_of st
past_by st output accepted sensor eo ea es = λ i. record { output = eo i; accepted = ea i; sensor = es i }

pub returns : goal.returns
returns c =
    let st = c.args.st in
    past_by st _ _ _ refl (as_byte st.accepted) refl
