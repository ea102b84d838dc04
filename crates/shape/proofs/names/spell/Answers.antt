-- `shape::names::spell` meets its contract. Assumes nothing.
use mathlib.Core.Path.{sym, ap, ◌∙◌}
use Rattle.std.specs.Prelude.{Some}
use Prim.Native.Nat.{◌≤◌}
use lib.ListN.{length}
use Rattle.scan.specs.Set.{name_places}
use Rattle.shape.proofs.SpellingLaws.{length_right, spell_length, spell_strange, spell_name}
use Rattle.shape.proofs.names.spell.Goals as goal
use Rattle.shape.proofs.names.spell.Goals.{Then-is_length_ok, else-is_length_ok-via-then-is_length_ok+else-are_name_bytes, else-is_length_ok-via-else-is_length_ok}

-- where the length is right
fit : (c : Then-is_length_ok) → let n = length c.args.bytes.now in (1 ≤ n) × (n ≤ name_places)
fit c = length_right c.args.bytes.now (sym c.is_length_ok.ensures ∙ c.if-is_length_ok.true)

pub pad-requires : goal.pad-requires
pad-requires c = (fit (goal.at.pad-requires c).Then-is_length_ok).1

pub returns-then-are_name_bytes : goal.returns-then-are_name_bytes
returns-then-are_name_bytes c =
    let t = (goal.at.returns-then-are_name_bytes c).Then-is_length_ok in
    ap Some c.pad.ensures ∙ spell_name t.args.bytes.now (fit t).0 (fit t).1 (sym c.are_name_bytes.ensures ∙ c.if-are_name_bytes.true)

pub returns : goal.returns
returns c =
    elim c.else-is_length_ok.branch [
      | else-is_length_ok-via-then-is_length_ok+else-are_name_bytes w ↦ spell_strange c.args.bytes.now (sym w.are_name_bytes.ensures ∙ w.if-are_name_bytes.false)
      | else-is_length_ok-via-else-is_length_ok w ↦ spell_length c.args.bytes.now (sym c.is_length_ok.ensures ∙ w.if-is_length_ok.false)
    ]
