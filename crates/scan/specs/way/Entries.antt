-- The code's way to safety alone, where no pass is made: an entry for each active constraint, simple or not, with the outputs that it names plain and with all
-- that it names. There are no holds and no outputs that yield.
-- Assumes nothing.
use Rattle.std.specs.Prelude.{ℕ, zero, suc, ◌+◌, min, cond, List, get_or, set, replicate}
use Rattle.std.specs.Int.Bits.{bit_or}
use Rattle.words.specs.Word.{bit}
use Rattle.scan.specs.declared.entries.Entries.{Entries}
use Rattle.scan.specs.Set.{most_constraints}
use Rattle.scan.specs.way.Table.{filled_up}

-- no entry yet: every place names no output and asks for one, and so is never true
abbrev pub no_entries : Entries
no_entries = record { count = 0; plain = replicate most_constraints 1; named = replicate most_constraints 0 }

-- an entry more, by the outputs named plain and those named negated
abbrev pub with_one : ℕ → ℕ → Entries → Entries
with_one plain negated e = record { count = e.count + 1; plain = set e.plain e.count plain; named = set e.named e.count (bit_or plain negated) }

-- the entries after the first i constraints, those of the mask having one, by the lists of the outputs named plain and negated
unfoldable pub entries_upto : List ℕ → List ℕ → ℕ → ℕ → Entries
entries_upto plain negated entered zero = no_entries
entries_upto plain negated entered (suc i) =
    let e = entries_upto plain negated entered i in
    cond (bit i entered) (with_one (get_or plain i 0) (get_or negated i 0) e) e

-- those of the first m constraints, filled up to a multiple of sixteen with such that are never true
unfoldable pub entries_by : List ℕ → List ℕ → ℕ → ℕ → Entries
entries_by plain negated m entered =
    let e = entries_upto plain negated entered (min m most_constraints) in
    record { count = filled_up e.count; plain = e.plain; named = e.named }
