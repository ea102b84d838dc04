-- The code's way to the safety of eight vectors at once, 8 b to 8 b + 7, which differ in outputs 0 to 2 alone: they are bits 0 to 7 of a byte. An entry is true
-- where its literals of these three outputs are, and its others are; so are outputs held.
-- Assumes nothing.
use Rattle.std.specs.Prelude.{ℕ, ◌/◌, ◌%◌, min, cond, List, eqb, get_or}
use Rattle.std.specs.Int.Bits.{bit_and}
use Rattle.words.specs.Word.{without, meets}
use Rattle.words.specs.Loop.{word}
use Rattle.scan.specs.declared.holds.Holds.{Holds}
use Rattle.scan.specs.declared.holds.Holds.TheVariants.{Forced, Clash}
use Rattle.scan.specs.declared.table.Table.{Table}
use Rattle.scan.specs.declared.eight.Eight.{Eight}
use Rattle.scan.specs.Set.{most_constraints}
use Rattle.scan.specs.way.Columns.{places_upto}
use Rattle.scan.specs.way.Table.{flips_over}

-- of the eight vectors, bit j being the one whose outputs 0 to 2 are j, those at which the literals of these outputs are true
unfoldable pub low_true : ℕ → ℕ → ℕ
low_true plain named = word 8 (λ j. eqb (bit_and j (named % 8)) (plain % 8))

-- those at which each held one of outputs 0 to 2 is as it is held
unfoldable pub low_held : ℕ → ℕ → ℕ
low_held f0 f1 = bit_and (low_true f1 f1) (low_true 0 f0)

-- the outputs from 3 on at place i
abbrev pub high_part : List ℕ → ℕ → ℕ
high_part outs i = get_or outs i 0 / 8

-- the byte of the literals of outputs 0 to 2 at place i
abbrev pub low_part : List ℕ → List ℕ → ℕ → ℕ
low_part plain named i = low_true (get_or plain i 0) (get_or named i 0)

-- of the first `count` entries the outputs from 3 on that are named plain, and all of these that are named; and the bytes of the others
unfoldable pub eight_of : List ℕ → List ℕ → ℕ → Eight
eight_of plain named count = record {
  high = record {
    count = count;
    plain = places_upto (high_part plain) (min count most_constraints);
    named = places_upto (high_part named) (min count most_constraints);
  };
  low = places_upto (low_part plain named) (min count most_constraints);
}

-- of the vectors 8 b to 8 b + 7 those that are safe: where the outputs from 3 on are as they are held, those of `held` at which no entry is true
unfoldable pub safe_byte : ℕ → ℕ → ℕ → List ℕ → List ℕ → List ℕ → ℕ → ℕ → ℕ
safe_byte held f0 f1 plain named low count b =
    let safe = without held (flips_over plain named low count b) in
    cond (meets (f1 / 8) (f0 / 8) b) safe 0

-- by these holds: none at a clash
abbrev pub safe_byte_held : Holds → List ℕ → List ℕ → ℕ → ℕ → ℕ
safe_byte_held (Forced f0 f1) plain named count b =
    let e = eight_of plain named count in
    safe_byte (low_held f0 f1) f0 f1 e.high.plain e.high.named e.low count b
safe_byte_held (Clash k) plain named count b = 0

-- of a table's entries and holds
unfoldable pub safe_byte_in : Table → ℕ → ℕ
safe_byte_in t b = safe_byte_held t.holds t.entries.plain t.entries.named t.entries.count b
