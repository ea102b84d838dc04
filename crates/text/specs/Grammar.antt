-- The words of the text of a set that are no names and no numbers.
-- Assumes nothing.
use Rattle.std.specs.Prelude.{ℕ, List, [], ◌∷◌}

-- output
abbrev pub output_word : List ℕ
output_word = 0x6F ∷ 0x75 ∷ 0x74 ∷ 0x70 ∷ 0x75 ∷ 0x74 ∷ []

-- sensor
abbrev pub sensor_word : List ℕ
sensor_word = 0x73 ∷ 0x65 ∷ 0x6E ∷ 0x73 ∷ 0x6F ∷ 0x72 ∷ []

-- past
abbrev pub past_word : List ℕ
past_word = 0x70 ∷ 0x61 ∷ 0x73 ∷ 0x74 ∷ []

-- of
abbrev pub of_word : List ℕ
of_word = 0x6F ∷ 0x66 ∷ []

-- rest
abbrev pub rest_word : List ℕ
rest_word = 0x72 ∷ 0x65 ∷ 0x73 ∷ 0x74 ∷ []

-- never
abbrev pub never_word : List ℕ
never_word = 0x6E ∷ 0x65 ∷ 0x76 ∷ 0x65 ∷ 0x72 ∷ []

-- and
abbrev pub and_word : List ℕ
and_word = 0x61 ∷ 0x6E ∷ 0x64 ∷ []

-- on
abbrev pub on_word : List ℕ
on_word = 0x6F ∷ 0x6E ∷ []

-- off
abbrev pub off_word : List ℕ
off_word = 0x6F ∷ 0x66 ∷ 0x66 ∷ []

-- rank
abbrev pub rank_word : List ℕ
rank_word = 0x72 ∷ 0x61 ∷ 0x6E ∷ 0x6B ∷ []

-- end
abbrev pub end_word : List ℕ
end_word = 0x65 ∷ 0x6E ∷ 0x64 ∷ []
