-- The code's way with literals: what is said at a place of a body, and the literals taken so far as the bits of one word, apart from their ranks.
-- Assumes nothing.
use Rattle.std.specs.Prelude.{ℕ, ◌+◌, ◌%◌, ◌/◌, ◌^◌, Bool, cond, List, Result, Ok, Err, leb, length, get_or}
use Rattle.scan.specs.declared.set.Constraint.{Constraint}
use Rattle.scan.specs.Set.{most_reads, most_outputs}
use Rattle.literal.specs.declared.literal.Said.{Said}
use Rattle.header.specs.Tag.{literal_size}
use Rattle.header.specs.declared.numbers.Fault.{Fault}
use Rattle.header.specs.Fault.{number}
use Rattle.literal.specs.Literal.{narrow, wide, torn, with_bit, Literals, refused_literals, good_literals}

-- the literal that begins at place i of a body, wide or not
abbrev pub literal_at : Bool → List ℕ → ℕ → Said
literal_at is_wide body i =
    cond is_wide (wide (get_or body i 0) (get_or body (i + 1) 0) (get_or body (i + 2) 0)) (narrow (get_or body i 0) (get_or body (i + 1) 0))

-- that literal where the body goes so far, else what is torn
abbrev pub said_at : Bool → List ℕ → ℕ → Said
said_at is_wide body i = cond (leb (i + literal_size is_wide) (length body)) (literal_at is_wide body i) torn

-- the bits of a word for the literals of one sign: no fewer than the places of literals
abbrev pub sign_bits : ℕ
sign_bits = 32

-- the bit of a literal of this sign and place: the plain ones by place, then the negated ones by place
abbrev pub bit_at : Bool → ℕ → ℕ
bit_at negated at = cond negated (sign_bits + at) at

-- the word with a literal more
abbrev pub in_word : ℕ → Bool → ℕ → ℕ
in_word w negated at = with_bit w (bit_at negated at)

-- `long` bits of a word from bit `from` on
abbrev pub part : ℕ → ℕ → ℕ → ℕ
part from long w = w / 2 ^ from % 2 ^ long

-- the constraint of a word and ranks
abbrev pub of_word : ℕ → List ℕ → Constraint
of_word w ranks = record {
  read_plain = part 0 most_reads w;
  read_negated = part sign_bits most_reads w;
  out_plain = part most_reads most_outputs w;
  out_negated = part (sign_bits + most_reads) most_outputs w;
  ranks = ranks;
}

-- what the code's answer on a body says: a fault is told by its number
abbrev pub literals_told : Result Constraint Fault → Literals
literals_told (Ok c) = good_literals c
literals_told (Err fault) = refused_literals (number fault)
