-- Literals. A body says them in two bytes each: in the first, bit 7 marks a negated literal, bit 6 an output, bits 5 and 4 are zero, and the low four
-- bits are the point's number; the second is the rank. A wide body, of tag 0x07, says them in three: bits 7 and 6 as before and the others zero; the
-- number; the rank. What is said is then taken, whatever bytes it came from: tests 9 and 10 of each literal, front to back, then 59 and 11.
-- Assumes nothing.
use Rattle.std.specs.Prelude.{ℕ, ◌+◌, ◌%◌, ◌/◌, ◌^◌, Bool, true, false, cond, not, ◌&&◌, List, [], ◌∷◌, ltb, leb, eqb, set}
use Rattle.std.specs.Int.Bits.{bit_or}
use Rattle.scan.specs.declared.set.Constraint.{Constraint}
use Rattle.scan.specs.Set.{most_reads, zero_constraint}
use Rattle.header.specs.Tag.{names_high}
use Rattle.literal.specs.declared.literal.Said.{Said}
use Rattle.header.specs.Fault.{Taken, Refused, Good}

-- ---- what bytes say

-- bit 7
abbrev pub is_negated : ℕ → Bool
is_negated first = eqb (first / 2 ^ 7) 1

-- bit 6
abbrev pub is_output : ℕ → Bool
is_output first = eqb (first / 2 ^ 6 % 2) 1

-- bits 5 and 4
abbrev pub spare : ℕ → ℕ
spare first = first / 2 ^ 4 % 4

-- the low four bits
abbrev pub four_bits : ℕ → ℕ
four_bits first = first % 16

-- the literal of two bytes
abbrev pub narrow : ℕ → ℕ → Said
narrow first rank = record { clear = eqb (spare first) 0; out = is_output first; negated = is_negated first; number = four_bits first; rank = rank }

-- the low six bits
abbrev pub six_bits : ℕ → ℕ
six_bits first = first % 2 ^ 6

-- the literal of three bytes
abbrev pub wide : ℕ → ℕ → ℕ → Said
wide first number rank = record { clear = eqb (six_bits first) 0; out = is_output first; negated = is_negated first; number = number; rank = rank }

-- the rest of a body that is too short for a literal: it is none. A body of a loaded field has whole literals, so that it does not come
abbrev pub torn : Said
torn = record { clear = false; out = false; negated = false; number = 0; rank = 0 }

-- the literals of a body, two bytes each
unfoldable pub narrows : List ℕ → List Said
narrows [] = []
narrows (first ∷ []) = torn ∷ []
narrows (first ∷ rank ∷ rest) = narrow first rank ∷ narrows rest

-- the literals of a wide body, three bytes each
unfoldable pub wides : List ℕ → List Said
wides [] = []
wides (first ∷ []) = torn ∷ []
wides (first ∷ number ∷ []) = torn ∷ []
wides (first ∷ number ∷ rank ∷ rest) = wide first number rank ∷ wides rest

-- those of a body, wide or not
abbrev pub said_by : Bool → List ℕ → List Said
said_by is_wide body = cond is_wide (wides body) (narrows body)

-- ---- what is said, taken

-- a literal's place in the order: read points by number, then outputs by number, signs ignored
abbrev pub place : Said → ℕ
place l = cond l.out (most_reads + l.number) l.number

-- not 9: the bits zero that have to be, the number of one of r read points or n outputs, no rank on a read point
abbrev pub is_literal : Said → ℕ → ℕ → Bool
is_literal l r n = l.clear && cond l.out (ltb l.number n) (eqb l.rank 0 && ltb l.number r)

-- a mask with bit k set
abbrev pub with_bit : ℕ → ℕ → ℕ
with_bit mask k = bit_or mask (2 ^ k)

-- a constraint with a literal more
unfoldable pub with_literal : Constraint → Said → Constraint
with_literal c l =
    cond l.out
    (cond l.negated
    (record { read_plain = c.read_plain; read_negated = c.read_negated; out_plain = c.out_plain; out_negated = with_bit c.out_negated l.number; ranks = set c.ranks l.number l.rank })
    (record { read_plain = c.read_plain; read_negated = c.read_negated; out_plain = with_bit c.out_plain l.number; out_negated = c.out_negated; ranks = set c.ranks l.number l.rank }))
    (cond l.negated
    (record { read_plain = c.read_plain; read_negated = with_bit c.read_negated l.number; out_plain = c.out_plain; out_negated = c.out_negated; ranks = c.ranks })
    (record { read_plain = with_bit c.read_plain l.number; read_negated = c.read_negated; out_plain = c.out_plain; out_negated = c.out_negated; ranks = c.ranks }))

-- what the literals of a body give: whether they are taken, and the constraint made of them
pub record Literals : Type 0 where
  pub taken : Taken
  pub made : Constraint

-- a refusal, beside a constraint of zeros
abbrev pub refused_literals : ℕ → Literals
refused_literals number = record { taken = Refused number; made = zero_constraint }

-- the constraint made of literals that were all taken
abbrev pub good_literals : Constraint → Literals
good_literals c = record { taken = Good; made = c }

-- after the last literal: 59 where the body is wide and no read point above 15 was named; then 11 where no output literal was taken: an output's
-- place is most_reads or more, so that the next one's is above it
abbrev pub last_literal : Bool → ℕ → Constraint → Literals
last_literal is_wide next c =
    cond (is_wide && not (names_high c)) (refused_literals 59)
    (cond (leb next most_reads) (refused_literals 11) (good_literals c))

-- 9, else 10, else what the other literals give
abbrev pub literal_then : Bool → Bool → Literals → Literals
literal_then false rises rest = refused_literals 9
literal_then true false rest = refused_literals 10
literal_then true true rest = rest

-- literals added to a constraint; the next one's place must be at least `next`
unfoldable pub literals_from : Bool → ℕ → ℕ → ℕ → Constraint → List Said → Literals
literals_from is_wide r n next c [] = last_literal is_wide next c
literals_from is_wide r n next c (l ∷ rest) =
    let others = literals_from is_wide r n (place l + 1) (with_literal c l) rest in
    literal_then (is_literal l r n) (leb next (place l)) others

-- the constraint of a body, wide or not, for a set of r read points and n outputs
abbrev pub literals_of : Bool → ℕ → ℕ → List ℕ → Literals
literals_of is_wide r n body = literals_from is_wide r n 0 zero_constraint (said_by is_wide body)
