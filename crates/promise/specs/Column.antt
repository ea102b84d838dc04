-- Loading as one column of tests, document 01's "What each operation turns down": every test that a file meets, front to back, in each field the
-- lower number first, with the offset that its refusal gives. It is told over the fields of the file, with the kinds and the names so far, and
-- shares no definition with the loader. What stands behind a test that fails does not matter.
-- Assumes nothing.
use Rattle.std.specs.Prelude.{ℕ, zero, suc, ◌+◌, ◌*◌, ◌/◌, ◌%◌, ◌^◌, Bool, true, false, cond, not, ◌&&◌, ◌||◌, List, [], ◌∷◌, ◌++◌, ltb, leb, eqb, length, get_or, drop}
use Rattle.header.specs.Test.{Test, test}
use Rattle.promise.specs.Fields.{Fields, in_fields}
use Rattle.promise.specs.Fields.Fields.{ends, cut, field}

-- ---- one field

-- no whole field stands where one is due
abbrev pub missing : ℕ → List Test
missing at = test 1 at true ∷ []

-- from `low` to `high`
abbrev pub within : ℕ → ℕ → ℕ → Bool
within low high x = leb low x && leb x high

-- a tag's shortest and longest body; literals have two bytes each in 0x04 and three in 0x07
unfoldable pub length_fits : ℕ → ℕ → Bool
length_fits tag len =
    (eqb tag 0x01 && eqb len 2)
    || ((eqb tag 0x02 && within 3 10 len)
    || ((eqb tag 0x03 && within 1 8 len)
    || ((eqb tag 0x04 && (within 2 48 len && eqb (len % 2) 0))
    || ((eqb tag 0x05 && eqb len 0)
    || ((eqb tag 0x06 && eqb len 2)
    || (eqb tag 0x07 && (within 3 72 len && eqb (len % 3) 0)))))))

-- 1 header or body runs past the end; 2 tag not due; 3 a 65th constraint; 4 length not in the table
unfoldable pub head_tests : ℕ → Bool → Bool → ℕ → List ℕ → List Test
head_tests at due full tag body =
    test 1 at false ∷ test 2 at (not due) ∷ test 3 at full ∷ test 4 at (not (length_fits tag (length body))) ∷ []

-- r at most 20, n 1 to 12, r + n at most 24
unfoldable pub counts_fit : ℕ → ℕ → Bool
counts_fit r n = leb r 20 && (within 1 12 n && leb (r + n) 24)

-- kind 0 with index 0; kind 1 and the number of one of n outputs; kind 2 and the number of an earlier read point of kind 0
unfoldable pub kind_fits : ℕ → List ℕ → ℕ → ℕ → Bool
kind_fits n kinds kind index =
    (eqb kind 0 && eqb index 0)
    || ((eqb kind 1 && ltb index n) || (eqb kind 2 && (ltb index (length kinds) && eqb (get_or kinds index 0) 0)))

-- every byte is 0x21 to 0x7E
unfoldable pub good_bytes : List ℕ → Bool
good_bytes [] = true
good_bytes (b ∷ bytes) = within 0x21 0x7E b && good_bytes bytes

-- the same bytes, and as many
unfoldable pub same_bytes : List ℕ → List ℕ → Bool
same_bytes [] [] = true
same_bytes [] (y ∷ ys) = false
same_bytes (x ∷ xs) [] = false
same_bytes (x ∷ xs) (y ∷ ys) = eqb x y && same_bytes xs ys

-- one of the names has these bytes
unfoldable pub is_among : List (List ℕ) → List ℕ → Bool
is_among [] bytes = false
is_among (name ∷ names) bytes = same_bytes name bytes || is_among names bytes

-- 7 bad name byte; 8 name already used by any point
unfoldable pub name_tests : ℕ → List (List ℕ) → List ℕ → List Test
name_tests at names bytes = test 7 at (not (good_bytes bytes)) ∷ test 8 at (is_among names bytes) ∷ []

-- a read point's body: 6 bad kind or index, then its name
unfoldable pub read_tests : ℕ → ℕ → List ℕ → List (List ℕ) → List ℕ → List Test
read_tests at n kinds names body =
    test 6 at (not (kind_fits n kinds (get_or body 0 0) (get_or body 1 0))) ∷ name_tests at names (drop 2 body)

-- the two bytes of a rest word, the high one first, say a number that is not 0 and has bits at the n outputs only
unfoldable pub rest_fits : ℕ → List ℕ → Bool
rest_fits n body = let word = 256 * get_or body 0 0 + get_or body 1 0 in ltb 0 word && ltb word (2 ^ n)

-- a literal as its field's bytes give it: bits 7 and 6 and whether the bits are zero that have to be, the point's number, and the rank
pub record Given : Type 0 where
  pub first : ℕ
  pub clear : Bool
  pub number : ℕ
  pub rank : ℕ

-- the literals of 0x04: in the first byte bits 5 and 4 are zero and the low four bits are the number; the second is the rank
unfoldable pub in_twos : List ℕ → List Given
in_twos [] = []
in_twos (b ∷ []) = []
in_twos (b ∷ rank ∷ rest) = record { first = b; clear = eqb (b / 16 % 4) 0; number = b % 16; rank = rank } ∷ in_twos rest

-- the literals of 0x07: the first byte has no bit but 7 and 6; the second is the number, and the third the rank
unfoldable pub in_threes : List ℕ → List Given
in_threes [] = []
in_threes (b ∷ []) = []
in_threes (b ∷ number ∷ []) = []
in_threes (b ∷ number ∷ rank ∷ rest) = record { first = b; clear = eqb (b % 64) 0; number = number; rank = rank } ∷ in_threes rest

-- bit 6 of the first byte
abbrev pub is_output_literal : Given → Bool
is_output_literal l = eqb (l.first / 64 % 2) 1

-- the bits zero that have to be; an output's number below n; a read point's below r, and its rank 0
unfoldable pub literal_fits : ℕ → ℕ → Given → Bool
literal_fits r n l = l.clear && cond (is_output_literal l) (ltb l.number n) (ltb l.number r && eqb l.rank 0)

-- in the order of literals, signs ignored: read points by number, of which there are fewer than 64, then outputs by number
abbrev pub in_order : Given → ℕ
in_order l = 64 * (l.first / 64 % 2) + l.number

-- for each literal 9 (other bits set, number too large, rank on a read point), then 10 (not rising): it is below `next`, which is above the one before it
unfoldable pub literal_tests : ℕ → ℕ → ℕ → ℕ → List Given → List Test
literal_tests at r n next [] = []
literal_tests at r n next (l ∷ rest) =
    test 9 at (not (literal_fits r n l)) ∷ test 10 at (ltb (in_order l) next) ∷ literal_tests at r n (in_order l + 1) rest

-- one of the literals is an output's
unfoldable pub names_output : List Given → Bool
names_output [] = false
names_output (l ∷ rest) = is_output_literal l || names_output rest

-- one of the numbers is above 15
unfoldable pub number_above15 : List Given → Bool
number_above15 [] = false
number_above15 (l ∷ rest) = ltb 15 l.number || number_above15 rest

-- a constraint's body: its literals; in 0x07 then 59 no number above 15; then 11 no output literal
unfoldable pub body_tests : ℕ → ℕ → ℕ → ℕ → List ℕ → List Test
body_tests at r n tag body =
    let twos = literal_tests at r n 0 (in_twos body) ++ (test 11 at (not (names_output (in_twos body))) ∷ []) in
    let threes = literal_tests at r n 0 (in_threes body) ++ (test 59 at (not (number_above15 (in_threes body))) ∷ test 11 at (not (names_output (in_threes body))) ∷ []) in
    cond (eqb tag 0x07) threes twos

-- behind 0x05, 12: bytes follow, with the offset of the first
unfoldable pub end_tests : Fields → List Test
end_tests (ends at) = []
end_tests (cut at) = test 12 at true ∷ []
end_tests (field at tag body rest) = test 12 at true ∷ []

-- ---- field after field: one 0x01; r of 0x02; n of 0x03; at most one 0x06; m of 0x04 or 0x07; one 0x05; nothing after

-- behind m constraints: one more, or the end
unfoldable pub constraints_tests : ℕ → ℕ → ℕ → Fields → List Test
constraints_tests r n m (ends at) = missing at
constraints_tests r n m (cut at) = missing at
constraints_tests r n m (field at tag body rest) =
    let more = body_tests at r n tag body ++ constraints_tests r n (m + 1) rest in
    let one = eqb tag 0x04 || eqb tag 0x07 in
    head_tests at (one || eqb tag 0x05) (one && leb 64 m) tag body ++ cond (eqb tag 0x05) (end_tests rest) more

-- behind the outputs: the rest word, 54 where it is 0 or has bits outside n, if a field of its tag stands here; and then the constraints
unfoldable pub rest_tests : ℕ → ℕ → Fields → List Test
rest_tests r n (ends at) = missing at
rest_tests r n (cut at) = missing at
rest_tests r n (field at tag body rest) =
    let given = head_tests at true false tag body ++ (test 54 at (not (rest_fits n body)) ∷ constraints_tests r n 0 rest) in
    let none = constraints_tests r n 0 (field at tag body rest) in
    cond (eqb tag 0x06) given none

-- `left` outputs, behind points of these names, and then the rest word
unfoldable pub outputs_tests : ℕ → ℕ → ℕ → List (List ℕ) → Fields → List Test
outputs_tests zero r n names fields = rest_tests r n fields
outputs_tests (suc left) r n names (ends at) = missing at
outputs_tests (suc left) r n names (cut at) = missing at
outputs_tests (suc left) r n names (field at tag body rest) =
    head_tests at (eqb tag 0x03) false tag body ++ (name_tests at names body ++ outputs_tests left r n (names ++ (body ∷ [])) rest)

-- `left` read points, behind points of these kinds and names, and then the outputs
unfoldable pub reads_tests : ℕ → ℕ → ℕ → List ℕ → List (List ℕ) → Fields → List Test
reads_tests zero r n kinds names fields = outputs_tests n r n names fields
reads_tests (suc left) r n kinds names (ends at) = missing at
reads_tests (suc left) r n kinds names (cut at) = missing at
reads_tests (suc left) r n kinds names (field at tag body rest) =
    head_tests at (eqb tag 0x02) false tag body
    ++ (read_tests at n kinds names body ++ reads_tests left r n (kinds ++ (get_or body 0 0 ∷ [])) (names ++ (drop 2 body ∷ [])) rest)

-- the counts, 5 where they are out of range, and then the read points
unfoldable pub counts_tests : Fields → List Test
counts_tests (ends at) = missing at
counts_tests (cut at) = missing at
counts_tests (field at tag body rest) =
    head_tests at (eqb tag 0x01) false tag body
    ++ (test 5 at (not (counts_fit (get_or body 0 0) (get_or body 1 0))) ∷ reads_tests (get_or body 0 0) (get_or body 0 0) (get_or body 1 0) [] [] rest)

-- all tests of a file
unfoldable pub load_tests : List ℕ → List Test
load_tests file = counts_tests (in_fields file)
