-- What the verdict program prints of the bytes that it read, told from these bytes: a word, numbers in decimal with one space before each, and LF.
-- Of the definitions that the code meets only the line's bytes stand here (`line_of`, `line_bytes`), and how they are put into a buffer (`line_answer`, `buffer_after`).
-- Assumes nothing.
use Rattle.std.specs.Prelude.{◌≡◌, List, [], ◌∷◌, ◌++◌, ◌≢◌, ◌⊎◌, ℕ, ◌^◌, ◌≤◌, ◌<◌, length, get_or, drop}
use Rattle.decimal.specs.Digits.{said}
use Rattle.header.specs.Bytes.{Bytes}
use Rattle.loader.specs.Load.{load_of}
use Rattle.loader.specs.Told.{load_told}
use Rattle.verdict.specs.Judge.{judge_of}
use Rattle.verdict.specs.Told.{verdict_told}
use Rattle.line.specs.Line.{line_bytes, line_answer, buffer_after, line_of}

-- ---- a line

-- bytes are a number in decimal: ASCII digits that say it, and no zero before others. Every number of 64 bits is below 10 ^ 20
pub record IsDecimal (n : ℕ) (bytes : List ℕ) : Type 0 where
  pub says : n < 10 ^ 20 → said bytes ≡ n
  pub digits : (k : ℕ) → k < length bytes → (0x30 ≤ get_or bytes k 0) × (get_or bytes k 0 ≤ 0x39)
  pub some : 1 ≤ length bytes
  pub shortest : n < 10 ^ 20 → 2 ≤ length bytes → get_or bytes 0 0 ≢ 0x30

-- the numbers in decimal, one space before each, and LF
abbrev pub NumbersThenEnd : List ℕ → List ℕ → Type 0
NumbersThenEnd [] bytes = bytes ≡ 0x0A ∷ []
NumbersThenEnd (n ∷ numbers) bytes = (digits : List ℕ) × (rest : List ℕ) × (bytes ≡ 0x20 ∷ (digits ++ rest)) × IsDecimal n digits × NumbersThenEnd numbers rest

-- the word, and the numbers behind it
abbrev pub IsLine : List ℕ → List ℕ → List ℕ → Type 0
IsLine word numbers bytes = (rest : List ℕ) × (bytes ≡ word ++ rest) × NumbersThenEnd numbers rest

-- ---- document 01's words, and change request K10's

-- ACCEPT
abbrev pub accept_word : List ℕ
accept_word = 0x41 ∷ 0x43 ∷ 0x43 ∷ 0x45 ∷ 0x50 ∷ 0x54 ∷ []

-- LOAD
abbrev pub load_word : List ℕ
load_word = 0x4C ∷ 0x4F ∷ 0x41 ∷ 0x44 ∷ []

-- NOVECTOR
abbrev pub no_vector_word : List ℕ
no_vector_word = 0x4E ∷ 0x4F ∷ 0x56 ∷ 0x45 ∷ 0x43 ∷ 0x54 ∷ 0x4F ∷ 0x52 ∷ []

-- CLASH
abbrev pub clash_word : List ℕ
clash_word = 0x43 ∷ 0x4C ∷ 0x41 ∷ 0x53 ∷ 0x48 ∷ []

-- NOEND
abbrev pub no_end_word : List ℕ
no_end_word = 0x4E ∷ 0x4F ∷ 0x45 ∷ 0x4E ∷ 0x44 ∷ []

-- ---- the program

-- the scratch that the program lends to the verdict
abbrev pub program_scratch : ℕ
program_scratch = 512

-- what is printed of what was read
abbrev pub printed_of : List ℕ → List ℕ
printed_of file = line_bytes (line_of file program_scratch)

-- the verdict's number and values, on the set of what was read
abbrev pub verdict_on : List ℕ → List ℕ
verdict_on file = verdict_told (judge_of (load_of file).set program_scratch)

-- What the verdict program prints of the bytes that it read.
pub record LineSays (file : List ℕ) : Type 0 where
  -- a file that is refused: `LOAD`, the refusal's number, and the offset
  pub refused : (c o : ℕ) → load_told (load_of file).answer ≡ c ∷ o ∷ [] → IsLine load_word (c ∷ o ∷ []) (printed_of file)
  -- a set that is accepted: `ACCEPT`, and its counts
  pub accepted : load_told (load_of file).answer ≡ 0 ∷ [] → verdict_on file ≡ 0 ∷ []
      → IsLine accept_word ((load_of file).set.r ∷ (load_of file).set.n ∷ (load_of file).set.m ∷ []) (printed_of file)
  -- a set that is rejected: `NOVECTOR` and the word, `CLASH`, the word and the output, or `NOEND`, the word and the request
  pub no_vector : (w : ℕ) → load_told (load_of file).answer ≡ 0 ∷ [] → verdict_on file ≡ 22 ∷ w ∷ [] → IsLine no_vector_word (w ∷ []) (printed_of file)
  pub clash : (w k : ℕ) → load_told (load_of file).answer ≡ 0 ∷ [] → verdict_on file ≡ 58 ∷ w ∷ k ∷ [] → IsLine clash_word (w ∷ k ∷ []) (printed_of file)
  pub no_end : (w g : ℕ) → load_told (load_of file).answer ≡ 0 ∷ [] → verdict_on file ≡ 23 ∷ w ∷ g ∷ [] → IsLine no_end_word (w ∷ g ∷ []) (printed_of file)
  -- nothing else comes: a file of bytes that loads is accepted, or rejected with 22, 58 or 23
  pub one : Bytes file → load_told (load_of file).answer ≡ 0 ∷ []
      → (verdict_on file ≡ 0 ∷ []) ⊎ ((w : ℕ) × (verdict_on file ≡ 22 ∷ w ∷ [])) ⊎ ((w : ℕ) × (k : ℕ) × (verdict_on file ≡ 58 ∷ w ∷ k ∷ []))
      ⊎ ((w : ℕ) × (g : ℕ) × (verdict_on file ≡ 23 ∷ w ∷ g ∷ []))
  -- 80 bytes are enough for the line: it stands at their front, and its length is told
  pub whole : (buf : List ℕ) → 80 ≤ length buf
      → (line_answer (line_of file program_scratch) (length buf) ≡ length (printed_of file))
      × (buffer_after (line_of file program_scratch) buf ≡ printed_of file ++ drop (length (printed_of file)) buf)
