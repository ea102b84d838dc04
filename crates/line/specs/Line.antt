-- The verdict program's line: its bytes, and the line of a file.
-- Assumes nothing.
use Rattle.std.specs.Prelude.{ℕ, cond, List, [], ◌∷◌, ◌++◌, leb, length, drop}
use Rattle.decimal.specs.Decimal.{decimal}
use Rattle.scan.specs.declared.set.Set.{Set}
use Rattle.loader.specs.declared.loader.LoadAnswer.{LoadAnswer}
use Rattle.loader.specs.declared.loader.LoadAnswer.TheVariants.{Loaded, Refused}
use Rattle.loader.specs.Load.{load_of}
use Rattle.verdict.specs.declared.verdict.Verdict.{Verdict}
use Rattle.verdict.specs.declared.verdict.Verdict.TheVariants.{Accepted, BadSet, ShortScratch, NoVector as WordNoVector, Clash as WordClash, NoEnd as WordNoEnd}
use Rattle.verdict.specs.Judge.{judge_of, loose_bytes}
use Rattle.line.specs.declared.printer.Line.{Line}
use Rattle.line.specs.declared.printer.Line.TheVariants.{Accept, Load, NoVector, Clash, NoEnd}

-- ---- numbers

-- a space and a number
unfoldable pub spaced : ℕ → List ℕ
spaced n = 0x20 ∷ decimal n

-- ---- the line

-- the line's word, its numbers with one space before each, and the line's end
unfoldable pub line_bytes : Line → List ℕ
line_bytes (Accept r n m) = (0x41 ∷ 0x43 ∷ 0x43 ∷ 0x45 ∷ 0x50 ∷ 0x54 ∷ []) ++ spaced r ++ spaced n ++ spaced m ++ (0x0A ∷ [])
line_bytes (Load number offset) = (0x4C ∷ 0x4F ∷ 0x41 ∷ 0x44 ∷ []) ++ spaced number ++ spaced offset ++ (0x0A ∷ [])
line_bytes (NoVector word) = (0x4E ∷ 0x4F ∷ 0x56 ∷ 0x45 ∷ 0x43 ∷ 0x54 ∷ 0x4F ∷ 0x52 ∷ []) ++ spaced word ++ (0x0A ∷ [])
line_bytes (Clash word output) = (0x43 ∷ 0x4C ∷ 0x41 ∷ 0x53 ∷ 0x48 ∷ []) ++ spaced word ++ spaced output ++ (0x0A ∷ [])
line_bytes (NoEnd word request) = (0x4E ∷ 0x4F ∷ 0x45 ∷ 0x4E ∷ 0x44 ∷ []) ++ spaced word ++ spaced request ++ (0x0A ∷ [])

-- the line's length, or 0 where the buffer has fewer bytes
unfoldable pub line_answer : Line → ℕ → ℕ
line_answer l room = let needed = length (line_bytes l) in cond (leb needed room) needed 0

-- the line at the front and later bytes as they were; the buffer as it was where it is shorter than the line
unfoldable pub buffer_after : Line → List ℕ → List ℕ
buffer_after l buf = let bytes = line_bytes l in cond (leb (length bytes) (length buf)) (bytes ++ drop (length bytes) buf) buf

-- ---- the line of a file

-- the line of a verdict; 20 and 21, which a loaded set with 512 bytes of scratch never gets, at offset 0
abbrev pub verdict_line : Set → Verdict → Line
verdict_line s Accepted = Accept s.r s.n s.m
verdict_line s BadSet = Load 20 0
verdict_line s ShortScratch = Load 21 0
verdict_line s (WordNoVector word) = NoVector word
verdict_line s (WordClash word output) = Clash word output
verdict_line s (WordNoEnd word request) = NoEnd word request

-- the line of a load's answer: its refusal, or the line of the verdict on the set with so many bytes of scratch
abbrev pub answer_line : Set → ℕ → LoadAnswer → Line
answer_line s room Loaded = verdict_line s (judge_of s room)
answer_line s room (Refused number offset) = Load number offset

-- the line of a file, with so many bytes of scratch
unfoldable pub line_of : List ℕ → ℕ → Line
line_of file room = answer_line (load_of file).set room (load_of file).answer

-- how many bytes of the scratch are free after a load's answer: none after a refusal, else as many as the verdict leaves free
abbrev pub answer_loose : Set → ℕ → LoadAnswer → ℕ
answer_loose s room Loaded = loose_bytes s room
answer_loose s room (Refused number offset) = 0

-- how many bytes of the scratch are free after the line of a file
unfoldable pub loose_of : List ℕ → ℕ → ℕ
loose_of file room = answer_loose (load_of file).set room (load_of file).answer
