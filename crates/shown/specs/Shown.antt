-- What is printed of a set file: the text of its set, or the line of its refusal.
-- Assumes nothing.
use Rattle.std.specs.Prelude.{ℕ, List, Result, Ok, Err}
use Rattle.scan.specs.declared.set.Set.{Set}
use Rattle.loader.specs.declared.loader.LoadAnswer.{LoadAnswer}
use Rattle.loader.specs.declared.loader.LoadAnswer.TheVariants.{Loaded, Refused}
use Rattle.loader.specs.Load.{load_of}
use Rattle.line.specs.declared.printer.Line.TheVariants.{Load}
use Rattle.line.specs.Line.{line_bytes, line_answer, buffer_after as line_after}
use Rattle.shape.specs.declared.putting.PutError.{PutError}
use Rattle.text.specs.Text.{text_of, text_answer, buffer_after as text_after}

-- what is printed, by the load's answer: the text of the set, or the refusal as the verdict program tells it
abbrev pub answer_bytes : Set → LoadAnswer → List ℕ
answer_bytes s Loaded = text_of s
answer_bytes s (Refused number offset) = line_bytes (Load number offset)

-- what is printed of a file
unfoldable pub shown_bytes : List ℕ → List ℕ
shown_bytes file = answer_bytes (load_of file).set (load_of file).answer

-- the length of a text that was put, else 0
abbrev pub length_put : Result ℕ PutError → ℕ
length_put (Ok size) = size
length_put (Err e) = 0

-- the length put into so many bytes, by the load's answer; 0 where they are too few
abbrev pub answer_length : Set → ℕ → LoadAnswer → ℕ
answer_length s room Loaded = length_put (text_answer s room)
answer_length s room (Refused number offset) = line_answer (Load number offset) room

-- the length put of a file
unfoldable pub shown_length : List ℕ → ℕ → ℕ
shown_length file room = answer_length (load_of file).set room (load_of file).answer

-- the buffer after that, by the load's answer
abbrev pub answer_after : Set → List ℕ → LoadAnswer → List ℕ
answer_after s buf Loaded = text_after s buf
answer_after s buf (Refused number offset) = line_after (Load number offset) buf

-- the buffer after what is put of a file: at the front, later bytes as they were; the buffer as it was where it is too short
unfoldable pub shown_after : List ℕ → List ℕ → List ℕ
shown_after file buf = answer_after (load_of file).set buf (load_of file).answer
