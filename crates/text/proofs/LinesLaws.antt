-- The laws of lines in a text, as the code puts them.
-- Assumes nothing.
use mathlib.Core.Path.{◌≡◌, sym, ap, ◌∙◌}
use mathlib.Core.Bool.{Bool, true, false}
use mathlib.Core.List.{List, [], ◌∷◌, append-nil}
use Prim.Native.Nat.{ℕ}
use lib.ListN.{get_or}
use Rattle.words.specs.Word.{bit}
use Rattle.scan.specs.Names.{name_bytes}
use Rattle.text.specs.Grammar.{rest_word}
use Rattle.text.specs.Text.{lines_text}
use Rattle.text.specs.way.Place.{line_bytes, rest_if, rest_line_by}

-- the line of an output that is on at rest
pub rest_made : (on : Bool) (name : List ℕ) → on ≡ true → line_bytes (rest_word ∷ name ∷ []) ≡ lines_text (rest_if on name)
unfolding lines_text
rest_made on name e = sym (append-nil (line_bytes (rest_word ∷ name ∷ []))) ∙ ap (λ (b : Bool). lines_text (rest_if b name)) (sym e)

-- one that is off has none
pub rest_none : (on : Bool) (name : List ℕ) → on ≡ false → [] ≡ lines_text (rest_if on name)
unfolding lines_text
rest_none on name e = ap (λ (b : Bool). lines_text (rest_if b name)) (sym e)

-- the line of output k
pub rest_turn : (outputs : List (List ℕ)) (rest k : ℕ) (on : Bool) → on ≡ bit k rest → lines_text (rest_if on (name_bytes (get_or outputs k []))) ≡ lines_text (rest_line_by outputs rest k)
unfolding rest_line_by
rest_turn outputs rest k on e = ap (λ (b : Bool). lines_text (rest_if b (name_bytes (get_or outputs k [])))) e
