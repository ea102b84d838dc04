-- The laws of specs/Shown: what is printed by a load's answer is what is printed of the file; and into 65,536 bytes the whole of it is put.
-- Assumes nothing.
use mathlib.Core.Path.{◌≡◌, refl, sym, ap, subst, ◌∙◌}
use mathlib.Core.Bool.{Bool, true, false, cond, not, ◌&&◌}
use mathlib.Core.List.{List, [], ◌∷◌, ◌++◌}
use Prim.Native.Nat.{ℕ, ◌≤◌}
use native.Mathlib.Omega.{arith}
use borrow.Author.Tests.{le-leb, le-ltb, ltb-false}
use lib.Dec.{leb, ltb}
use lib.ListN.{length, drop, length-append}
use Rattle.decimal.proofs.DigitsLaws.{decimal_short}
use Rattle.scan.specs.declared.set.Set.{Set}
use Rattle.scan.specs.Shape.{well_formed}
use Rattle.header.specs.Bytes.{Bytes}
use Rattle.loader.specs.declared.loader.Loaded.{Loaded}
use Rattle.loader.specs.declared.loader.LoadAnswer.{LoadAnswer}
use Rattle.loader.specs.declared.loader.LoadAnswer.TheVariants.{Loaded as WasLoaded, Refused as WasRefused}
use Rattle.loader.specs.Load.{load_of}
use Rattle.setfile.proofs.WriteLoaded.{write_loaded}
use Rattle.line.specs.declared.printer.Line.TheVariants.{Load}
use Rattle.line.specs.Line.{spaced, line_bytes, line_answer, buffer_after as line_after}
use Rattle.line.proofs.LineLaws.{answer_within}
use Rattle.std.specs.Prelude.{Result, Ok, Err}
use Rattle.std.specs.Result.{result_unwrap_or}
use Rattle.shape.specs.declared.putting.PutError.{PutError}
use Rattle.shape.specs.declared.putting.PutError.TheVariants.{BadSet, Short}
use Rattle.text.specs.Text.{text_of, text_answer, buffer_after as text_after}
use Rattle.text.specs.way.Place.{text_end}
use Rattle.text.proofs.TextLaws.{text_fits}
use Rattle.shown.specs.Shown.{answer_bytes, shown_bytes, length_put, answer_length, shown_length, answer_after, shown_after}

-- ---- by the load's answer

module _ (file : List ℕ) (loaded : Loaded) (e : loaded ≡ load_of file) (a : LoadAnswer) (h : loaded.answer ≡ a) where
  pub length_told : (room : ℕ) → answer_length loaded.set room a ≡ shown_length file room
  unfolding shown_length
  length_told room = ap (answer_length loaded.set room) (sym h) ∙ ap (λ (l : Loaded). answer_length l.set room l.answer) e

  pub after_told : (buf : List ℕ) → answer_after loaded.set buf a ≡ shown_after file buf
  unfolding shown_after
  after_told buf = ap (answer_after loaded.set buf) (sym h) ∙ ap (λ (l : Loaded). answer_after l.set buf l.answer) e

-- the length of a text that was put, else 0, as the code says it
pub put_or_none : (x : ℕ) (r : Result ℕ PutError) → x ≡ result_unwrap_or r 0 → x ≡ length_put r
put_or_none x (Ok size) e = e
put_or_none x (Err error) e = e

-- ---- the whole of it

-- the answer's length and buffer are those of these bytes at the front
abbrev Whole : List ℕ → List ℕ → ℕ → List ℕ → Type 0
Whole bytes buf size after = (size ≡ length bytes) × (after ≡ bytes ++ drop (length bytes) buf)

text_whole : (s : Set) (buf : List ℕ) → well_formed s ≡ true → text_end ≤ length buf → Whole (text_of s) buf (length_put (text_answer s (length buf))) (text_after s buf)
unfolding text_answer text_after
text_whole s buf ok room =
    let fits = text_fits s ok in
    let lt : ltb (length buf) (length (text_of s)) ≡ false = le-ltb (length buf) (length (text_of s)) (omega arith) in
    let le : leb (length (text_of s)) (length buf) ≡ true = le-leb (length (text_of s)) (length buf) (omega arith) in
    (simp (ok, lt), simp (ok, le))

refusal_short : (number offset : ℕ) → length (line_bytes (Load number offset)) ≤ 47
unfolding line_bytes spaced
refusal_short number offset =
    let word : List ℕ = 0x4C ∷ 0x4F ∷ 0x41 ∷ 0x44 ∷ [] in
    omega (
      arith,
      length-append (word ++ spaced number ++ spaced offset) (0x0A ∷ []),
      length-append (word ++ spaced number) (spaced offset),
      length-append word (spaced number),
      decimal_short number,
      decimal_short offset,
    )

line_whole : (number offset : ℕ) (buf : List ℕ) → text_end ≤ length buf
    → Whole (line_bytes (Load number offset)) buf (line_answer (Load number offset) (length buf)) (line_after (Load number offset) buf)
unfolding line_answer line_after
line_whole number offset buf room =
    let short = refusal_short number offset in
    let le : leb (length (line_bytes (Load number offset))) (length buf) ≡ true = le-leb (length (line_bytes (Load number offset))) (length buf) (omega arith) in
    (simp le, simp le)

-- Into 65,536 bytes the whole of what is printed of a file of bytes is put: the text of its set where it loads, and the line of its refusal where it does not.
pub shown_whole : (file buf : List ℕ) → Bytes file → text_end ≤ length buf
    → (shown_length file (length buf) ≡ length (shown_bytes file)) × (shown_after file buf ≡ shown_bytes file ++ drop (length (shown_bytes file)) buf)
unfolding shown_length shown_after shown_bytes
shown_whole file buf bytes room = go (load_of file).answer (λ h. (write_loaded file bytes h).1)
  where
    go : (a : LoadAnswer) → (a ≡ WasLoaded → well_formed (load_of file).set ≡ true)
        → Whole (answer_bytes (load_of file).set a) buf (answer_length (load_of file).set (length buf) a) (answer_after (load_of file).set buf a)
    go WasLoaded ok = text_whole (load_of file).set buf (ok (λ i. WasLoaded)) room
    go (WasRefused number offset) ok = line_whole number offset buf room

-- ---- never longer than the buffer

text_within : (s : Set) (buf : List ℕ) → length_put (text_answer s (length buf)) ≤ length (text_after s buf)
unfolding text_answer text_after
text_within s buf = go (well_formed s) (ltb (length buf) (length (text_of s))) refl (leb (length (text_of s)) (length buf))
  where
    go : (ok lt : Bool) → ltb (length buf) (length (text_of s)) ≡ lt → (le : Bool)
        → length_put (cond (not ok) (Err BadSet) (cond lt (Err (Short (length (text_of s)))) (Ok (length (text_of s))))) ≤ length (cond (ok && le) (text_of s ++ drop (length (text_of s)) buf) buf)
    go false lt e le = omega arith
    go true true e le = omega arith
    go true false e true = omega (arith, length-append (text_of s) (drop (length (text_of s)) buf))
    go true false e false = ltb-false (length buf) (length (text_of s)) e

pub shown_within : (file buf after : List ℕ) (r : ℕ) → r ≡ shown_length file (length buf) → after ≡ shown_after file buf → r ≤ length after
unfolding shown_length shown_after
shown_within file buf after r er ea =
    subst (λ (k : ℕ). k ≤ length after) (sym er) (subst (λ (d : List ℕ). shown_length file (length buf) ≤ length d) (sym ea) (go (load_of file).answer))
  where
    go : (a : LoadAnswer) → answer_length (load_of file).set (length buf) a ≤ length (answer_after (load_of file).set buf a)
    go WasLoaded = text_within (load_of file).set buf
    go (WasRefused number offset) = answer_within (Load number offset) buf (line_after (Load number offset) buf) (line_answer (Load number offset) (length buf)) refl refl
