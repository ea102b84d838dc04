-- What is said of a line: it is never longer than the buffer that it is put into; and the line of a file.
-- Assumes nothing.
use mathlib.Core.Path.{◌≡◌, sym, ap, subst, ◌∙◌}
use mathlib.Core.Bool.{Bool, true, false, cond}
use mathlib.Core.List.{List, ◌++◌}
use Prim.Native.Nat.{ℕ, ◌≤◌}
use native.Mathlib.Omega.{arith}
use lib.Dec.{leb}
use lib.ListN.{length, drop, length-append}
use Rattle.line.specs.declared.printer.Line.{Line}
use Rattle.loader.specs.declared.loader.Loaded.{Loaded}
use Rattle.loader.specs.declared.loader.LoadAnswer.{LoadAnswer}
use Rattle.loader.specs.declared.loader.LoadAnswer.TheVariants.{Loaded as WasLoaded, Refused as WasRefused}
use Rattle.loader.specs.Load.{load_of}
use Rattle.verdict.specs.declared.verdict.Verdict.{Verdict}
use Rattle.verdict.specs.Judge.{judge_of, loose_bytes}
use Rattle.line.specs.declared.printer.Line.TheVariants.{Load}
use Rattle.line.specs.Line.{line_bytes, line_answer, buffer_after, verdict_line, answer_line, line_of, answer_loose, loose_of}

-- the answer is never longer than the buffer
within : (b : Bool) (bytes buf : List ℕ) → cond b (length bytes) 0 ≤ length (cond b (bytes ++ drop (length bytes) buf) buf)
within true bytes buf = omega (arith, length-append bytes (drop (length bytes) buf))
within false bytes buf = omega arith

pub answer_within : (l : Line) (buf after : List ℕ) (r : ℕ) → r ≡ line_answer l (length buf) → after ≡ buffer_after l buf → r ≤ length after
unfolding line_answer buffer_after
answer_within l buf after r er ea =
    let bytes : List ℕ = line_bytes l in
    let most : line_answer l (length buf) ≤ length (buffer_after l buf) = within (leb (length bytes) (length buf)) bytes buf in
    subst (λ (k : ℕ). k ≤ length after) (sym er) (subst (λ (d : List ℕ). line_answer l (length buf) ≤ length d) (sym ea) most)

-- ---- the line of a file

module _ (file : List ℕ) (room : ℕ) (loaded : Loaded) (e : loaded ≡ load_of file) where
  told : (a : LoadAnswer) → loaded.answer ≡ a → answer_line loaded.set room a ≡ line_of file room
  unfolding line_of
  told a h = ap (answer_line loaded.set room) (sym h) ∙ ap (λ (l : Loaded). answer_line l.set room l.answer) e

  pub file_judged : loaded.answer ≡ WasLoaded → (v : Verdict) → v ≡ judge_of loaded.set room → (l : Line) → l ≡ verdict_line loaded.set v → l ≡ line_of file room
  file_judged h v ev l el = el ∙ ap (verdict_line loaded.set) ev ∙ told WasLoaded h

  pub file_refused : (number offset : ℕ) → loaded.answer ≡ WasRefused number offset → Load number offset ≡ line_of file room
  file_refused number offset h = told (WasRefused number offset) h

  loose : (a : LoadAnswer) → loaded.answer ≡ a → answer_loose loaded.set room a ≡ loose_of file room
  unfolding loose_of
  loose a h = ap (answer_loose loaded.set room) (sym h) ∙ ap (λ (l : Loaded). answer_loose l.set room l.answer) e

  -- the later bytes of the scratch
  pub judged_scratch : loaded.answer ≡ WasLoaded → (before after : List ℕ) → drop (loose_bytes loaded.set room) after ≡ drop (loose_bytes loaded.set room) before
      → drop (loose_of file room) after ≡ drop (loose_of file room) before
  judged_scratch h before after same = subst (λ (k : ℕ). drop k after ≡ drop k before) (loose WasLoaded h) same
