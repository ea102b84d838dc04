-- The laws of specs/way/Place: bytes put behind bytes, and bytes that have their places in the buffer.
-- Assumes nothing.
use mathlib.Core.Path.{◌≡◌, refl, sym, ap, ap₂, subst, ◌∙◌}
use mathlib.Core.Bool.{Bool, cond}
use mathlib.Core.List.{List, [], ◌∷◌, ◌++◌, map, map-append, append_assoc, append-nil}
use Prim.Native.Nat.{ℕ, suc, ◌+◌, ◌≤◌, ◌<◌}
use native.Mathlib.Nat.{add-zero}
use native.Mathlib.Numerals.{add-one}
use native.Mathlib.Omega.{arith}
use lib.ListN.{length, get_or, take, drop, set, length-set, take-append-drop}
use lib.Seq.{take-suc, take-suc-set, drop-set-lt}
use borrow.Author.Tests.{lt-ltb}
use Rattle.words.specs.Loop.{joined}
use Rattle.words.proofs.LoopTurns.{Grows, joined_grow}
use Rattle.text.specs.Text.{spaced_words, lines_text}
use Rattle.text.specs.way.Place.{text_end, next, place_after, put_within, Within, line_bytes}

-- ---- bytes behind bytes

pub after_append : (at : ℕ) (x y : List ℕ) → place_after at (x ++ y) ≡ place_after (place_after at x) y
unfolding place_after
after_append at [] y = refl
after_append at (b ∷ x) y = after_append (next at) x y

pub put_append : (buf : List ℕ) (at : ℕ) (x y : List ℕ) → put_within buf at (x ++ y) ≡ put_within (put_within buf at x) (place_after at x) y
unfolding place_after put_within
put_append buf at [] y = refl
put_append buf at (b ∷ x) y = put_append (set buf at b) (next at) x y

-- no bytes
pub within_none : (buf : List ℕ) (at : ℕ) → Within buf at [] buf at
unfolding place_after put_within
within_none buf at = (refl, refl)

-- one byte
pub within_one : (buf : List ℕ) (at b : ℕ) (after : List ℕ) (place : ℕ) → after ≡ set buf at b → place ≡ next at → Within buf at (b ∷ []) after place
unfolding place_after put_within
within_one buf at b after place e p = (e, p)

-- bytes put behind bytes, and the place behind both
pub within_then : (buf : List ℕ) (at : ℕ) (x y mid after : List ℕ) (middle place : ℕ) → Within buf at x mid middle → Within mid middle y after place
    → Within buf at (x ++ y) after place
within_then buf at x y mid after middle place p q = (
  q.0 ∙ ap₂ (λ (l : List ℕ) (k : ℕ). put_within l k y) p.0 p.1 ∙ sym (put_append buf at x y),
  q.1 ∙ ap (λ (k : ℕ). place_after k y) p.1 ∙ sym (after_append at x y),
)

-- the same bytes
pub within_same : (buf : List ℕ) (at : ℕ) (x y after : List ℕ) (place : ℕ) → x ≡ y → Within buf at x after place → Within buf at y after place
within_same buf at x y after place e p = subst (λ (l : List ℕ). Within buf at l after place) e p

-- ---- words behind words

pub spaced_append : (x y : List (List ℕ)) → spaced_words (x ++ y) ≡ spaced_words x ++ spaced_words y
unfolding spaced_words
spaced_append [] y = refl
spaced_append (w ∷ x) y = ap (λ (l : List ℕ). (0x20 ∷ w) ++ l) (spaced_append x y) ∙ sym (append_assoc (0x20 ∷ w) (spaced_words x) (spaced_words y))

pub words_then : (buf : List ℕ) (at : ℕ) (x y : List (List ℕ)) (mid after : List ℕ) (middle place : ℕ) → Within buf at (spaced_words x) mid middle
    → Within mid middle (spaced_words y) after place → Within buf at (spaced_words (x ++ y)) after place
words_then buf at x y mid after middle place p q =
    within_same buf at (spaced_words x ++ spaced_words y) (spaced_words (x ++ y)) after place (sym (spaced_append x y)) (within_then buf at (spaced_words x) (spaced_words y) mid after middle place p q)

-- no words
pub words_none : (buf : List ℕ) (at : ℕ) → Within buf at (spaced_words []) buf at
unfolding spaced_words
words_none buf at = within_none buf at

-- a space and a word
pub word_put : (buf : List ℕ) (at : ℕ) (w mid after : List ℕ) (middle place : ℕ) → Within buf at (0x20 ∷ []) mid middle → Within mid middle w after place
    → Within buf at (spaced_words (w ∷ [])) after place
unfolding spaced_words
word_put buf at w mid after middle place p q =
    within_same buf at (0x20 ∷ w) ((0x20 ∷ w) ++ []) after place (sym (append-nil (0x20 ∷ w))) (within_then buf at (0x20 ∷ []) w mid after middle place p q)

-- ---- bytes that have their places

next_is : (at : ℕ) → at < text_end → next at ≡ at + 1
unfolding next
next_is at h = ap (λ (b : Bool). cond b (at + 1) at) (lt-ltb at text_end h)

pub after_is : (at : ℕ) (x : List ℕ) → at + length x ≤ text_end → place_after at x ≡ at + length x
unfolding place_after
after_is at [] h = omega arith
after_is at (b ∷ x) h =
    ap (λ (k : ℕ). place_after k x) (next_is at (omega arith)) ∙ after_is (at + 1) x (omega arith) ∙ omega arith

pub put_is : (buf : List ℕ) (at : ℕ) (x : List ℕ) → at + length x ≤ text_end → at + length x ≤ length buf
    → put_within buf at x ≡ take at buf ++ (x ++ drop (at + length x) buf)
unfolding put_within
put_is buf at [] h g = sym (ap (λ (k : ℕ). take at buf ++ drop k buf) (add-zero at) ∙ take-append-drop at buf)
put_is buf at (b ∷ x) h g =
    let stored = set buf at b in
    let e : at + 1 + length x ≡ at + suc (length x) = omega arith in
    ap (λ (k : ℕ). put_within stored k x) (next_is at (omega arith))
    ∙ put_is stored (at + 1) x (omega arith) (omega (arith, length-set buf at b))
    ∙ ap₂ (λ (l r : List ℕ). l ++ (x ++ r))
    (ap (λ (k : ℕ). take k stored) (add-one at) ∙ take-suc-set buf at b (omega arith))
    (drop-set-lt (at + 1 + length x) buf at b (omega arith) ∙ ap (λ (k : ℕ). drop k buf) e)
    ∙ append_assoc (take at buf) (b ∷ []) (x ++ drop (at + suc (length x)) buf)

-- ---- what loops put, one part behind the other

-- the bytes of a list, one behind the other
pub bytes_grow : (bytes : List ℕ) → Grows (λ k. take k bytes) (λ k. get_or bytes k 0 ∷ []) (length bytes)
bytes_grow bytes = record { none = refl; one = λ k h. ap (λ (j : ℕ). take j bytes) (add-one k) ∙ take-suc bytes k 0 h }

-- a part behind the first k
pub within_more : {whole more : ℕ → List ℕ} {n : ℕ} (g : Grows whole more n) (buf : List ℕ) (at : ℕ) (mid : List ℕ) (middle k : ℕ) (after : List ℕ) (place : ℕ) → k < n
    → Within buf at (whole k) mid middle → Within mid middle (more k) after place → Within buf at (whole (k + 1)) after place
within_more {whole} {more} g buf at mid middle k after place h p q =
    within_same buf at (whole k ++ more k) (whole (k + 1)) after place (sym (g.one k h)) (within_then buf at (whole k) (more k) mid after middle place p q)

-- the words that a function of the number gives
pub words_grow : (f : ℕ → List (List ℕ)) (n : ℕ) → Grows (λ k. spaced_words (joined k f)) (λ k. spaced_words (f k)) n
unfolding spaced_words
words_grow f n = record {
  none = ap spaced_words (joined_grow f n).none;
  one = λ k h. ap spaced_words ((joined_grow f n).one k h) ∙ spaced_append (joined k f) (f k);
}

pub lines_append : (x y : List (List (List ℕ))) → lines_text (x ++ y) ≡ lines_text x ++ lines_text y
unfolding lines_text
lines_append [] y = refl
lines_append (l ∷ x) y = ap (λ (t : List ℕ). line_bytes l ++ t) (lines_append x y) ∙ sym (append_assoc (line_bytes l) (lines_text x) (lines_text y))

-- the lines that a function of the number gives
pub joined_lines_grow : (f : ℕ → List (List (List ℕ))) (n : ℕ) → Grows (λ k. lines_text (joined k f)) (λ k. lines_text (f k)) n
unfolding lines_text
joined_lines_grow f n = record {
  none = ap lines_text (joined_grow f n).none;
  one = λ k h. ap lines_text ((joined_grow f n).one k h) ∙ lines_append (joined k f) (f k);
}

-- the lines of a list's elements
pub lines_grow : {A : Type 0} (line : A → List (List ℕ)) (xs : List A) (n : ℕ) (d : A) → n ≤ length xs
    → Grows (λ k. lines_text (map line (take k xs))) (λ k. line_bytes (line (get_or xs k d))) n
unfolding lines_text
lines_grow line xs n d few = record {
  none = refl;
  one = λ k h. ap (λ (j : ℕ). lines_text (map line (take j xs))) (add-one k)
      ∙ ap (λ (l : List _). lines_text (map line l)) (take-suc xs k d (omega arith))
      ∙ ap lines_text (map-append line (take k xs) (get_or xs k d ∷ []))
      ∙ lines_append (map line (take k xs)) (line (get_or xs k d) ∷ [])
      ∙ ap (λ (l : List ℕ). lines_text (map line (take k xs)) ++ l) (append-nil (line_bytes (line (get_or xs k d))));
}
