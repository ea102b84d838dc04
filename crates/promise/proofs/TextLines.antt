-- Texts in lines and words: words that have no space and no LF in them, put with one space between them and an LF behind each line, are read back.
-- Assumes nothing.
use mathlib.Core.Path.{◌≡◌, refl, ap, ◌∙◌}
use mathlib.Core.Bool.{Bool, true, false, cond}
use mathlib.Core.List.{List, [], ◌∷◌, ◌++◌, map, append_assoc}
use Prim.Native.Nat.{ℕ, zero, suc, ◌≤◌, ◌<◌}
use native.Mathlib.Omega.{arith}
use lib.Dec.{eqb}
use lib.ListN.{length, get_or}
use borrow.Author.Tests.{ne_eqb}
use Rattle.words.specs.Loop.{joined}
use Rattle.text.specs.Text.{spaced_words, parted, lines_text}
use Rattle.promise.specs.Texts.{with_byte, parts_at}

-- ---- one part

-- every byte is 0x21 or above: neither a space nor LF
abbrev pub Solid : List ℕ → Type 0
Solid bytes = (k : ℕ) → k < length bytes → 0x21 ≤ get_or bytes k 0

-- none is `mark`
abbrev Free : ℕ → List ℕ → Type 0
Free mark bytes = (k : ℕ) → k < length bytes → eqb (get_or bytes k 0) mark ≡ false

free : (mark : ℕ) (bytes : List ℕ) → mark < 0x21 → Solid bytes → Free mark bytes
free mark bytes h s k l = ne_eqb (get_or bytes k 0) mark (λ e. omega (arith, s k l))

module _ (mark : ℕ) where
  -- a byte that is no mark
  byte_on : (b : ℕ) (bytes : List ℕ) → eqb b mark ≡ false → parts_at mark (b ∷ bytes) ≡ with_byte b (parts_at mark bytes)
  unfolding parts_at
  byte_on b bytes e = ap (λ (t : Bool). cond t ([] ∷ parts_at mark bytes) (with_byte b (parts_at mark bytes))) e

  -- one that is
  mark_ends : (b : ℕ) (bytes : List ℕ) → eqb b mark ≡ true → parts_at mark (b ∷ bytes) ≡ [] ∷ parts_at mark bytes
  unfolding parts_at
  mark_ends b bytes e = ap (λ (t : Bool). cond t ([] ∷ parts_at mark bytes) (with_byte b (parts_at mark bytes))) e

  -- A part alone.
  part_last : (bytes : List ℕ) → Free mark bytes → parts_at mark bytes ≡ bytes ∷ []
  unfolding parts_at
  part_last [] f = refl
  part_last (b ∷ bytes) f = byte_on b bytes (f 0 (omega arith)) ∙ ap (with_byte b) (part_last bytes (λ k h. f (suc k) (omega arith)))

  -- A part with a mark behind it.
  part_then : (bytes : List ℕ) (b : ℕ) (rest : List ℕ) → Free mark bytes → eqb b mark ≡ true → parts_at mark (bytes ++ (b ∷ rest)) ≡ bytes ∷ parts_at mark rest
  part_then [] b rest f e = mark_ends b rest e
  part_then (x ∷ bytes) b rest f e = byte_on x (bytes ++ (b ∷ rest)) (f 0 (omega arith)) ∙ ap (with_byte x) (part_then bytes b rest (λ k h. f (suc k) (omega arith)) e)

-- ---- words

-- all words are solid
abbrev pub AllSolid : List (List ℕ) → Type 0
AllSolid [] = Unit {0}
AllSolid (w ∷ ws) = Solid w × AllSolid ws

-- a line has a word, and all are solid
abbrev pub SolidLine : List (List ℕ) → Type 0
SolidLine [] = ⊥
SolidLine (w ∷ ws) = Solid w × AllSolid ws

pub solid_append : (x y : List (List ℕ)) → AllSolid x → AllSolid y → AllSolid (x ++ y)
solid_append [] y a b = b
solid_append (w ∷ x) y a b = (a.0, solid_append x y a.1 b)

pub solid_joined : (f : ℕ → List (List ℕ)) (n : ℕ) → ((k : ℕ) → k < n → AllSolid (f k)) → AllSolid (joined n f)
unfolding joined
solid_joined f zero a = tt
solid_joined f (suc n) a = solid_append (joined n f) (f n) (solid_joined f n (λ k h. a k (omega arith))) (a n (omega arith))

-- Words with one space between them are read back.
words_back : (w : List ℕ) (ws : List (List ℕ)) → Solid w → AllSolid ws → parts_at 0x20 (w ++ spaced_words ws) ≡ w ∷ ws
unfolding spaced_words
words_back w [] s a = ap (parts_at 0x20) (append_none w) ∙ part_last 0x20 w (free 0x20 w (omega arith) s)
  where
    append_none : (l : List ℕ) → l ++ [] ≡ l
    append_none [] = refl
    append_none (x ∷ l) = ap (λ (r : List ℕ). x ∷ r) (append_none l)
words_back w (v ∷ ws) s a =
    part_then 0x20 w 0x20 (v ++ spaced_words ws) (free 0x20 w (omega arith) s) refl ∙ ap (λ (l : List (List ℕ)). w ∷ l) (words_back v ws a.0 a.1)

pub line_back : (line : List (List ℕ)) → SolidLine line → parts_at 0x20 (parted line) ≡ line
line_back [] s = absurd s
line_back (w ∷ ws) s = words_back w ws s.0 s.1

-- ---- lines

-- all lines are
abbrev pub SolidLines : List (List (List ℕ)) → Type 0
SolidLines [] = Unit {0}
SolidLines (l ∷ ls) = SolidLine l × SolidLines ls

pub lines_both : (x y : List (List (List ℕ))) → SolidLines x → SolidLines y → SolidLines (x ++ y)
lines_both [] y a b = b
lines_both (l ∷ x) y a b = (a.0, lines_both x y a.1 b)

pub lines_each : {A : Type 0} (f : A → List (List ℕ)) (l : List A) (d : A) → ((k : ℕ) → k < length l → SolidLine (f (get_or l k d))) → SolidLines (map f l)
lines_each f [] d a = tt
lines_each f (x ∷ l) d a = (a 0 (omega arith), lines_each f l d (λ k h. a (suc k) (omega arith)))

pub lines_joined : (f : ℕ → List (List (List ℕ))) (n : ℕ) → ((k : ℕ) → SolidLines (f k)) → SolidLines (joined n f)
unfolding joined
lines_joined f zero a = tt
lines_joined f (suc n) a = lines_both (joined n f) (f n) (lines_joined f n a) (a n)

-- words with spaces between them have no LF
free_line : (line : List (List ℕ)) → SolidLine line → Free 0x0A (parted line)
unfolding spaced_words
free_line [] s = absurd s
free_line (w ∷ ws) s = both w (spaced_words ws) (free 0x0A w (omega arith) s.0) (rest ws s.1)
  where
    both : (x y : List ℕ) → Free 0x0A x → Free 0x0A y → Free 0x0A (x ++ y)
    both [] y a b k h = b k h
    both (c ∷ x) y a b zero h = a 0 (omega arith)
    both (c ∷ x) y a b (suc k) h = both x y (λ j l. a (suc j) (omega arith)) b k (omega arith)

    rest : (ws : List (List ℕ)) → AllSolid ws → Free 0x0A (spaced_words ws)
    rest [] a k h = absurd (omega arith)
    rest (v ∷ ws) a zero h = refl
    rest (v ∷ ws) a (suc k) h = both v (spaced_words ws) (free 0x0A v (omega arith) a.0) (rest ws a.1) k (omega arith)

-- Lines with an LF behind each are read back, and nothing stands behind the last.
pub lines_back : (ls : List (List (List ℕ))) → SolidLines ls → parts_at 0x0A (lines_text ls) ≡ map parted ls ++ ([] ∷ [])
unfolding lines_text parts_at
lines_back [] s = refl
lines_back (l ∷ ls) s =
    ap (parts_at 0x0A) (append_assoc (parted l) (0x0A ∷ []) (lines_text ls))
    ∙ part_then 0x0A (parted l) 0x0A (lines_text ls) (free_line l s.0) refl
    ∙ ap (λ (r : List (List ℕ)). parted l ∷ r) (lines_back ls s.1)

-- Line k of them.
pub line_at_law : (ls : List (List (List ℕ))) → SolidLines ls → (k : ℕ) → k < length ls → get_or (map parted ls ++ ([] ∷ [])) k [] ≡ parted (get_or ls k [])
line_at_law [] s k h = absurd (omega arith)
line_at_law (l ∷ ls) s zero h = refl
line_at_law (l ∷ ls) s (suc k) h = line_at_law ls s.1 k (omega arith)

pub solid_at : (ls : List (List (List ℕ))) → SolidLines ls → (k : ℕ) → k < length ls → SolidLine (get_or ls k [])
solid_at [] s k h = absurd (omega arith)
solid_at (l ∷ ls) s zero h = s.0
solid_at (l ∷ ls) s (suc k) h = solid_at ls s.1 k (omega arith)

-- the empty one behind them
pub line_behind : (ls : List (List (List ℕ))) → get_or (map parted ls ++ ([] ∷ [])) (length ls) [] ≡ []
line_behind [] = refl
line_behind (l ∷ ls) = line_behind ls

pub lines_count : (ls : List (List (List ℕ))) → length (map parted ls ++ ([] ∷ [])) ≡ suc (length ls)
lines_count [] = refl
lines_count (l ∷ ls) = ap suc (lines_count ls)
