-- The laws of specs/way/Page: bytes, words and lines put on a page behind others. Assumes nothing.
use mathlib.Core.Path.{◌≡◌, refl, sym, ap, ◌∙◌, subst}
use mathlib.Core.List.{List, [], ◌∷◌, ◌++◌}
use Prim.Native.Nat.{ℕ, ◌+◌, ◌<◌}
use Rattle.words.proofs.LoopTurns.{Grows}
use Rattle.text.specs.Text.{spaced_words}
use Rattle.text.specs.declared.page.Page.{Page}
use Rattle.text.specs.way.Page.{Filled, Put}
use Rattle.text.specs.way.Place.{Within, line_bytes}
use Rattle.text.proofs.PlaceLaws.{within_none, within_then, word_put, words_none, words_then}

-- ---- bytes behind bytes

-- no bytes
pub put_none : (page : Page) → Put page [] page
unfolding Filled
put_none page = (refl, within_none page.buf.now page.at)

-- bytes put at the place of the same buffer
pub put_made : (page after : Page) (x : List ℕ) → after.buf.ghost_name ≡ page.buf.ghost_name → Within page.buf.now page.at x after.buf.now after.at → Put page x after
unfolding Filled
put_made page after x g p = (g, p)

-- bytes put behind bytes
pub put_then : (page mid after : Page) (x y : List ℕ) → Put page x mid → Put mid y after → Put page (x ++ y) after
unfolding Filled
put_then page mid after x y p q = (q.0 ∙ p.0, within_then page.buf.now page.at x y mid.buf.now after.buf.now mid.at after.at p.1 q.1)

-- the same bytes
pub put_same : (page after : Page) (x y : List ℕ) → x ≡ y → Put page x after → Put page y after
put_same page after x y e p = subst (λ (l : List ℕ). Put page l after) e p

-- ---- words behind words

-- no words
pub put_wordless : (page : Page) → Put page (spaced_words []) page
unfolding Filled
put_wordless page = (refl, words_none page.buf.now page.at)

-- a space and a word
pub put_spaced : (page mid after : Page) (w : List ℕ) → Put page (0x20 ∷ []) mid → Put mid w after → Put page (spaced_words (w ∷ [])) after
unfolding Filled
put_spaced page mid after w p q = (q.0 ∙ p.0, word_put page.buf.now page.at w mid.buf.now after.buf.now mid.at after.at p.1 q.1)

-- words put behind words
pub put_words : (page mid after : Page) (x y : List (List ℕ)) → Put page (spaced_words x) mid → Put mid (spaced_words y) after → Put page (spaced_words (x ++ y)) after
unfolding Filled
put_words page mid after x y p q = (q.0 ∙ p.0, words_then page.buf.now page.at x y mid.buf.now after.buf.now mid.at after.at p.1 q.1)

-- the same words
pub put_same_words : (page after : Page) (x y : List (List ℕ)) → x ≡ y → Put page (spaced_words x) after → Put page (spaced_words y) after
put_same_words page after x y e p = put_same page after (spaced_words x) (spaced_words y) (ap spaced_words e) p

-- the first word, the words behind it, and the line's end
pub put_line : (page one two after : Page) (first : List ℕ) (words : List (List ℕ)) → Put page first one → Put one (spaced_words words) two
    → Put two (0x0A ∷ []) after → Put page (line_bytes (first ∷ words)) after
put_line page one two after first words p q e =
    put_then page two after (first ++ spaced_words words) (0x0A ∷ []) (put_then page one two first (spaced_words words) p q) e

-- ---- loops that put one part behind the other

module _ {whole more : ℕ → List ℕ} {n : ℕ} (g : Grows whole more n) where
  -- no part
  pub put_first : (page : Page) → Put page (whole 0) page
  put_first page = put_same page page [] (whole 0) (sym g.none) (put_none page)

  -- a part behind the first k
  pub put_more : (page mid after : Page) (k : ℕ) → k < n → Put page (whole k) mid → Put mid (more k) after → Put page (whole (k + 1)) after
  put_more page mid after k h p q = put_same page after (whole k ++ more k) (whole (k + 1)) (sym (g.one k h)) (put_then page mid after (whole k) (more k) p q)

  -- all parts
  pub put_all : (page after : Page) (k : ℕ) → k ≡ n → Put page (whole k) after → Put page (whole n) after
  put_all page after k e p = put_same page after (whole k) (whole n) (ap whole e) p

-- a page's buffer and place at the end
pub page_ends : (page after : Page) (x y : List ℕ) (buf : List ℕ) → x ≡ y → buf ≡ after.buf.now → Put page x after → Within page.buf.now page.at y buf after.at
unfolding Filled
page_ends page after x y buf e b p = subst (λ (l : List ℕ). Within page.buf.now page.at y l after.at) (sym b) (put_same page after x y e p).1
