-- The code's way to a page: a lent buffer with the place in it that the next byte goes to.
-- Assumes nothing.
use Rattle.std.specs.Prelude.{ℕ, ◌≡◌, List}
use Rattle.text.specs.declared.page.Page.{Page}
use Rattle.text.specs.way.Place.{Within}

-- bytes were put at a page's place: its buffer after that, and the place behind them
unfoldable pub Filled : Page → List ℕ → Page → Type 0
Filled page bytes after = Within page.buf.now page.at bytes after.buf.now after.at

-- bytes were put on a page, which lends the same buffer still
abbrev pub Put : Page → List ℕ → Page → Type 0
Put page bytes after = (after.buf.ghost_name ≡ page.buf.ghost_name) × Filled page bytes after
