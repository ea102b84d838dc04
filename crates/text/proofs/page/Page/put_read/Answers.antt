-- `text::page::Page::put_read` meets its contract. Assumes nothing.
use mathlib.Core.List.{[], ◌∷◌}
use Rattle.text.specs.Text.{parted}
use Rattle.text.specs.way.Place.{read_line_by}
use Rattle.text.proofs.PageLaws.{put_then}
use Rattle.text.proofs.page.Page.put_read.Goals as goal

pub returns : goal.returns
returns c = let a = c.args in put_then _ _ _ (parted (read_line_by a.reads.now a.outputs.now a.p)) (0x0A ∷ []) c.put_kind.ensures c.put_byte.ensures
