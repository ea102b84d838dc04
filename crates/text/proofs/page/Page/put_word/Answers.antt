-- `text::page::Page::put_word` meets its contract. Assumes nothing.
use Rattle.text.proofs.PageLaws.{put_spaced}
use Rattle.text.proofs.page.Page.put_word.Goals as goal

pub returns : goal.returns
returns c = put_spaced _ _ _ _ c.put_byte.ensures c.put_bytes.ensures
