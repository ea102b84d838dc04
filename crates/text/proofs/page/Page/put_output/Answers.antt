-- `text::page::Page::put_output` meets its contract. Assumes nothing.
use mathlib.Core.List.{[], ◌∷◌}
use Rattle.scan.specs.Names.{name_bytes}
use Rattle.text.specs.Grammar.{output_word}
use Rattle.text.proofs.PageLaws.{put_line}
use Rattle.text.proofs.page.Page.put_output.Goals as goal

pub returns : goal.returns
returns c = put_line _ _ _ _ output_word (name_bytes c.args.p.name ∷ []) c.put_bytes.ensures c.put_name.ensures c.put_byte.ensures
