-- `shown::showing::show_file` meets its contract: the text of the loaded set, or the line of the refusal. Assumes nothing.
use mathlib.Core.Path.{◌≡◌, ap, ◌∙◌}
use lib.ListN.{length}
use Rattle.loader.specs.declared.loader.LoadAnswer.TheVariants.{Loaded as WasLoaded, Refused as WasRefused}
use Rattle.line.specs.declared.printer.Line.TheVariants.{Load}
use Rattle.line.specs.Line.{line_answer}
use Rattle.shown.specs.Shown.{length_put}
use Rattle.shown.proofs.ShownLaws.{put_or_none, length_told, after_told}
use Rattle.shown.proofs.showing.show_file.Goals as goal

pub returns-in-Loaded : goal.returns-in-Loaded
returns-in-Loaded c =
    let p = c in
    let t = p in
    let f = t in
    let a = f.args in
    let put = put_or_none c.unwrap_or.result p.put_text.result c.unwrap_or.ensures in
    let file = a.file.now in record { value = put ∙ ap length_put p.put_text.ensures.value ∙ length_told file f.load-loaded.result f.load-loaded.ensures WasLoaded t.in-Loaded.is (length a.buf.now); buf_after = p.put_text.ensures.buf_after ∙ after_told file f.load-loaded.result f.load-loaded.ensures WasLoaded t.in-Loaded.is a.buf.now }

pub returns-in-Refused : goal.returns-in-Refused
returns-in-Refused c =
    let p = c in
    let k = p in
    let f = k in
    let a = f.args in
    let file = a.file.now in
    let line : p.put_line.result ≡ line_answer (Load k.in-Refused.number k.in-Refused.offset) (length a.buf.now) = p.put_line.ensures.value in record { value = line ∙ length_told file f.load-loaded.result f.load-loaded.ensures (WasRefused _ _) k.in-Refused.is (length a.buf.now); buf_after = p.put_line.ensures.buf_after ∙ after_told file f.load-loaded.result f.load-loaded.ensures (WasRefused _ _) k.in-Refused.is a.buf.now }
