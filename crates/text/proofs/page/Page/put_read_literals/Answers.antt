-- `text::page::Page::put_read_literals` meets its contract. Assumes nothing.
use mathlib.Core.Path.{ap}
use mathlib.Core.Bool.{false}
use Prim.Native.Nat.{ℕ}
use lib.ListN.{replicate}
use Rattle.words.specs.Loop.{joined}
use Rattle.scan.specs.Set.{most_reads}
use Rattle.text.specs.way.Place.{literal_at}
use Rattle.text.proofs.PageLaws.{put_same_words}
use Rattle.text.proofs.page.Page.put_read_literals.Goals as goal

pub returns : goal.returns
returns c =
    let a = c.args in
    put_same_words _ c.put_literals.new.self _ _
    (ap (λ (x : ℕ). joined most_reads (literal_at false a.names.now a.c.read_plain x (replicate most_reads 0) false)) c.named_reads-named.ensures) c.put_literals.ensures
