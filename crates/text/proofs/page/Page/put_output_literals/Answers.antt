-- `text::page::Page::put_output_literals` meets its contract. Assumes nothing.
use borrow.Author.Rules.{rules}
use mathlib.Core.Path.{◌≡◌, ap, ◌∙◌}
use Prim.Native.Nat.{ℕ}
use lib.Dec.{ltb}
use lib.ListN.{length}
use Rattle.words.specs.Loop.{joined}
use Rattle.words.proofs.ListLaws.{mapped_long}
use Rattle.scan.specs.Set.{most_reads, most_outputs}
use Rattle.text.specs.Text.{named_below, named_reads}
use Rattle.text.specs.way.Place.{literal_at}
use Rattle.text.proofs.PageLaws.{put_same_words}
use Rattle.text.proofs.TextLaws.{any_named}
use Rattle.text.proofs.page.Page.put_output_literals.Goals as goal
use Rattle.text.proofs.page.Page.put_output_literals.Goals.{Start}

long : (c : Start) → length c.args.c.ranks ≡ most_outputs
long c = search (rules, mapped_long)

pub returns : goal.returns
returns c =
    let a = c.args in
    let any : ltb 0 c.named_reads-others.result ≡ named_below (named_reads a.c) most_reads = ap (λ (x : ℕ). ltb 0 x) c.named_reads-others.ensures ∙ any_named (named_reads a.c) c.requires in
    put_same_words _ c.put_literals.new.self _ _
    (λ i. joined (long (goal.at.returns c).Start i) (literal_at (any i) a.names.now a.c.out_plain (c.named_outputs-named.ensures i) a.c.ranks (c.names_several-several.ensures i))) c.put_literals.ensures
