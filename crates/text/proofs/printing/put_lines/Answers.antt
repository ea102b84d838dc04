-- `text::printing::put_lines` meets its contract: the lines, one kind behind the other. Assumes nothing.
use borrow.Author.Rules.{rules}
use mathlib.Core.Path.{◌≡◌}
use mathlib.Core.List.{◌++◌}
use lib.ListN.{length}
use Rattle.words.proofs.ListLaws.{mapped_long}
use Rattle.scan.specs.Set.{most_reads, most_outputs}
use Rattle.scan.proofs.ShapeLaws.{counts, lengths}
use Rattle.text.specs.way.Place.{outputs_bytes, reads_bytes, rests_bytes, constraints_bytes}
use Rattle.text.proofs.PageLaws.{put_then, page_ends}
use Rattle.text.proofs.TextLaws.{read_names_all, output_names_all, text_told, reads_few}
use Rattle.text.proofs.printing.put_lines.Goals as goal
use Rattle.text.proofs.printing.put_lines.Goals.{After-names_of_outputs-output_names, After-names_of_reads-read_names}

-- the lists of names have a name at every place
reads_long : (c : After-names_of_reads-read_names) → length c.names_of_reads-read_names.result ≡ most_reads
reads_long c = search (rules, mapped_long)

outputs_long : (c : After-names_of_outputs-output_names) → length c.names_of_outputs-output_names.result ≡ most_outputs
outputs_long c = search (rules, mapped_long)

pub put_outputs-requires : goal.put_outputs-requires
put_outputs-requires c = let s = c in (counts s.args.set s.requires).n_le

pub put_reads-requires : goal.put_reads-requires
put_reads-requires c = let s = c in (counts s.args.set s.requires).r_le

pub put_constraints-requires : goal.put_constraints-requires
put_constraints-requires c =
    let s = c in
    ((counts s.args.set s.requires).m_le, reads_few s.args.set s.requires)

pub returns : goal.returns
returns c =
    let a = c.args in
    let reads = c.names_of_reads-read_names.result in
    let outputs = c.names_of_outputs-output_names.result in
    let long = lengths a.set c.requires in
    let points = outputs_bytes a.set.outputs a.set.n ++ reads_bytes reads outputs a.set.reads a.set.r in
    let rests = rests_bytes outputs a.set.rest in
    let nevers = constraints_bytes reads outputs a.set.constraints a.set.m in
    page_ends _ c.put_bytes.new.self _ _ _
    (text_told a.set reads outputs (read_names_all reads a.set.reads (reads_long (goal.at.returns c).After-names_of_reads-read_names) long.0 c.names_of_reads-read_names.ensures)
    (output_names_all outputs a.set.outputs (outputs_long (goal.at.returns c).After-names_of_outputs-output_names) long.1 c.names_of_outputs-output_names.ensures))
    (search rules)
    (put_then _ _ _ ((points ++ rests) ++ nevers) _
    (put_then _ _ _ (points ++ rests) nevers
    (put_then _ _ _ points rests
    (put_then _ _ _ (outputs_bytes a.set.outputs a.set.n) (reads_bytes reads outputs a.set.reads a.set.r) c.put_outputs.ensures c.put_reads.ensures)
    c.put_rests.ensures)
    c.put_constraints.ensures)
    c.put_bytes.ensures)
