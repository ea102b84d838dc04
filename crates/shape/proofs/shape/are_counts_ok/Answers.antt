-- `shape::shape::are_counts_ok` meets its contract. Assumes nothing.
use Rattle.scan.proofs.ShapeLaws.{counts_rest, many_reads, many_outputs}
use Rattle.shape.proofs.shape.are_counts_ok.Goals as goal

pub returns-then-n-le-MOST_OUTPUTS : goal.returns-then-n-le-MOST_OUTPUTS
returns-then-n-le-MOST_OUTPUTS c =
    let t = c in
    let a = t.args in
    counts_rest a.r a.n a.m c.both.result c.both-then-n-le-MOST_OUTPUTS.result t.if-r-le-MOST_READS.true t.if-n-le-MOST_OUTPUTS.true c.both.ensures c.both-then-n-le-MOST_OUTPUTS.ensures

pub returns-else-n-le-MOST_OUTPUTS : goal.returns-else-n-le-MOST_OUTPUTS
returns-else-n-le-MOST_OUTPUTS c =
    let a = c.args in
    many_outputs a.r a.n a.m c.if-n-le-MOST_OUTPUTS.false

pub returns-else-r-le-MOST_READS : goal.returns-else-r-le-MOST_READS
returns-else-r-le-MOST_READS c =
    let a = c.args in
    many_reads a.r a.n a.m c.if-r-le-MOST_READS.false
