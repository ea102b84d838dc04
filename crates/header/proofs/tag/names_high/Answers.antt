-- `header::tag::names_high` meets its contract. Assumes nothing.
use borrow.Author.Rules.{rules}
use Rattle.header.specs.Tag.{names_high}
use Rattle.header.proofs.tag.names_high.Goals as goal

pub returns : goal.returns
unfolding names_high
returns c = search rules
