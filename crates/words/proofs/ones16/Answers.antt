-- `words::ones16` meets its contract. Assumes nothing.
use Rattle.words.proofs.PopcountLaws.{ones_popcount}
use Rattle.words.proofs.ones16.Goals as goal

pub returns : goal.returns
returns c = ones_popcount c.args.x c.ranges.x.fits
