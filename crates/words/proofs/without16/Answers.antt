-- `words::without16` meets its contract. Assumes nothing.
use mathlib.Core.Path.{refl}
use Rattle.words.specs.Word.{without}
use Rattle.words.proofs.without16.Goals as goal

pub returns : goal.returns
unfolding without
returns c = refl
