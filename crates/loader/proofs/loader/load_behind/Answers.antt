-- `loader::loader::load_behind` meets its contract. Assumes nothing.
use Rattle.loader.proofs.loader.load_behind.Goals as goal

pub returns : goal.returns
returns c = c.load_into-answer.ensures
