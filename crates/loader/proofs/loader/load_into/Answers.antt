-- `loader::loader::load_into` meets its contract: by what the file holds behind its counts. Assumes nothing.
use mathlib.Core.Path.{ap, ◌∙◌}
use Rattle.loader.specs.way.Load.{loaded_with}
use Rattle.loader.proofs.loader.load_into.Goals as goal

pub returns-in-Ok : goal.returns-in-Ok
returns-in-Ok c = c.in-Ok.ensures

pub returns-in-Err : goal.returns-in-Err
returns-in-Err c = ap (λ answer. loaded_with answer c.set_behind.new.set) c.answer_of.ensures ∙ c.in-Err.ensures
