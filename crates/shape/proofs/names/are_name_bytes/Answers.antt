-- `shape::names::are_name_bytes` meets its contract. Assumes nothing.
use mathlib.Core.Path.{◌∙◌}
use Rattle.std.proofs.Common.{rules, tests}
use Rattle.std.proofs.lemmas.Iterator.{YieldsList-from_slice}
use Rattle.std.proofs.lemmas.Iterator.Search.{all_from_yields_List}
use Rattle.scan.specs.Names.{name_byte, all_name_bytes}
use Rattle.shape.proofs.ListTests.{all_places}
use Rattle.shape.proofs.names.are_name_bytes.Goals as goal

pub returns : goal.returns
unfolding all_name_bytes
returns c =
    let bytes = c.args.bytes.now in
    all_from_yields_List name_byte _ _ _ c.all.ensures.ran (YieldsList-from_slice bytes cc) (λ x b q k. search (rules, tests))
    ∙ all_places name_byte 0 bytes
