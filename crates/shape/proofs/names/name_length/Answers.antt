-- `shape::names::name_length` meets its contract. Assumes nothing.
use mathlib.Core.Path.{◌≡◌, ◌∙◌}
use Prim.Native.Nat.{ℕ}
use native.Mathlib.Omega.{arith}
use lib.Dec.{eqb}
use lib.ListN.{length}
use Rattle.std.proofs.Common.{rules, tests, Bool}
use Rattle.std.proofs.lemmas.Iterator.{YieldsList-from_slice}
use Rattle.std.proofs.lemmas.Iterator.Search.{position_from_yields_List}
use Rattle.words.proofs.LoopLaws.{first_spec}
use Rattle.scan.specs.Set.{name_places}
use Rattle.scan.specs.Names.{zero_at}
use Rattle.scan.proofs.NamesLaws.{name_ends}
use Rattle.shape.proofs.ListTests.{place_or_end}
use Rattle.shape.proofs.names.name_length.Goals as goal

pub returns : goal.returns
returns c =
    let name = c.args.name in
    let zero : ℕ → Bool = λ x. eqb x 0 in
    let long : length name ≡ name_places = search rules in
    let e = c.unwrap_or.ensures
    ∙ place_or_end zero 0 name name_places long _ (position_from_yields_List zero _ _ _ c.position.ensures.ran (YieldsList-from_slice name cc) (λ x b q k. search (rules, tests))) in
    let w = (first_spec name_places (zero_at name)).within in
    (name_ends name c.unwrap_or.result (omega arith) e, omega arith)
