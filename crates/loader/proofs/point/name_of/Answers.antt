-- `loader::point::name_of` meets its contract: what the bytes spell and whether it is used say which case of `name_field` holds. Assumes nothing.
use mathlib.Core.Path.{◌≡◌, sym, ap, ◌∙◌}
use mathlib.Core.Bool.{Bool}
use mathlib.Core.List.{List}
use Prim.Native.Nat.{ℕ, min}
use native.Mathlib.Omega.{arith}
use Rattle.std.specs.Prelude.{None, Some, Err}
use Rattle.scan.specs.Set.{most_reads, most_outputs}
use Rattle.header.specs.declared.numbers.Fault.TheVariants.{BadNameByte}
use Rattle.shape.specs.way.Names.{name_used}
use Rattle.loader.specs.way.Load.{given, name_given}
use Rattle.loader.proofs.LoadLaws.{name_bad, name_used_law, name_good}
use Rattle.loader.proofs.point.name_of.Goals as goal
use Rattle.loader.proofs.point.name_of.Goals.{Start}

-- what is said to be used
abbrev used : Start → List ℕ → Bool
used c = let a = c.args in name_used a.reads.now (min a.i most_reads) a.outputs.now (min a.j most_outputs)

pub returns-in_err-name : goal.returns-in_err-name
returns-in_err-name c =
    let none : c.spell.result ≡ None = grind arith in
    let refused : c.from_residual.result ≡ Err BadNameByte = grind arith in
    ap given refused ∙ sym (ap name_given (name_bad (used (goal.at.returns-in_err-name c).Start) c.args.bytes.now (sym c.spell.ensures ∙ none)))

pub returns-then-is_name_used : goal.returns-then-is_name_used
returns-then-is_name_used c =
    let some : c.spell.result ≡ Some c.in_ok-name.name = grind arith in
    sym (ap name_given (name_used_law (used (goal.at.returns-then-is_name_used c).Start) c.args.bytes.now _ (sym c.spell.ensures ∙ some) (sym c.is_name_used.ensures ∙ c.if-is_name_used.true)))

pub returns : goal.returns
returns c =
    let some : c.spell.result ≡ Some c.in_ok-name.name = grind arith in
    sym (ap name_given (name_good (used (goal.at.returns c).Start) c.args.bytes.now _ (sym c.spell.ensures ∙ some) (sym c.is_name_used.ensures ∙ c.if-is_name_used.false)))
