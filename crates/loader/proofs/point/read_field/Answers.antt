-- `loader::point::read_field` meets its contract: the kind says which case of `read_field` holds. Assumes nothing.
use mathlib.Core.Path.{◌≡◌, sym, ◌∙◌, ap}
use mathlib.Core.List.{List}
use Prim.Native.Nat.{ℕ, min}
use native.Mathlib.Omega.{arith}
use Rattle.std.specs.Prelude.{None, Some, Ok, Err}
use Rattle.scan.specs.Set.{most_reads}
use Rattle.header.specs.Fault.{number}
use Rattle.header.specs.declared.numbers.Fault.TheVariants.{BadKind}
use Rattle.shape.specs.way.Names.{name_used}
use Rattle.loader.specs.Load.{name_field}
use Rattle.loader.specs.way.Load.{not_past, given, name_given, read_given}
use Rattle.loader.proofs.LoadLaws.{rest_of, read_bad, read_named}
use Rattle.loader.proofs.point.read_field.Goals as goal

pub returns-in_err-kind : goal.returns-in_err-kind
returns-in_err-kind c =
    let a = c.args in
    let none : c.kind_of.result ≡ None = grind arith in
    let refused : c.from_residual.result ≡ Err BadKind = grind arith in
    ap given refused
    ∙ sym (ap read_given (read_bad a.n (not_past a.pasts.now) (name_used a.reads.now (min a.i most_reads) a.outputs.now 0) a.i a.body.now (sym c.kind_of.ensures ∙ none)))

pub returns-in_err-name : goal.returns-in_err-name
returns-in_err-name c =
    let a = c.args in
    let used = name_used a.reads.now (min a.i most_reads) a.outputs.now 0 in
    let fault = c.in_err-name.field-0.0 in
    let kind : c.kind_of.result ≡ Some c.in_ok-kind.kind = grind arith in
    let refused : c.from_residual-in_err-name.result ≡ Err fault = grind arith in
    ap given refused
    ∙ read_named a.n (not_past a.pasts.now) used a.i a.body.now c.in_ok-kind.kind (Err (number fault)) (sym c.kind_of.ensures ∙ kind)
    (c.in_err-name.ensures ∙ ap (λ (b : List ℕ). name_given (name_field used b)) (rest_of 2 a.body.now))

pub returns : goal.returns
returns c =
    let a = c.args in
    let used = name_used a.reads.now (min a.i most_reads) a.outputs.now 0 in
    let kind : c.kind_of.result ≡ Some c.in_ok-kind.kind = grind arith in
    read_named a.n (not_past a.pasts.now) used a.i a.body.now c.in_ok-kind.kind (Ok c.in_ok-name.name) (sym c.kind_of.ensures ∙ kind)
    (c.in_ok-name.ensures ∙ ap (λ (b : List ℕ). name_given (name_field used b)) (rest_of 2 a.body.now))
