-- `prepared::putting::constraint_byte` meets its contract. Assumes nothing.
use mathlib.Core.Path.{◌≡◌, ◌∙◌}
use Prim.Native.Nat.{◌-◌}
use native.Mathlib.Omega.{arith}
use lib.ListN.{drop}
use Rattle.prepared.specs.Put.{digit, constraint_bytes}
use Rattle.prepared.proofs.PutLaws.{behind, digit_two, digit_four}
use Rattle.prepared.proofs.putting.constraint_byte.Goals as goal

pub returns-then-j-lt4 : goal.returns-then-j-lt4
returns-then-j-lt4 c =
    let a = c.args in
    let told : c.digit_of.result ≡ digit a.c.read_plain a.j = c.digit_of.ensures in
    told ∙ digit_four a.c.read_plain a.j (drop 4 (constraint_bytes a.c)) c.if-j-lt4.true

pub returns-then-j-lt8 : goal.returns-then-j-lt8
returns-then-j-lt8 c =
    let a = c.args in
    let told : c.digit_of-then-j-lt8.result ≡ digit a.c.read_negated (a.j - 4) = c.digit_of-then-j-lt8.ensures in
    told ∙ digit_four a.c.read_negated (a.j - 4) (drop 8 (constraint_bytes a.c)) (omega arith) ∙ behind 4 (constraint_bytes a.c) a.j (omega arith)

pub returns-then-j-lt10 : goal.returns-then-j-lt10
returns-then-j-lt10 c =
    let a = c.args in
    let told : c.digit_of-then-j-lt10.result ≡ digit a.c.out_plain (a.j - 8) = c.digit_of-then-j-lt10.ensures in
    told ∙ digit_two a.c.out_plain (a.j - 8) (drop 10 (constraint_bytes a.c)) (omega arith) ∙ behind 8 (constraint_bytes a.c) a.j (omega arith)

pub returns-then-j-lt12 : goal.returns-then-j-lt12
returns-then-j-lt12 c =
    let a = c.args in
    let told : c.digit_of-then-j-lt12.result ≡ digit a.c.out_negated (a.j - 10) = c.digit_of-then-j-lt12.ensures in
    told ∙ digit_two a.c.out_negated (a.j - 10) (drop 12 (constraint_bytes a.c)) (omega arith) ∙ behind 10 (constraint_bytes a.c) a.j (omega arith)

pub returns : goal.returns
returns c = let a = c.args in behind 12 (constraint_bytes a.c) a.j (omega arith)
