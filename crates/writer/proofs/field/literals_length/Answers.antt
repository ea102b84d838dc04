-- `writer::field::literals_length` meets its contract: the bytes of a literal for each one of the masks. Assumes nothing.
use mathlib.Core.Path.{ap, ◌∙◌}
use Prim.Native.Nat.{ℕ, ◌+◌, ◌*◌, ◌≤◌}
use native.Mathlib.Nat.{mul-le-mul}
use native.Mathlib.Omega.{arith}
use lib.Bits.{bit_or}
use lib.Count.{ones, ones-le}
use Rattle.scan.specs.Set.{most_reads, most_outputs, outs}
use Rattle.header.proofs.TagLaws.{size_bounds}
use Rattle.writer.proofs.LiteralBodyLaws.{literals_long}
use Rattle.writer.proofs.field.literals_length.Goals as goal
use Rattle.writer.proofs.field.literals_length.Goals.{After-literal_size, Start}

few_reads : (c : Start) → ones (bit_or c.args.c.read_plain c.args.c.read_negated) ≤ most_reads
few_reads c = ones-le most_reads (bit_or c.args.c.read_plain c.args.c.read_negated) c.requires.0

few_outputs : (c : Start) → ones (outs c.args.c) ≤ most_outputs
few_outputs c = ones-le most_outputs (outs c.args.c) c.requires.1

-- the product is small
bounded : (c : After-literal_size) → let a = c.args in
    c.literal_size.result * (ones (bit_or a.c.read_plain a.c.read_negated) + ones (outs a.c)) ≤ 3 * (most_reads + most_outputs)
bounded c =
    let s = c in
    mul-le-mul {n₂ = 3} {m₂ = most_reads + most_outputs} (omega (arith, c.literal_size.ensures, size_bounds s.args.wide)) (omega (arith, few_reads c.before.before.before, few_outputs c.before.before.before))

pub overflow_cast-result : goal.overflow_cast-result
overflow_cast-result c = omega (arith, few_reads (goal.at.overflow_cast-result c).Start)

pub overflow_cast-result-2 : goal.overflow_cast-result-2
overflow_cast-result-2 c = omega (arith, few_outputs (goal.at.overflow_cast-result-2 c).Start)

pub overflow_add-result : goal.overflow_add-result
overflow_add-result c = omega (arith, few_reads (goal.at.overflow_add-result c).Start, few_outputs (goal.at.overflow_add-result c).Start)

pub overflow_mul-result : goal.overflow_mul-result
overflow_mul-result c = omega (arith, bounded (goal.at.overflow_mul-result c).After-literal_size)

pub returns : goal.returns
returns c =
    let s = c in
    let a = s.args in
    let many = ones (bit_or a.c.read_plain a.c.read_negated) + ones (outs a.c) in
    (ap (λ (x : ℕ). x * many) c.literal_size.ensures ∙ literals_long a.wide a.c s.requires.0 s.requires.1, bounded (goal.at.returns c).After-literal_size)
