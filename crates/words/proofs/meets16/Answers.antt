-- `words::meets16` meets its contract. Assumes nothing.
use Rattle.words.proofs.BitLaws.{meets_rest, meets_not}
use Rattle.words.proofs.meets16.Goals as goal

pub returns-then-w-plain : goal.returns-then-w-plain
returns-then-w-plain c =
    let a = c.args in
    meets_rest a.plain a.negated a.w c.if-w-plain.true

pub returns-else-w-plain : goal.returns-else-w-plain
returns-else-w-plain c =
    let a = c.args in
    meets_not a.plain a.negated a.w c.if-w-plain.false
