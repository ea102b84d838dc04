-- `writer::field::put_body` meets its contract: the read literals, then the output literals. Assumes nothing.
use mathlib.Core.Path.{◌≡◌, sym, subst}
use mathlib.Core.List.{List, ◌++◌}
use Prim.Native.Nat.{ℕ, ◌+◌, ◌^◌, ◌≤◌, ◌<◌}
use native.Mathlib.Omega.{arith}
use lib.Bits.{bit_or}
use lib.ListN.{length, replicate, length-append}
use Rattle.words.proofs.ListLaws.{mapped_long}
use Rattle.scan.specs.Set.{most_reads, most_outputs, outs}
use Rattle.writer.specs.Write.{literals_by}
use Rattle.writer.specs.way.Write.{literals_at, Put}
use Rattle.writer.proofs.LiteralBodyLaws.{literals_told}
use Rattle.writer.proofs.WriteLaws.{put_then, next_room}
use borrow.Author.Rules.{rules}
use Rattle.writer.proofs.field.put_body.Goals as goal
use Rattle.writer.proofs.field.put_body.Goals.{Start}

-- the two parts of the body
abbrev readPart : Start → List ℕ
readPart s = let c = s.args.c in literals_at s.args.wide 0 c.read_plain (bit_or c.read_plain c.read_negated) (replicate most_reads 0)

abbrev outputPart : Start → List ℕ
outputPart s = let c = s.args.c in literals_at s.args.wide 0x40 c.out_plain (outs c) c.ranks

long : (s : Start) → length s.args.c.ranks ≡ most_outputs
long s = search (rules, mapped_long)

told : (s : Start) → readPart s ++ outputPart s ≡ literals_by s.args.wide s.args.c
told s = literals_told s.args.wide s.args.c (long s)

-- there is room for them
room : (s : Start) → s.args.at + length (readPart s ++ outputPart s) ≤ length s.args.buf.now
room s = subst (λ (l : List ℕ). s.args.at + length l ≤ length s.args.buf.now) (sym (told s)) s.requires.1

read_room : (s : Start) → s.args.at + length (readPart s) ≤ length s.args.buf.now
read_room s = omega (arith, room s, length-append (readPart s) (outputPart s))

pub put_literals-next-requires : goal.put_literals-next-requires
put_literals-next-requires c = let s = c in (omega arith, omega arith, s.requires.0.0, read_room (goal.at.put_literals-next-requires c).Start)

pub put_literals-requires : goal.put_literals-requires
put_literals-requires c =
    let p = c in
    let s = p in (
      omega arith,
      omega (arith, long (goal.at.put_literals-requires c).Start),
      subst (λ (n : ℕ). outs s.args.c < 2 ^ n) (sym (long (goal.at.put_literals-requires c).Start)) s.requires.0.1,
      next_room s.args.buf.now s.args.at (readPart (goal.at.put_literals-requires c).Start) (outputPart (goal.at.put_literals-requires c).Start) _ _ p.put_literals-next.ensures (room (goal.at.put_literals-requires c).Start),
    )

pub returns : goal.returns
returns c =
    let q = c in
    let p = q in
    let s = p in
    let a = s.args in
    subst (λ (l : List ℕ). Put a.buf.now a.at l q.put_literals.new.buf q.put_literals.result) (told (goal.at.returns c).Start)
    (put_then a.buf.now a.at (readPart (goal.at.returns c).Start) (outputPart (goal.at.returns c).Start) _ _ _ _ (read_room (goal.at.returns c).Start) p.put_literals-next.ensures q.put_literals.ensures)
