-- `literal::literal::literals_in` meets its contract. The loop's invariant: the literals from place i on, added to the constraint so far, give what the whole body gives. Assumes nothing.
use mathlib.Core.Bool.{true, cond}
use mathlib.Core.List.{List, ◌∷◌}
use mathlib.Core.Path.{◌≡◌, sym, ap₂, ◌∙◌}
use Prim.Native.Nat.{ℕ, ◌+◌, ◌<◌, min}
use native.Mathlib.Omega.{arith}
use lib.ListN.{drop, set}
use Rattle.words.proofs.BoolLaws.{cond_true, cond_false}
use Rattle.scan.specs.Set.{most_reads, most_outputs}
use Rattle.header.specs.Tag.{literal_size}
use Rattle.literal.specs.Literal.{said_by, is_literal, literals_of, literals_from}
use Rattle.literal.specs.way.Literal.{of_word}
use Rattle.literal.proofs.LiteralLaws.{room, literal_fits_law, not_literal, not_rising}
use Rattle.literal.proofs.LiteralWayLaws.{literals_end, here, turned}
use Rattle.literal.proofs.literal.literals_in.Goals as goal
use Rattle.literal.proofs.literal.literals_in.Goals.{After-said_at-l, After-with_literal-word, At-loop-i, Else-not-is_literal}

-- where the loop stands, the whole body's literals are those of r read points and n outputs, or of the most where these are more
whole : (c : At-loop-i) → let a = c.args in
    literals_of a.wide c.min-reads.result c.min-outputs.result a.body.now ≡ literals_of a.wide (min a.r most_reads) (min a.n most_outputs) a.body.now
whole c =
    let a = c.args in
    ap₂ (λ (j k : ℕ). literals_of a.wide j k a.body.now) c.min-reads.ensures c.min-outputs.ensures

-- the literals from the one that was said on
told : (c : After-said_at-l) → let a = c.args in
    let l = c.loop-i in
    literals_of a.wide c.min-reads.result c.min-outputs.result a.body.now
    ≡ literals_from a.wide c.min-reads.result c.min-outputs.result l.next (of_word l.word l.ranks) (c.said_at-l.result ∷ said_by a.wide (drop (l.i + literal_size a.wide) a.body.now))
told c =
    let a = c.args in
    let l = c.loop-i in
    here a.wide c.min-reads.result c.min-outputs.result l.next l.word l.ranks a.body.now l.i c.loop-i-test.true c.said_at-l.result c.said_at-l.ensures _ l.invariant

-- what `is_literal` said
good : (c : Else-not-is_literal) → is_literal c.said_at-l.result c.min-reads.result c.min-outputs.result ≡ true
good c = sym c.is_literal.ensures ∙ c.if-not-is_literal.false

-- the literal's number
fits : (c : Else-not-is_literal) → c.said_at-l.result.number < room c.said_at-l.result.out
fits c =
    literal_fits_law c.said_at-l.result c.min-reads.result c.min-outputs.result (good c) (omega (arith, c.min-reads.ensures)) (omega (arith, c.min-outputs.ensures))

-- the literal is taken, and the rest of the body is still to be
onward : (w : After-with_literal-word) → let a = w.args in
    let l = w.loop-i in
    let s = w.said_at-l.result in
    is_literal s w.min-reads.result w.min-outputs.result ≡ true → s.number < room s.out → (ranked : List ℕ) → cond s.out (set l.ranks s.number s.rank) l.ranks ≡ ranked → literals_of a.wide w.min-reads.result w.min-outputs.result a.body.now
    ≡ literals_from a.wide w.min-reads.result w.min-outputs.result (w.place_of-place.result + 1) (of_word w.with_literal-word.result ranked) (said_by a.wide (drop (l.i + w.literal_size-size.result) a.body.now))
onward w g f ranked own =
    let a = w.args in
    let l = w.loop-i in
    turned a.wide w.min-reads.result w.min-outputs.result l.next l.word l.ranks a.body.now l.i w.loop-i-test.true w.said_at-l.result w.said_at-l.ensures _ l.invariant
    g (rw w.place_of-place.ensures at w.if-place-next.false) f w.place_of-place.result w.place_of-place.ensures w.with_literal-word.result w.with_literal-word.ensures ranked own
    w.literal_size-size.result w.literal_size-size.ensures

pub returns-then-not-is_literal : goal.returns-then-not-is_literal
returns-then-not-is_literal c =
    let l = c.loop-i in
    let p = goal.at.returns-then-not-is_literal c in
    sym (told p.After-said_at-l ∙ not_literal c.args.wide c.min-reads.result c.min-outputs.result l.next (of_word l.word l.ranks) c.said_at-l.result _ (sym c.is_literal.ensures ∙ c.if-not-is_literal.true))
    ∙ whole p.At-loop-i

pub returns-then-place-next : goal.returns-then-place-next
returns-then-place-next c =
    let l = c.loop-i in
    let p = goal.at.returns-then-place-next c in
    sym (told p.After-said_at-l ∙ not_rising c.args.wide c.min-reads.result c.min-outputs.result l.next (of_word l.word l.ranks) c.said_at-l.result _ (good p.Else-not-is_literal) (rw c.place_of-place.ensures at c.if-place-next.true))
    ∙ whole p.At-loop-i

pub loop-i-preserved-then-l : goal.loop-i-preserved-then-l
loop-i-preserved-then-l c =
    let s = c.said_at-l.result in
    let r = c.loop-i.ranks in
    let p = goal.at.loop-i-preserved-then-l c in
    onward p.After-with_literal-word (good p.Else-not-is_literal) (fits p.Else-not-is_literal) _ (sym (cond_true s.out (set r s.number s.rank) r c.if-l.true))

pub loop-i-preserved : goal.loop-i-preserved
loop-i-preserved c =
    let s = c.said_at-l.result in
    let r = c.loop-i.ranks in
    let p = goal.at.loop-i-preserved c in
    onward p.After-with_literal-word (good p.Else-not-is_literal) (fits p.Else-not-is_literal) _ (sym (cond_false s.out (set r s.number s.rank) r c.if-l.false))

-- at the end of the body
pub returns : goal.returns
returns c =
    let a = c.args in
    let l = c.loop-i in
    c.last_literal.ensures
    ∙ sym (l.invariant ∙ literals_end a.wide c.min-reads.result c.min-outputs.result l.next (of_word l.word l.ranks) a.body.now l.i c.loop-i-test.false) ∙ whole (goal.at.returns c).At-loop-i
