-- `text::page::Page::put_literals` meets its contract. The loop's invariant: the literals of the first k points are put, and `others` says whether there are any before. Assumes nothing.
use borrow.Author.Rules.{rules}
use mathlib.Core.Path.{refl}
use native.Mathlib.Omega.{arith}
use lib.ListN.{length}
use Rattle.words.specs.Loop.{joined}
use Rattle.words.proofs.LoopTurns.{Grows}
use Rattle.text.specs.Text.{spaced_words}
use Rattle.text.specs.way.Place.{literal_at}
use Rattle.text.proofs.PlaceLaws.{words_grow}
use Rattle.text.proofs.PageLaws.{put_same_words, put_first, put_more, put_all, put_made, page_ends}
use Rattle.text.proofs.LiteralLaws.{others_none, others_more, literal_turn}
use Rattle.text.proofs.page.Page.put_literals.Goals.{Start}
use Rattle.text.proofs.page.Page.put_literals.Goals as goal

grows : (s : Start) → let a = s.args in Grows (λ j. spaced_words (joined j (literal_at a.begun a.names.now a.plain a.named a.ranks.now a.several)))
    (λ k. spaced_words (literal_at a.begun a.names.now a.plain a.named a.ranks.now a.several k)) (length a.ranks.now)
grows s = let a = s.args in words_grow (literal_at a.begun a.names.now a.plain a.named a.ranks.now a.several) (length a.ranks.now)

pub loop-k-init : goal.loop-k-init
loop-k-init c = (put_first (grows (goal.at.loop-k-init c).Start) _, others_none c.args.begun c.args.named)

pub loop-k-preserved : goal.loop-k-preserved
loop-k-preserved c =
    let l = c.loop-k in
    let a = c.args in
    let there = c.bit32-there in (
      put_more (grows (goal.at.loop-k-preserved c).Start) _ _ _ l.k c.loop-k-test.true l.invariant.0
          (put_same_words _ c.put_literal.new.self _ _
          (literal_turn a.begun a.names.now a.plain a.named a.ranks.now a.several l.k l.others there.result c.bit32.result l.invariant.1 there.ensures c.bit32.ensures)
          c.put_literal.ensures),
      others_more a.begun a.named l.k l.others there.result c.either-others.result l.invariant.1 there.ensures c.either-others.ensures,
    )

pub returns : goal.returns
returns c =
    let page = c.args.self.now in
    put_made _ _ _ refl
    (page_ends _ c.loop-k.page _ _ _ refl (search rules) (put_all (grows (goal.at.returns c).Start) _ c.loop-k.page c.loop-k.k (omega (arith, c.loop-k-test.false)) c.loop-k.invariant.0))
