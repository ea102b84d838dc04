-- `verdict::missing::is_any_of` meets its contract. The invariant: no byte passed has a safe vector. Assumes nothing.
use mathlib.Core.Path.{◌≡◌, sym, ap, ◌∙◌}
use mathlib.Core.Bool.{not}
use Prim.Native.Nat.{ℕ}
use native.Mathlib.Omega.{arith}
use borrow.Author.Tests.{eq-eqb, ne_eqb}
use Rattle.words.specs.Loop.{some}
use Rattle.words.proofs.LoopLaws.{some_true}
use Rattle.words.proofs.LoopTurns.{some_none, some_miss}
use Rattle.scan.specs.way.Eight.{safe_byte}
use Rattle.verdict.specs.way.Marks.{has_mark}
use Rattle.verdict.proofs.missing.is_any_of.Goals as goal
use Rattle.verdict.proofs.missing.is_any_of.Goals.{Start}

-- the bytes of a call
module _ (c : Start) where
  abbrev byte : ℕ → ℕ
  byte = safe_byte c.args.held 0 0 c.args.entries.now.high.plain c.args.entries.now.high.named c.args.entries.now.low c.args.entries.now.high.count

pub loop-b-init : goal.loop-b-init
loop-b-init c = some_none _

pub returns-then-safe_byte-ne0 : goal.returns-then-safe_byte-ne0
returns-then-safe_byte-ne0 c =
    let q = c in
    let l = q in
    let s = l in
    let told : q.safe_byte.result ≡ byte (goal.at.returns-then-safe_byte-ne0 c).Start l.loop-b.b = q.safe_byte.ensures in
    sym (some_true s.args.bytes (has_mark (byte (goal.at.returns-then-safe_byte-ne0 c).Start)) l.loop-b.b q.loop-b-test.true
    (ap not (ne_eqb (byte (goal.at.returns-then-safe_byte-ne0 c).Start l.loop-b.b) 0 (λ z. c.if-safe_byte-ne0.true (told ∙ z)))))

pub loop-b-preserved : goal.loop-b-preserved
loop-b-preserved c =
    let q = c in
    let l = q in
    let s = l in
    let told : q.safe_byte.result ≡ byte (goal.at.loop-b-preserved c).Start l.loop-b.b = q.safe_byte.ensures in
    some_miss (has_mark (byte (goal.at.loop-b-preserved c).Start)) l.loop-b.b l.loop-b.invariant (ap not (eq-eqb (byte (goal.at.loop-b-preserved c).Start l.loop-b.b) 0 (sym told ∙ c.if-safe_byte-ne0.false)))

pub returns : goal.returns
returns c =
    let l = c in
    let s = l in
    let e : l.loop-b.b ≡ s.args.bytes = omega arith in
    sym l.loop-b.invariant ∙ ap (λ (n : ℕ). some n (has_mark (byte (goal.at.returns c).Start))) e
