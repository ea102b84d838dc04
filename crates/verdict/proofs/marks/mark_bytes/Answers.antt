-- `verdict::marks::mark_bytes` meets its contract. The invariant: the bytes passed have the safe vectors of theirs, and `any` tells whether there is one.
use mathlib.Core.Path.{◌≡◌, refl, sym, ap, ◌∙◌}
use mathlib.Core.Bool.{not}
use mathlib.Core.List.{List, ◌++◌, append-nil}
use Prim.Native.Nat.{ℕ}
use native.Mathlib.Omega.{arith}
use lib.Dec.{eqb}
use lib.ListN.{length, set, drop}
use lib.Seq.{drop-length}
use Rattle.words.specs.Loop.{some, listed}
use Rattle.words.proofs.LoopLaws.{listed_none, listed_store}
use Rattle.words.proofs.LoopTurns.{some_none, some_step}
use Rattle.scan.specs.way.Eight.{safe_byte}
use Rattle.scan.proofs.EightLaws.{safe_byte_le}
use Rattle.verdict.specs.way.Marks.{has_mark}
use Rattle.verdict.proofs.marks.mark_bytes.Goals as goal
use Rattle.verdict.proofs.marks.mark_bytes.Goals.{Start}

-- the bytes of a call
module _ (c : Start) where
  abbrev byte : ℕ → ℕ
  byte = safe_byte c.args.held c.args.f0 c.args.f1 c.args.entries.now.high.plain c.args.entries.now.high.named c.args.entries.now.low c.args.entries.now.high.count

pub loop-b-init : goal.loop-b-init
loop-b-init c =
    let s = c in
    (sym (some_none _), ap (λ (l : List ℕ). l ++ s.args.marks.now) (listed_none (byte (goal.at.loop-b-init c).Start)))

pub overflow_cast-b : goal.overflow_cast-b
overflow_cast-b c = omega (arith, c.requires.1)

pub overflow_cast-marks : goal.overflow_cast-marks
overflow_cast-marks c =
    let s = c in
    let told : c.safe_byte-safe.result ≡ byte (goal.at.overflow_cast-marks c).Start c.loop-b.b = c.safe_byte-safe.ensures in
    omega (arith, told, s.requires.0, safe_byte_le s.args.held s.args.f0 s.args.f1 s.args.entries.now.high.plain s.args.entries.now.high.named s.args.entries.now.low s.args.entries.now.high.count c.loop-b.b)

pub loop-b-preserved : goal.loop-b-preserved
loop-b-preserved c =
    let q = c in
    let l = q in
    let s = l in
    let told : q.safe_byte-safe.result ≡ byte (goal.at.loop-b-preserved c).Start l.loop-b.b = q.safe_byte-safe.ensures in (
      some_step (has_mark (byte (goal.at.loop-b-preserved c).Start)) l.loop-b.b l.loop-b.any (not (eqb q.safe_byte-safe.result 0)) _ l.loop-b.invariant.0
          (ap (λ (x : ℕ). not (eqb x 0)) told) refl,
      ap (λ (k : List ℕ). set k l.loop-b.b q.safe_byte-safe.result) l.loop-b.invariant.1
          ∙ listed_store (byte (goal.at.loop-b-preserved c).Start) 0 l.loop-b.b q.safe_byte-safe.result s.args.marks.now (omega arith) told,
    )

pub returns : goal.returns
returns c =
    let l = c in
    let s = l in
    let e : l.loop-b.b ≡ length s.args.marks.now = omega arith in record {
      value = l.loop-b.invariant.0 ∙ ap (λ (n : ℕ). some n (has_mark (byte (goal.at.returns c).Start))) e;
      marks_after = l.loop-b.invariant.1 ∙ ap (λ (n : ℕ). listed n (byte (goal.at.returns c).Start) ++ drop n s.args.marks.now) e
          ∙ ap (λ (r : List ℕ). listed (length s.args.marks.now) (byte (goal.at.returns c).Start) ++ r) (drop-length s.args.marks.now)
          ∙ append-nil _;
    }
