-- `verdict::marks::mark_safe` meets its contract. Assumes nothing.
use mathlib.Core.Path.{◌≡◌, ap, ap₂, ◌∙◌}
use Prim.Native.Nat.{ℕ}
use native.Mathlib.Omega.{arith}
use lib.ListN.{length}
use lib.Bits.{bit_and}
use Rattle.words.specs.Loop.{some, listed}
use Rattle.scan.specs.Set.{most_outputs}
use Rattle.scan.specs.way.Eight.{low_held, eight_of, safe_byte}
use Rattle.verdict.specs.way.Marks.{first_vectors, has_mark}
use Rattle.verdict.proofs.JudgeLaws.{scratch_eighth, scratch_mono}
use Rattle.verdict.proofs.MarksLaws.{bytes_are, some_safe, held_le}
use Rattle.verdict.proofs.marks.mark_safe.Goals as goal
use Rattle.verdict.proofs.marks.mark_safe.Goals.{After-eight}

-- the arguments of a call; the entries for judging eight at once, and what is held of eight vectors: of those that there are
module _ (v : After-eight) where
  abbrev held : ℕ
  held = bit_and v.low_held.result v.first_vectors.result

  eight_told : v.eight.result ≡ eight_of v.args.entries.now.plain v.args.entries.now.named v.args.entries.now.count
  eight_told = v.eight.ensures

  held_told : held ≡ bit_and (low_held v.args.f0 v.args.f1) (first_vectors v.args.n)
  held_told = ap₂ bit_and v.low_held.ensures v.first_vectors.ensures

  abbrev byte : ℕ → ℕ
  byte =
      safe_byte held v.args.f0 v.args.f1 v.eight.result.high.plain v.eight.result.high.named v.eight.result.low v.eight.result.high.count

pub mark_bytes-requires : goal.mark_bytes-requires
mark_bytes-requires c =
    let v = c in
    let s = v in (
      omega (arith, held_told (goal.at.mark_bytes-requires c).After-eight, held_le s.args.f0 s.args.f1 s.args.n),
      omega (arith, s.requires.1, scratch_mono s.args.n most_outputs s.requires.0, scratch_eighth most_outputs (omega arith)),
    )

pub returns : goal.returns
returns c =
    let m = c in
    let v = m in
    let s = v in
    let any : m.mark_bytes.result ≡ some (length s.args.marks.now) (has_mark (byte (goal.at.returns c).After-eight)) = m.mark_bytes.ensures.value in record {
      value = any ∙ ap (λ (k : ℕ). some k (has_mark (byte (goal.at.returns c).After-eight))) s.requires.1
          ∙ some_safe s.args.n s.args.entries.now.plain s.args.entries.now.named s.args.entries.now.count _ (eight_told (goal.at.returns c).After-eight) s.args.f0 s.args.f1 (held (goal.at.returns c).After-eight) (held_told (goal.at.returns c).After-eight);
      marks_after = m.mark_bytes.ensures.marks_after ∙ ap (λ (k : ℕ). listed k (byte (goal.at.returns c).After-eight)) s.requires.1
          ∙ bytes_are s.args.n s.args.entries.now.plain s.args.entries.now.named s.args.entries.now.count _ (eight_told (goal.at.returns c).After-eight) s.args.f0 s.args.f1 (held (goal.at.returns c).After-eight) (held_told (goal.at.returns c).After-eight);
    }
