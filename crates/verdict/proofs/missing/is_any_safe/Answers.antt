-- `verdict::missing::is_any_safe` meets its contract. Assumes nothing.
use mathlib.Core.Path.{◌≡◌, sym, ap, ap₂, ◌∙◌}
use Prim.Native.Nat.{ℕ, ◌^◌}
use native.Mathlib.Nat.{min-eq_left}
use native.Mathlib.Omega.{arith}
use lib.Bits.{bit_and}
use lib.Pow.{pow_pos}
use Rattle.words.specs.Loop.{some}
use Rattle.words.proofs.LoopLaws.{some_true}
use Rattle.scan.specs.Set.{most_outputs}
use Rattle.scan.specs.way.Table.{safe_over}
use Rattle.scan.specs.way.Eight.{low_held, eight_of, safe_byte}
use Rattle.verdict.specs.Judge.{scratch_bytes}
use Rattle.verdict.specs.way.Marks.{first_vectors, has_mark}
use Rattle.verdict.proofs.JudgeLaws.{scratch_eighth, scratch_mono}
use Rattle.verdict.proofs.MarksLaws.{some_safe}
use Rattle.verdict.proofs.missing.is_any_safe.Goals as goal
use Rattle.verdict.proofs.missing.is_any_safe.Goals.{After-scratch_bytes-bytes}

-- the arguments of a call, and how many bytes there are
module _ (c : After-scratch_bytes-bytes) where
  bytes_told : c.scratch_bytes-bytes.result ≡ scratch_bytes c.args.n
  bytes_told = c.scratch_bytes-bytes.ensures ∙ ap scratch_bytes (min-eq_left c.requires)

pub returns-then-is_safe : goal.returns-then-is_safe
returns-then-is_safe c =
    let a = c.args in
    let told : c.is_safe.result ≡ safe_over 0 0 a.entries.now.plain a.entries.now.named a.entries.now.count 0 = c.is_safe.ensures in
    sym (some_true (2 ^ a.n) (safe_over 0 0 a.entries.now.plain a.entries.now.named a.entries.now.count) 0 (pow_pos a.n) (sym told ∙ c.if-is_safe.true))

pub overflow_cast-bytes : goal.overflow_cast-bytes
overflow_cast-bytes c = omega (arith, bytes_told (goal.at.overflow_cast-bytes c).After-scratch_bytes-bytes, scratch_mono c.args.n most_outputs c.requires, scratch_eighth most_outputs (omega arith))

pub returns : goal.returns
returns c =
    let b = c in
    let v = b in
    let h = v in
    let e = h in
    let a = b.args in
    let held : ℕ = bit_and h.low_held.result v.first_vectors.result in
    let entries : c.eight.result ≡ eight_of a.entries.now.plain a.entries.now.named a.entries.now.count = c.eight.ensures in
    let told : held ≡ bit_and (low_held 0 0) (first_vectors a.n) = ap₂ bit_and h.low_held.ensures v.first_vectors.ensures in
    let byte : ℕ → ℕ = safe_byte held 0 0 c.eight.result.high.plain c.eight.result.high.named c.eight.result.low c.eight.result.high.count in
    let any : c.is_any_of.result ≡ some b.scratch_bytes-bytes.result (has_mark byte) = c.is_any_of.ensures in
    any ∙ ap (λ (k : ℕ). some k (has_mark byte)) (bytes_told (goal.at.returns c).After-scratch_bytes-bytes)
    ∙ some_safe a.n a.entries.now.plain a.entries.now.named a.entries.now.count c.eight.result entries 0 0 held told
