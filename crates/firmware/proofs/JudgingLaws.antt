-- The laws of specs/Judging: what is put together step by step is what the definitions say.
-- Assumes nothing.
use mathlib.Core.Path.{◌≡◌, refl, sym, ap, ◌∙◌, subst}
use mathlib.Core.List.{List}
use Prim.Native.Nat.{ℕ}
use lib.ListN.{get_or, drop}
use Rattle.loader.specs.declared.loader.Loaded.{Loaded}
use Rattle.loader.specs.Load.{load_of}
use Rattle.verdict.specs.declared.verdict.Verdict.{Verdict}
use Rattle.verdict.specs.declared.verdict.Verdict.TheVariants.{Accepted, BadSet, ShortScratch, NoVector, Clash, NoEnd}
use Rattle.verdict.specs.Judge.{judge_of, loose_bytes}
use Rattle.verdict.specs.Told.{verdict_told}
use Rattle.firmware.specs.declared.judging.VerdictResult.{VerdictResult}
use Rattle.firmware.specs.Past.{set_in}
use Rattle.firmware.specs.Judging.{verdict_result, judge_file}

-- a verdict's number, with the values of the verdict that it is
pub verdict_of : (v u : Verdict) (number : ℕ) → number ≡ get_or (verdict_told v) 0 0 → v ≡ u
    → record { number = number; output = (verdict_result (verdict_told u)).output; request = (verdict_result (verdict_told u)).request; word = (verdict_result (verdict_told u)).word }
    ≡ verdict_result (verdict_told v)
verdict_of v u number e h =
    λ i. record {
      number = e i;
      output = (verdict_result (verdict_told (sym h i))).output;
      request = (verdict_result (verdict_told (sym h i))).request;
      word = (verdict_result (verdict_told (sym h i))).word;
    }

-- acceptance, 20 and 21 have no values
pub verdict_bare : (v : Verdict) (number : ℕ) → number ≡ get_or (verdict_told v) 0 0 → ((w : ℕ) → v ≡ NoVector w → ⊥) → ((w k : ℕ) → v ≡ Clash w k → ⊥) → ((w g : ℕ) → v ≡ NoEnd w g → ⊥)
    → record { number = number; output = 0; request = 0; word = 0 } ≡ verdict_result (verdict_told v)
verdict_bare Accepted number e f g h = verdict_of Accepted Accepted number e refl
verdict_bare BadSet number e f g h = verdict_of BadSet BadSet number e refl
verdict_bare ShortScratch number e f g h = verdict_of ShortScratch ShortScratch number e refl
verdict_bare (NoVector w) number e f g h = absurd (f w refl)
verdict_bare (Clash w k) number e f g h = absurd (g w k refl)
verdict_bare (NoEnd w r) number e f g h = absurd (h w r refl)

-- what is said by the set that was loaded is said by the file's
module _ (file : List ℕ) (l : Loaded) (e : l ≡ load_of file) where
  pub judge_crosses : (room : ℕ) (v : Verdict) (x : VerdictResult) → v ≡ judge_of l.set room → x ≡ verdict_result (verdict_told v) → x ≡ judge_file file room
  unfolding judge_file
  judge_crosses room v x ev q =
      q ∙ ap (λ (a : Verdict). verdict_result (verdict_told a)) ev ∙ ap (λ (a : Loaded). verdict_result (verdict_told (judge_of a.set room))) e

  pub scratch_crosses : (room : ℕ) (before after : List ℕ) → drop (loose_bytes l.set room) after ≡ drop (loose_bytes l.set room) before
      → drop (loose_bytes (set_in file) room) after ≡ drop (loose_bytes (set_in file) room) before
  scratch_crosses room before after q = subst (λ (a : Loaded). drop (loose_bytes a.set room) after ≡ drop (loose_bytes a.set room) before) e q
