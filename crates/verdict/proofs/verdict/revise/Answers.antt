-- `verdict::verdict::revise` meets its contract: an endless walk gives way or stays by what the search tells, and any other answer stays. Assumes nothing.
use mathlib.Core.Path.{◌≡◌, sym, ◌∙◌}
use mathlib.Core.Bool.{true}
use Prim.Native.Nat.{ℕ, ◌*◌, ◌%◌, ◌^◌, ◌≤◌, ◌<◌}
use native.Mathlib.Omega.{arith}
use lib.Pow.{pow_mono}
use Rattle.words.proofs.ShiftLaws.{one_shl}
use Rattle.scan.specs.Set.{most_reads}
use Rattle.scan.specs.Shape.{well_formed}
use Rattle.scan.specs.declared.set.Set.{Set}
use Rattle.scan.proofs.ShapeLaws.{counts}
use Rattle.verdict.specs.declared.verdict.Verdict.TheVariants.{NoEnd}
use Rattle.verdict.specs.Judge.{none_at}
use Rattle.verdict.specs.FirstFailing.{first_failing}
use Rattle.verdict.proofs.MeaningLaws.{judge_without}
use Rattle.verdict.proofs.FailingStays.{found_stays, found_within, none_up_to, stays_endless}
use Rattle.verdict.proofs.verdict.revise.Goals as goal
use Rattle.verdict.proofs.verdict.revise.Goals.{In-NoEnd}

-- ---- an endless walk was found

module _ (f : In-NoEnd) where
  abbrev set : Set
  set = f.args.set.now

  formed : well_formed set ≡ true
  formed = f.requires.0

  abbrev word : ℕ
  word = f.in-NoEnd.word

  abbrev request : ℕ
  request = f.in-NoEnd.request

  found : NoEnd word request ≡ first_failing set
  found = sym f.in-NoEnd.is ∙ f.requires.1

  few : set.r ≤ most_reads
  few = (counts set formed).r_le

  within : word < 2 ^ set.r
  within = found_within set formed word request found

-- the words are 2 ^ r
words_is : (f : In-NoEnd) → (1 * 2 ^ (set f).r) % 2 ^ 32 ≡ 2 ^ (set f).r
words_is f = one_shl 32 (set f).r (omega (arith, few f))

pub overflow_add-word : goal.overflow_add-word
overflow_add-word c = omega (arith, within (goal.at.overflow_add-word c).In-NoEnd, pow_mono {i = (set (goal.at.overflow_add-word c).In-NoEnd).r} {j = most_reads} (few (goal.at.overflow_add-word c).In-NoEnd))

pub first_without-without-requires : goal.first_without-without-requires
first_without-without-requires c =
    let f = c in
    (formed (goal.at.first_without-without-requires c).In-NoEnd, none_up_to (set (goal.at.first_without-without-requires c).In-NoEnd) (formed (goal.at.first_without-without-requires c).In-NoEnd) (word (goal.at.first_without-without-requires c).In-NoEnd) (request (goal.at.first_without-without-requires c).In-NoEnd) (found (goal.at.first_without-without-requires c).In-NoEnd), omega (arith, within (goal.at.first_without-without-requires c).In-NoEnd), f.requires.2)

pub overflow_cast-set : goal.overflow_cast-set
overflow_cast-set c = omega (arith, few (goal.at.overflow_cast-set c).In-NoEnd)

pub overflow_shl-set : goal.overflow_shl-set
overflow_shl-set c = omega (arith, few (goal.at.overflow_shl-set c).In-NoEnd)

pub none_at-requires : goal.none_at-requires
none_at-requires c = formed (goal.at.none_at-requires c).In-NoEnd

pub returns-then-without-set : goal.returns-then-without-set
returns-then-without-set c =
    let t = c in
    let w = t in
    let f = w in
    let told : c.none_at.result ≡ none_at (set (goal.at.returns-then-without-set c).In-NoEnd) w.first_without-without.result = c.none_at.ensures in
    told ∙ sym (judge_without (set (goal.at.returns-then-without-set c).In-NoEnd) w.first_without-without.result w.first_without-without.ensures (omega (arith, words_is (goal.at.returns-then-without-set c).In-NoEnd, t.if-without-set.true)))

pub returns-else-without-set : goal.returns-else-without-set
returns-else-without-set c =
    let w = c in
    let f = w in
    stays_endless (set (goal.at.returns-else-without-set c).In-NoEnd) (formed (goal.at.returns-else-without-set c).In-NoEnd) (word (goal.at.returns-else-without-set c).In-NoEnd) (request (goal.at.returns-else-without-set c).In-NoEnd) (found (goal.at.returns-else-without-set c).In-NoEnd) w.first_without-without.result w.first_without-without.ensures (omega (arith, words_is (goal.at.returns-else-without-set c).In-NoEnd, c.if-without-set.false))

pub returns-in_default : goal.returns-in_default
returns-in_default c =
    let s = c in
    found_stays s.args.set.now s.requires.0 s.args.found s.requires.1 c.in_default.not-NoEnd
