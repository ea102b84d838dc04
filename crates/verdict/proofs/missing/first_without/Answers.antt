-- `verdict::missing::first_without` meets its contract. The invariant: no word passed is without a safe vector, every mask kept is one of words with one,
use mathlib.Core.Path.{◌≡◌, sym, ap, ◌∙◌, subst, fun_ext}
use mathlib.Core.Bool.{Bool, true, false, not}
use Prim.Native.Nat.{ℕ, ◌^◌, ◌≤◌}
use native.Mathlib.Omega.{arith}
use Rattle.words.specs.Loop.{some}
use Rattle.words.proofs.LoopLaws.{some_false_at, first_is, first_none}
use Rattle.words.proofs.ShiftLaws.{one_shl}
use Rattle.words.proofs.LoopTurns.{some_miss}
use Rattle.scan.specs.declared.set.Set.{Set}
use Rattle.scan.specs.Set.{most_reads}
use Rattle.scan.specs.Shape.{well_formed}
use Rattle.scan.specs.Active.{active_of}
use Rattle.scan.specs.declared.columns.Columns.{Columns}
use Rattle.scan.specs.declared.entries.Entries.{Entries}
use Rattle.scan.specs.Constraint.{has_vector}
use Rattle.scan.specs.way.Columns.{columns_of}
use Rattle.scan.specs.way.Block.{active_high, high_at}
use Rattle.scan.specs.way.Table.{safe_over}
use Rattle.scan.specs.way.Entries.{entries_by}
use Rattle.scan.proofs.ShapeLaws.{counts}
use Rattle.scan.proofs.BlockLaws.{high_here, high_next, made_in_block}
use Rattle.scan.proofs.EntriesLaws.{made_entries}
use Rattle.verdict.specs.Judge.{lacks}
use Rattle.verdict.specs.way.Seen.{Known}
use Rattle.verdict.proofs.SeenLaws.{known_hit, known_more, lacks_alike}
use Rattle.verdict.proofs.missing.first_without.Goals as goal
use Rattle.verdict.proofs.missing.first_without.Goals.{Start, Joined-not-is_seen, After-is_seen, then-not-is_seen+else-not-is_any_safe, else-not-is_seen}

few : (c : Start) → c.args.set.now.r ≤ most_reads
few c = (counts c.args.set.now c.requires.0).r_le

-- looking through the vectors of a word by its entries tells whether it has a safe one
module _ (s : Set) (formed : well_formed s ≡ true) (w : ℕ) (l : Columns) (el : l ≡ columns_of s) (active : ℕ) (ea : active ≡ active_of s w) where
  lacks_told : (e : Entries) → e ≡ entries_by l.out_plain l.out_negated l.m active → (any : Bool) → any ≡ some (2 ^ s.n) (safe_over 0 0 e.plain e.named e.count)
      → not any ≡ lacks s w
  unfolding lacks has_vector
  lacks_told e ee any em = ap not (em ∙ ap (some (2 ^ s.n)) (fun_ext (made_entries s formed w l el active ea e ee)))

-- the word whose mask was looked for
module _ (c : After-is_seen) where
  -- what is kept of the block is right at the word
  high_told : c.high_at-high.result ≡ active_high c.columns_of-by.result.read_plain c.columns_of-by.result.read_named c.columns_of-by.result.m c.loop-w.w
  high_told = c.high_at-high.ensures ∙ c.loop-w.invariant.3

  active_told : c.active_in-active.result ≡ active_of c.args.set.now c.loop-w.w
  active_told =
      made_in_block c.args.set.now c.requires.0 c.loop-w.w c.columns_of-by.result c.columns_of-by.ensures c.lows-lows.result.of c.lows-lows.ensures
      c.high_at-high.result high_told c.active_in-active.result c.active_in-active.ensures

-- a word that is passed has a safe vector, by its mask or by a look through its vectors
passed : (c : Joined-not-is_seen) → (lacks c.args.set.now c.loop-w.w ≡ false) × Known c.args.set.now (lacks c.args.set.now) c.if-not-is_seen.seen
passed c =
    let s = c.args.set.now in
    let told = active_told c.before in
    elim c.if-not-is_seen.branch [
      | then-not-is_seen+else-not-is_any_safe w ↦
          let has = sym (lacks_told s c.requires.0 c.loop-w.w c.columns_of-by.result c.columns_of-by.ensures c.active_in-active.result told w.enter.result w.enter.ensures w.is_any_safe.result w.is_any_safe.ensures)
          ∙ ap not w.if-not-is_any_safe.false in
          (has, known_more s (lacks s) (lacks_alike s c.requires.0) c.loop-w.seen c.loop-w.invariant.2 c.loop-w.w c.active_in-active.result told has _ (w.seen-is ∙ w.keep_seen.ensures))
      | else-not-is_seen w ↦ (
        known_hit s (lacks s) c.loop-w.seen c.loop-w.invariant.2 c.loop-w.w c.active_in-active.result told (sym c.is_seen.ensures ∙ w.if-not-is_seen.false),
        subst (Known s (lacks s)) (sym w.seen-is) c.loop-w.invariant.2,
      )
    ]

pub overflow_cast-words : goal.overflow_cast-words
overflow_cast-words c = omega (arith, few (goal.at.overflow_cast-words c).Start)

pub overflow_shl-words : goal.overflow_shl-words
overflow_shl-words c = omega (arith, few (goal.at.overflow_shl-words c).Start)

pub loop-w-init : goal.loop-w-init
loop-w-init c =
    let a = c.args in
    let l = c.columns_of-by.result in
    let words = one_shl 32 a.set.now.r (omega (arith, few (goal.at.loop-w-init c).Start)) in (
      words,
      c.requires.1,
      c.requires.3,
      ap (high_at l.read_plain l.read_named l.m a.from) c.active_high-high.ensures ∙ high_here l.read_plain l.read_named l.m a.from,
    )

pub is_any_safe-requires : goal.is_any_safe-requires
is_any_safe-requires c = (counts c.args.set.now c.requires.0).n_le

pub returns-then-not-is_any_safe : goal.returns-then-not-is_any_safe
returns-then-not-is_any_safe c =
    let s = c.args.set.now in
    let l = c.loop-w in
    sym (first_is (2 ^ s.r) l.w (lacks s) (omega (arith, l.invariant.0, c.loop-w-test.true))
    (sym (lacks_told s c.requires.0 l.w c.columns_of-by.result c.columns_of-by.ensures c.active_in-active.result (active_told (goal.at.returns-then-not-is_any_safe c).After-is_seen)
    c.enter.result c.enter.ensures c.is_any_safe.result c.is_any_safe.ensures) ∙ ap not c.if-not-is_any_safe.true)
    (some_false_at l.w (lacks s) l.invariant.1))

pub loop-w-preserved : goal.loop-w-preserved
loop-w-preserved c =
    let l = c.columns_of-by.result in
    let went = passed (goal.at.loop-w-preserved c).Joined-not-is_seen in (
      c.loop-w.invariant.0,
      some_miss _ c.loop-w.w c.loop-w.invariant.1 went.0,
      went.1,
      high_next l.read_plain l.read_named l.m c.loop-w.w c.high_at-high.result (high_told (goal.at.loop-w-preserved c).After-is_seen),
    )

pub returns : goal.returns
returns c =
    let s = c.args.set.now in
    let l = c.loop-w in
    let all : l.w ≡ 2 ^ s.r = omega (arith, l.invariant.0, c.requires.2, c.loop-w-test.false) in
    l.invariant.0 ∙ sym (first_none (2 ^ s.r) (lacks s) (λ u h. some_false_at l.w (lacks s) l.invariant.1 u (omega (arith, all))))
