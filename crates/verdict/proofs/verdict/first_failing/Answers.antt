-- `verdict::verdict::first_failing` meets its contract. The invariants: no word passed fails, every mask kept is one of good words, and what is kept of the block is
use mathlib.Core.Path.{◌≡◌, refl, sym, ap, ◌∙◌}
use mathlib.Core.Bool.{true, false, not}
use mathlib.Core.List.{List}
use Prim.Native.Nat.{ℕ, ◌+◌, ◌^◌, ◌≤◌, ◌<◌}
use lib.Pow.{pow_mono}
use native.Mathlib.Omega.{arith}
use lib.Bits.{bit_and}
use borrow.Author.Tests.{not-true, not-false}
use Rattle.words.specs.Word.{without}
use Rattle.words.specs.Loop.{some}
use Rattle.words.proofs.LoopLaws.{some_false_at}
use Rattle.words.proofs.ShiftLaws.{one_shl}
use Rattle.words.proofs.LoopTurns.{some_none, some_miss}
use Rattle.scan.specs.declared.columns.Columns.{Columns}
use Rattle.scan.specs.declared.set.Set.{Set}
use Rattle.scan.specs.declared.table.Table.{Table}
use Rattle.scan.specs.Set.{most_reads, most_outputs}
use Rattle.scan.specs.Shape.{well_formed}
use Rattle.scan.specs.Constraint.{has_vector}
use Rattle.scan.specs.Active.{active_of}
use Rattle.scan.specs.way.Columns.{columns_of}
use Rattle.scan.specs.way.Block.{active_high, lows_of, high_at, active_in}
use Rattle.scan.specs.way.Holds.{holds_by}
use Rattle.scan.specs.way.Table.{table_by, table_of}
use Rattle.scan.proofs.ShapeLaws.{counts}
use Rattle.scan.proofs.BlockLaws.{high_first, high_next, made_in_block}
use Rattle.scan.proofs.TableLaws.{made_table}
use Rattle.verdict.specs.Judge.{endless}
use Rattle.verdict.specs.FirstFailing.{fails}
use Rattle.verdict.proofs.FirstFailingLaws.{failing_accepted, failing_no_vector, failing_no_end, passes}
use Rattle.verdict.proofs.WordMarks.{Ready, clash_none, clash_told, marked_safe, settled_request}
use Rattle.verdict.proofs.SeenLaws.{known_hit, known_more, fails_alike}
use Rattle.verdict.proofs.verdict.first_failing.Goals as goal
use Rattle.verdict.proofs.verdict.first_failing.Goals.{After-active_in-active, After-mark_safe, After-settle, After-table-t, Start}

few : (c : Start) → (c.args.set.now.r ≤ most_reads) × (c.args.set.now.n ≤ most_outputs)
few c = let n = counts c.args.set.now c.requires.0 in (n.r_le, n.n_le)

-- ---- a word, its active constraints, its table, its marks

-- what the code makes of the literals, of what it keeps of the block and of the word is the mask of the word's active constraints
active_told : (s : Set) → well_formed s ≡ true → (l : Columns) → l ≡ columns_of s → (lows : List ℕ) → lows ≡ lows_of l.read_plain l.read_named l.m
    → (w kept high : ℕ) → high_at l.read_plain l.read_named l.m w kept ≡ active_high l.read_plain l.read_named l.m w → high ≡ high_at l.read_plain l.read_named l.m w kept
    → (active : ℕ) → active ≡ active_in lows high w → active ≡ active_of s w
active_told s formed l el lows elows w kept high inv eh active ea = made_in_block s formed w l el lows elows high (eh ∙ inv) active ea

-- and what it makes of the mask is the word's table
table_told : (s : Set) (l : Columns) → l ≡ columns_of s → (w active : ℕ) → active ≡ active_of s w
    → (t : Table) → t ≡ table_by s (holds_by l.out_plain l.out_negated l.m (bit_and active l.simple)) (without active l.simple) → t ≡ table_of s (active_of s w)
table_told s l el w active ea t et = made_table s l el active t et ∙ ap (table_of s) ea

-- the word whose active constraints were looked up
module _ (c : After-active_in-active) where
  told : c.active_in-active.result ≡ active_of c.args.set.now c.words.w
  told =
      active_told c.args.set.now c.requires.0 c.columns_of-by.result c.columns_of-by.ensures c.lows-lows.result.of c.lows-lows.ensures
      c.words.w c.words.high c.high_at-high.result c.words.invariant.5 c.high_at-high.ensures c.active_in-active.result c.active_in-active.ensures

  goes_on : high_at c.columns_of-by.result.read_plain c.columns_of-by.result.read_named c.columns_of-by.result.m (c.words.w + 1) c.high_at-high.result
      ≡ active_high c.columns_of-by.result.read_plain c.columns_of-by.result.read_named c.columns_of-by.result.m (c.words.w + 1)
  goes_on = high_next c.columns_of-by.result.read_plain c.columns_of-by.result.read_named c.columns_of-by.result.m c.words.w c.high_at-high.result (c.high_at-high.ensures ∙ c.words.invariant.5)

  within : c.words.w < 2 ^ c.args.set.now.r
  within = omega (arith, c.words.invariant.0, c.words-test.true)

  -- no word before this one fails
  before : (u : ℕ) → u < c.words.w → fails c.args.set.now u ≡ false
  before = some_false_at c.words.w (fails c.args.set.now) c.words.invariant.6

-- the word whose table was made
module _ (c : After-table-t) where
  table : c.table-t.result ≡ table_of c.args.set.now (active_of c.args.set.now c.words.w)
  table =
      table_told c.args.set.now c.columns_of-by.result c.columns_of-by.ensures c.words.w c.active_in-active.result
      (active_told c.args.set.now c.requires.0 c.columns_of-by.result c.columns_of-by.ensures c.lows-lows.result.of c.lows-lows.ensures
      c.words.w c.words.high c.high_at-high.result c.words.invariant.5 c.high_at-high.ensures c.active_in-active.result c.active_in-active.ensures)
      c.table-t.result c.table-t.ensures

-- the word at which the safe vectors were marked: whether there is one, and that the marks are right
module _ (c : After-mark_safe) (table : c.table-t.result ≡ table_of c.args.set.now (active_of c.args.set.now c.words.w)) where
  marked : (c.mark_safe.result ≡ has_vector c.args.set.now c.words.w) × Ready c.args.set.now c.words.w c.mark_safe.new.marks
  marked =
      marked_safe c.args.set.now c.requires.0 c.words.w c.table-t.result table c.in-Forced.f0 c.in-Forced.f1 c.in-Forced.is
      c.mark_safe.result c.mark_safe.new.marks c.mark_safe.ensures.value c.mark_safe.ensures.marks_after

-- the request at which a walk was settled: whether it is endless, and that the marks stay right
module _ (c : After-settle) (table : c.table-t.result ≡ table_of c.args.set.now (active_of c.args.set.now c.words.w)) where
  fits : c.loop-g.g < 2 ^ c.args.set.now.n
  fits = omega (arith, c.words.invariant.1, c.loop-g-test.true)

  ended : (c.settle.result ≡ not (endless c.args.set.now c.words.w c.loop-g.g)) × Ready c.args.set.now c.words.w c.settle.new.marks
  ended =
      settled_request c.args.set.now c.requires.0 c.words.w c.table-t.result table c.in-Forced.f0 c.in-Forced.f1 c.in-Forced.is
      c.loop-g.marks c.loop-g.invariant.1 c.loop-g.g fits c.start_vector.result c.start_vector.ensures
      c.settle.result _ c.settle.ensures.value c.settle.ensures.marks_after

pub overflow_cast-words : goal.overflow_cast-words
overflow_cast-words c = omega (arith, few (goal.at.overflow_cast-words c).Start)

pub overflow_shl-words : goal.overflow_shl-words
overflow_shl-words c = omega (arith, few (goal.at.overflow_shl-words c).Start)

pub overflow_cast-set : goal.overflow_cast-set
overflow_cast-set c = omega (arith, few (goal.at.overflow_cast-set c).Start)

pub pow-requests-requires : goal.pow-requests-requires
pow-requests-requires c = let f = few (goal.at.pow-requests-requires c).Start in omega (arith, pow_mono {i = c.args.set.now.n} {j = most_outputs} f.1)

pub words-init : goal.words-init
words-init c =
    let l = c.columns_of-by.result in (
      one_shl 32 c.args.set.now.r (omega (arith, (few (goal.at.words-init c).Start).0)),
      c.pow-requests.ensures,
      refl,
      c.requires.1,
      c.requires.2,
      high_first l.read_plain l.read_named l.m 0,
      some_none _,
      c.requires.3,
    )

pub words-preserved-then-is_seen : goal.words-preserved-then-is_seen
words-preserved-then-is_seen c =
    let s = c.args.set.now in
    let o = c.words in
    let a = (goal.at.words-preserved-then-is_seen c).After-active_in-active in (
      o.invariant.0,
      o.invariant.1,
      o.invariant.2,
      o.invariant.3,
      o.invariant.4,
      goes_on a,
      some_miss _ o.w o.invariant.6 (known_hit s (fails s) o.seen o.invariant.7 o.w c.active_in-active.result (told a) (sym c.is_seen.ensures ∙ c.if-is_seen.true)),
      o.invariant.7,
    )

pub mark_safe-requires : goal.mark_safe-requires
mark_safe-requires c = ((few (goal.at.mark_safe-requires c).Start).1, c.words.invariant.3)

pub loop-g-init : goal.loop-g-init
loop-g-init c = (c.words.invariant.2, (marked (goal.at.loop-g-init c).After-mark_safe (table (goal.at.loop-g-init c).After-table-t)).1, c.words.invariant.4, some_none _)

pub loop-g-preserved : goal.loop-g-preserved
loop-g-preserved c =
    let end = ended (goal.at.loop-g-preserved c).After-settle (table (goal.at.loop-g-preserved c).After-table-t) in
    (c.loop-g.invariant.0, end.1, c.settle.ensures.trail_len, some_miss _ c.loop-g.g c.loop-g.invariant.3 (not-true _ (sym end.0 ∙ c.if-not-settle.false)))

pub words-preserved : goal.words-preserved
words-preserved c =
    let s = c.args.set.now in
    let o = c.words in
    let a = (goal.at.words-preserved c).After-active_in-active in
    let all : c.loop-g.g ≡ 2 ^ s.n = omega (arith, o.invariant.1, c.loop-g-test.false) in
    let good : fails s o.w ≡ false = passes s o.w (sym (marked (goal.at.words-preserved c).After-mark_safe (table (goal.at.words-preserved c).After-table-t)).0 ∙ c.if-not-mark_safe.false)
    (some_false_at (2 ^ s.n) (endless s o.w) (ap (λ (j : ℕ). some j (endless s o.w)) (sym all) ∙ c.loop-g.invariant.3)) in (
      o.invariant.0,
      o.invariant.1,
      c.loop-g.invariant.0,
      c.loop-g.invariant.1.long,
      c.loop-g.invariant.2,
      goes_on a,
      some_miss _ o.w o.invariant.6 good,
      known_more s (fails s) (fails_alike s c.requires.0) o.seen o.invariant.7 o.w c.active_in-active.result (told a) good _ c.keep_seen.ensures,
    )

pub returns-after-words-clause-value : goal.returns-after-words-clause-value
returns-after-words-clause-value c =
    let s = c.args.set.now in
    let o = c.words in
    let all : o.w ≡ 2 ^ s.r = omega (arith, o.invariant.0, c.words-test.false) in
    o.invariant.2 ∙ sym (failing_accepted s (some_false_at (2 ^ s.r) (fails s) (ap (λ (k : ℕ). some k (fails s)) (sym all) ∙ o.invariant.6)))

pub returns-in-Clash-clause-value : goal.returns-in-Clash-clause-value
returns-in-Clash-clause-value c =
    let s = c.args.set.now in
    let a = (goal.at.returns-in-Clash-clause-value c).After-active_in-active in
    let t = table (goal.at.returns-in-Clash-clause-value c).After-table-t in
    clash_told s c.requires.0 c.words.w c.table-t.result t c.in-Clash.output c.in-Clash.is
    ∙ sym (failing_no_vector s c.words.w (within a) (before a)
    (clash_none s c.requires.0 c.words.w c.table-t.result t c.in-Clash.output c.in-Clash.is))

pub returns-then-not-mark_safe-clause-value : goal.returns-then-not-mark_safe-clause-value
returns-then-not-mark_safe-clause-value c =
    let s = c.args.set.now in
    let a = (goal.at.returns-then-not-mark_safe-clause-value c).After-active_in-active in
    c.none_at-found.ensures
    ∙ sym (failing_no_vector s c.words.w (within a) (before a) (sym (marked (goal.at.returns-then-not-mark_safe-clause-value c).After-mark_safe (table (goal.at.returns-then-not-mark_safe-clause-value c).After-table-t)).0 ∙ c.if-not-mark_safe.true))

pub returns-then-not-settle-clause-value : goal.returns-then-not-settle-clause-value
returns-then-not-settle-clause-value c =
    let s = c.args.set.now in
    let a = (goal.at.returns-then-not-settle-clause-value c).After-active_in-active in
    let q = (goal.at.returns-then-not-settle-clause-value c).After-settle in
    let t = table (goal.at.returns-then-not-settle-clause-value c).After-table-t in
    sym (failing_no_end s c.words.w c.loop-g.g (within a) (before a)
    (sym (marked (goal.at.returns-then-not-settle-clause-value c).After-mark_safe (table (goal.at.returns-then-not-settle-clause-value c).After-table-t)).0 ∙ c.if-not-mark_safe.false) (fits q t)
    (some_false_at c.loop-g.g (endless s c.words.w) c.loop-g.invariant.3) (not-false _ (sym (ended q t).0 ∙ c.if-not-settle.true)))
