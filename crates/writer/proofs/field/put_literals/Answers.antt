-- `writer::field::put_literals` meets its contract. The loop's invariant: for some k the literals of the first k points are in place, and `left` has the
use mathlib.Core.Path.{◌≡◌, sym, subst}
use mathlib.Core.Bool.{true}
use mathlib.Core.List.{List}
use Prim.Native.Nat.{ℕ, ◌+◌, ◌-◌, ◌≤◌, ◌<◌}
use native.Mathlib.Omega.{arith}
use lib.Bits.{and_le_r}
use lib.Count.{count_trailing_zeros}
use lib.ListN.{length, get_or}
use Rattle.words.proofs.LoopTurns.{Grows, joined_grow}
use Rattle.words.specs.Loop.{joined}
use Rattle.words.specs.Word.{odd, bit}
use Rattle.words.proofs.BitLaws.{bit_below}
use Rattle.writer.specs.Write.{literal_bytes}
use Rattle.writer.specs.way.Write.{literal_at, Put}
use Rattle.writer.proofs.LowestBit.{Lowest, lowest, rest_all, rest_from, rest_here, rest_gap, rest_next, rest_none}
use Rattle.writer.proofs.LiteralBodyLaws.{literal_here, literals_skip}
use Rattle.writer.proofs.WriteLaws.{Puts, puts_none, puts_kept, puts_room, puts_one}
use Rattle.writer.proofs.field.put_literals.Goals as goal
use Rattle.writer.proofs.field.put_literals.Goals.{After-signed-own, In-loop-left, Start}

grow : (s : Start)
    → let a = s.args in Grows (λ j. joined j (literal_at a.wide a.flags a.plain a.named a.ranks.now)) (literal_at a.wide a.flags a.plain a.named a.ranks.now) (length a.ranks.now)
grow s = let a = s.args in joined_grow (literal_at a.wide a.flags a.plain a.named a.ranks.now) (length a.ranks.now)

-- the lowest point that is left
abbrev next_point : In-loop-left → ℕ
next_point c = count_trailing_zeros 32 c.loop-left.left

found : (c : In-loop-left) → Lowest c.loop-left.left (count_trailing_zeros 32 c.loop-left.left)
found c = let l = c.loop-left in lowest 32 l.left c.loop-left-test.true l.invariant.3

named_here : (c : In-loop-left) → bit (count_trailing_zeros 32 c.loop-left.left) c.args.named ≡ true
named_here c = let l = c.loop-left in rest_here c.args.named l.left l.invariant.0 (count_trailing_zeros 32 c.loop-left.left) l.invariant.2 (found c)

few : (c : In-loop-left) → next_point c < length c.args.ranks.now
few c = let s = c in bit_below (length s.args.ranks.now) (count_trailing_zeros 32 c.loop-left.left) s.args.named s.requires.2 (named_here c)

-- the literals before it are in place
reached : (c : In-loop-left) → let a = c.args in let l = c.loop-left in
    Puts (λ j. joined j (literal_at a.wide a.flags a.plain a.named a.ranks.now)) (length a.ranks.now) a.buf.now a.at l.buf l.next (count_trailing_zeros 32 c.loop-left.left)
reached c =
    let a = c.args in
    let l = c.loop-left in
    let k = l.invariant.0 in
    let t = next_point c in
    let r = l.invariant.2 in (
      omega (arith, few c),
      subst (λ (x : List ℕ). Put a.buf.now a.at x l.buf l.next)
          (literals_skip a.wide a.flags a.plain a.named a.ranks.now k t (rest_from a.named l.left k t r (found c)) (rest_gap a.named l.left k t r (found c))) l.invariant.1.1,
    )

-- its literal
literal : (c : After-signed-own) → let t = c in let a = t.args in
    bit (count_trailing_zeros 32 c.loop-left.left) a.named ≡ true → literal_at a.wide a.flags a.plain a.named a.ranks.now (count_trailing_zeros 32 c.loop-left.left) ≡ literal_bytes a.wide c.signed-own.result (count_trailing_zeros 32 c.loop-left.left) (get_or a.ranks.now (count_trailing_zeros 32 c.loop-left.left) 0)
unfolding bit odd
literal c h =
    let t = c in
    let a = t.args in
    literal_here a.wide a.flags a.plain a.named a.ranks.now (count_trailing_zeros 32 c.loop-left.left) c.signed-own.result h c.signed-own.ensures.0

pub loop-left-init : goal.loop-left-init
loop-left-init c =
    let s = c in
    let a = s.args in
    (0, puts_none (grow (goal.at.loop-left-init c).Start) a.buf.now a.at s.requires.3, rest_all a.named, omega arith)

pub overflow_cast-k : goal.overflow_cast-k
overflow_cast-k c = omega (arith, few (goal.at.overflow_cast-k c).In-loop-left, c.requires.1)

pub overflow_cast-k-in-loop-left : goal.overflow_cast-k-in-loop-left
overflow_cast-k-in-loop-left c = omega (arith, few (goal.at.overflow_cast-k-in-loop-left c).In-loop-left, c.requires.1)

pub overflow_shr-plain : goal.overflow_shr-plain
overflow_shr-plain c = omega (arith, few (goal.at.overflow_shr-plain c).In-loop-left, c.requires.1)

pub signed-own-requires : goal.signed-own-requires
signed-own-requires c = c.requires.0

pub overflow_cast-k-in-loop-left-2 : goal.overflow_cast-k-in-loop-left-2
overflow_cast-k-in-loop-left-2 c = omega (arith, few (goal.at.overflow_cast-k-in-loop-left-2 c).In-loop-left, c.requires.1)

pub bounds-ranks-k : goal.bounds-ranks-k
bounds-ranks-k c = few (goal.at.bounds-ranks-k c).In-loop-left

pub put_literal-next-requires : goal.put_literal-next-requires
put_literal-next-requires c =
    let g = c in
    let t = g in
    let l = t.loop-left in
    let s = t in
    let a = s.args in (
      omega (arith, few (goal.at.put_literal-next-requires c).In-loop-left, s.requires.1, g.signed-own.ensures.1),
      subst (λ (x : List ℕ). l.next + length x ≤ length l.buf) (literal (goal.at.put_literal-next-requires c).After-signed-own (named_here (goal.at.put_literal-next-requires c).In-loop-left))
          (puts_room (grow (goal.at.put_literal-next-requires c).Start) a.buf.now a.at s.requires.3 l.buf l.next (next_point (goal.at.put_literal-next-requires c).In-loop-left) (reached (goal.at.put_literal-next-requires c).In-loop-left) (few (goal.at.put_literal-next-requires c).In-loop-left)),
    )

pub overflow_sub-left : goal.overflow_sub-left
overflow_sub-left c = omega (arith, c.loop-left-test.true)

pub loop-left-smaller : goal.loop-left-smaller
loop-left-smaller c =
    let t = c in
    let left = t.loop-left.left in
    omega (arith, t.loop-left-test.true, and_le_r left (left - 1))

pub loop-left-preserved : goal.loop-left-preserved
loop-left-preserved c =
    let p = c in
    let g = p in
    let t = g in
    let l = t.loop-left in
    let s = t in
    let a = s.args in (
      next_point (goal.at.loop-left-preserved c).In-loop-left + 1,
      puts_one (grow (goal.at.loop-left-preserved c).Start) a.buf.now a.at s.requires.3 l.buf l.next (next_point (goal.at.loop-left-preserved c).In-loop-left) _ _ (reached (goal.at.loop-left-preserved c).In-loop-left) (few (goal.at.loop-left-preserved c).In-loop-left)
          (subst (λ (x : List ℕ). Put l.buf l.next x p.put_literal-next.new.buf p.put_literal-next.result) (sym (literal (goal.at.loop-left-preserved c).After-signed-own (named_here (goal.at.loop-left-preserved c).In-loop-left))) p.put_literal-next.ensures),
      rest_next a.named l.left l.invariant.0 (next_point (goal.at.loop-left-preserved c).In-loop-left) l.invariant.2 (found (goal.at.loop-left-preserved c).In-loop-left),
      omega (arith, l.invariant.3, and_le_r l.left (l.left - 1)),
    )

pub shape_of-buf : goal.shape_of-buf
shape_of-buf c =
    let s = c in
    let a = s.args in
    let l = c.loop-left in
    puts_kept (grow (goal.at.shape_of-buf c).Start) a.buf.now a.at s.requires.3 l.buf l.next l.invariant.0 l.invariant.1

pub returns : goal.returns
returns c =
    let s = c in
    let a = s.args in
    let l = c.loop-left in
    let k = l.invariant.0 in
    subst (λ (x : List ℕ). Put a.buf.now a.at x l.buf l.next)
    (literals_skip a.wide a.flags a.plain a.named a.ranks.now k (length a.ranks.now) l.invariant.1.0
    (λ j h below. rest_none a.named l.left k l.invariant.2 c.loop-left-test.false j h)) l.invariant.1.1
