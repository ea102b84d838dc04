-- `scan::columns::columns_of` meets its contract. The invariant: each list has the literals of the constraints passed, and then zeros. Assumes nothing.
use mathlib.Core.Path.{◌≡◌, refl}
use mathlib.Core.List.{List}
use Prim.Native.Nat.{ℕ}
use native.Mathlib.Omega.{arith}
use Rattle.words.specs.Loop.{word}
use Rattle.words.proofs.LoopTurns.{word_none, word_turn}
use Rattle.scan.specs.declared.set.Set.{Set}
use Rattle.scan.specs.declared.columns.Columns.{Columns}
use Rattle.scan.specs.Set.{constraint}
use Rattle.scan.specs.way.Columns.{counted, of_each, column_upto, reads_named, simple_at, columns_of}
use Rattle.scan.proofs.PlacesLaws.{places_none, places_more}
use Rattle.scan.proofs.columns.columns_of.Goals as goal

-- all constraints are passed
done : (s : Set) (i : ℕ) (rp rn op on : List ℕ) (simple : ℕ) → i ≡ counted s
    → rp ≡ column_upto s (λ c. c.read_plain) i → rn ≡ column_upto s reads_named i → op ≡ column_upto s (λ c. c.out_plain) i
    → on ≡ column_upto s (λ c. c.out_negated) i → simple ≡ word i (simple_at s)
    → ◌≡◌ {A = Columns} (record { m = s.m; read_plain = rp; read_named = rn; out_plain = op; out_negated = on; simple = simple }) (columns_of s)
unfolding columns_of
done s i rp rn op on simple e a b c d m = cc

pub loop-i-init : goal.loop-i-init
unfolding column_upto
loop-i-init c =
    (places_none _, places_none _, places_none _, places_none _, word_none _)

pub loop-i-preserved : goal.loop-i-preserved
unfolding column_upto simple_at constraint
loop-i-preserved c =
    let q = c in
    let l = q.loop-i in
    let s = q.args.set.now in (
      places_more (of_each s (λ c. c.read_plain)) l.i _ l.read_plain (omega arith) l.invariant.0 refl,
      places_more (of_each s reads_named) l.i _ l.read_named (omega arith) l.invariant.1 refl,
      places_more (of_each s (λ c. c.out_plain)) l.i _ l.out_plain (omega arith) l.invariant.2 refl,
      places_more (of_each s (λ c. c.out_negated)) l.i _ l.out_negated (omega arith) l.invariant.3 refl,
      word_turn (simple_at s) 64 l.i l.simple c.pick-simple.result q.is_simple.result (omega arith) l.invariant.4 q.is_simple.ensures
          c.pick-simple.ensures,
    )

pub returns : goal.returns
returns c =
    let l = c.loop-i in
    done c.args.set.now l.i l.read_plain l.read_named l.out_plain l.out_negated l.simple (omega arith)
    l.invariant.0 l.invariant.1 l.invariant.2 l.invariant.3 l.invariant.4
