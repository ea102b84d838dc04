-- `scan::entries::Entries::eight` meets its contract. The invariant: each list has the parts of the entries passed, and then zeros. Assumes nothing.
use mathlib.Core.Path.{◌≡◌, refl}
use mathlib.Core.List.{List}
use Prim.Native.Nat.{ℕ, min}
use native.Mathlib.Omega.{arith}
use Rattle.scan.specs.declared.eight.Eight.{Eight}
use Rattle.scan.specs.Set.{most_constraints}
use Rattle.scan.specs.way.Columns.{places_upto}
use Rattle.scan.specs.way.Eight.{high_part, low_part, eight_of}
use Rattle.scan.proofs.PlacesLaws.{places_none, places_more}
use Rattle.scan.proofs.entries.Entries.eight.Goals as goal

-- all entries are passed
done : (plain named : List ℕ) (count i : ℕ) (hp hn lo : List ℕ) → i ≡ min count most_constraints
    → hp ≡ places_upto (high_part plain) i → hn ≡ places_upto (high_part named) i → lo ≡ places_upto (low_part plain named) i
    → ◌≡◌ {A = Eight} (record { high = record { count = count; plain = hp; named = hn }; low = lo }) (eight_of plain named count)
unfolding eight_of
done plain named count i hp hn lo e a b c = cc

pub loop-i-init : goal.loop-i-init
loop-i-init c = (places_none _, places_none _, places_none _)

pub loop-i-preserved : goal.loop-i-preserved
loop-i-preserved c =
    let l = c.loop-i in
    let a = c.args in (
      places_more (high_part a.self.now.plain) l.i _ l.plain (omega arith) l.invariant.0 refl,
      places_more (high_part a.self.now.named) l.i _ l.named (omega arith) l.invariant.1 refl,
      places_more (low_part a.self.now.plain a.self.now.named) l.i c.low_true.result l.low (omega arith) l.invariant.2 c.low_true.ensures,
    )

pub returns : goal.returns
returns c =
    let l = c.loop-i in
    let a = c.args in
    done a.self.now.plain a.self.now.named a.self.now.count l.i l.plain l.named l.low (omega arith) l.invariant.0 l.invariant.1 l.invariant.2
