-- Judging and walking by the active constraints of a read word: what the mask says bit by bit, and document 01's answers.
-- Assumes nothing.
use mathlib.Core.Path.{◌≡◌, sym, ◌∙◌}
use mathlib.Core.Bool.{true}
use mathlib.Core.Logic.{◌↔◌}
use Prim.Native.Nat.{ℕ, ◌<◌}
use Rattle.words.proofs.BitLaws.{bit_below}
use Rattle.scan.specs.declared.set.Set.{Set}
use Rattle.scan.specs.Set.{constraint}
use Rattle.scan.specs.Shape.{well_formed}
use Rattle.scan.specs.Active.{active_of}
use Rattle.scan.specs.way.Table.{table_of}
use Rattle.scan.proofs.ShapeLaws.{masks}
use Rattle.scan.proofs.ActiveLaws.{active_bit, active_lt, active_is}
use Rattle.scan.proofs.TableLaws.{table_holds, table_safe, table_walk, same_safe, same_walk}
use Rattle.promise.specs.Terms.{Bit, ReadsTrue}
use Rattle.promise.specs.OneWord.{ByActive}
use Rattle.promise.proofs.Bits.{bit_set, set_bit}
use Rattle.promise.proofs.ConstraintMeanings.{reads_iff}
use Rattle.promise.proofs.Clashes.{answer_right}

module _ (s : Set) (ok : well_formed s ≡ true) (w : ℕ) where
  mask_iff : (i : ℕ) → Bit i (active_of s w) ↔ ((i < s.m) × ReadsTrue (constraint s i) w)
  mask_iff i = (there, back)
    where
      there : Bit i (active_of s w) → (i < s.m) × ReadsTrue (constraint s i) w
      there b =
          let e = set_bit i (active_of s w) b in
          let h = bit_below s.m i (active_of s w) (active_lt s w) e in
          (h, (reads_iff s.r s.n (constraint s i) (masks s ok i h) w).0 (sym (active_bit s w i h) ∙ e))

      back : (i < s.m) × ReadsTrue (constraint s i) w → Bit i (active_of s w)
      back p = bit_set i (active_of s w) (active_bit s w i p.0 ∙ (reads_iff s.r s.n (constraint s i) (masks s ok i p.0) w).1 p.1)

  pub by_active : ByActive s w
  by_active = record {
    mask = mask_iff;
    made = active_is s ok w;
    holds = answer_right s ok w (table_of s (active_of s w)).holds (table_holds s w ok);
    judges = table_safe s w ok;
    walks = table_walk s w ok;
    alike = λ u e v. (same_safe s ok u w e v, same_walk s ok u w e v);
  }
