-- The name that bytes spell, by the way that the code's tests went.
-- Assumes nothing.
use mathlib.Core.Path.{◌≡◌, sym, ap}
use mathlib.Core.List.{List}
use mathlib.Core.Bool.{Bool, true, false, ◌&&◌}
use Prim.Native.Nat.{ℕ, ◌≤◌}
use lib.Dec.{leb}
use lib.ListN.{length}
use borrow.Author.Tests.{le-leb, leb-true}
use Rattle.words.proofs.BoolLaws.{and_true, and_false}
use Rattle.std.specs.Prelude.{None, Some}
use Rattle.scan.specs.Set.{name_places}
use Rattle.shape.specs.Spelling.{spelling}
use Rattle.scan.specs.Names.{length_ok, all_name_bytes, padded}

module _ (bytes : List ℕ) where
  pub length_right : length_ok bytes ≡ true → (1 ≤ length bytes) × (length bytes ≤ name_places)
  length_right e =
      let both = and_true (leb 1 (length bytes)) (leb (length bytes) name_places) e in
      (leb-true 1 (length bytes) both.0, leb-true (length bytes) name_places both.1)

  spell_none : length_ok bytes && all_name_bytes bytes ≡ false → None ≡ spelling bytes
  unfolding spelling
  spell_none e = sym (rw e)

  pub spell_length : length_ok bytes ≡ false → None ≡ spelling bytes
  spell_length e = spell_none (ap (λ (b : Bool). b && all_name_bytes bytes) e)

  pub spell_strange : all_name_bytes bytes ≡ false → None ≡ spelling bytes
  spell_strange e = spell_none (and_false (length_ok bytes) (all_name_bytes bytes) e)

  pub spell_name : 1 ≤ length bytes → length bytes ≤ name_places → all_name_bytes bytes ≡ true → Some (padded bytes) ≡ spelling bytes
  unfolding spelling
  spell_name low high e = sym (rw (le-leb 1 (length bytes) low, le-leb (length bytes) name_places high, e))
