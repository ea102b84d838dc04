-- Finding a point by its name, by the way that the code's tests went.
-- Assumes nothing.
use mathlib.Core.Path.{◌≡◌, sym, ap, ap₂, ◌∙◌}
use native.Mathlib.Omega.{arith}
use mathlib.Core.List.{List}
use mathlib.Core.Bool.{true, false, ◌&&◌}
use Prim.Native.Nat.{ℕ, ◌≤◌, ◌<◌}
use lib.ListN.{length}
use borrow.Author.Tests.{le-leb, lt-ltb, le-ltb}
use Rattle.words.proofs.BoolLaws.{by_test}
use Rattle.scan.specs.declared.set.Set.{Set}
use Rattle.scan.specs.Set.{name_places}
use Rattle.scan.specs.Names.{length_ok, all_name_bytes, padded, first_read, first_output}
use Rattle.scan.specs.Shape.{well_formed}
use Rattle.std.specs.Prelude.{Option, None, Some, Ok, Err, unwrap_or}
use Rattle.shape.specs.declared.finding.Point.TheVariants.{Read, Output}
use Rattle.shape.specs.declared.finding.FindError.TheVariants.{BadSet, BadLength, Unknown}
use Rattle.shape.specs.Spelling.{spelling}
use Rattle.shape.specs.Finding.{find_padded, find_of}
use Rattle.shape.proofs.SpellingLaws.{length_right, spell_strange, spell_name}

module _ (s : Set) (name : List ℕ) (k : ℕ) (here : k ≡ first_read s.reads s.r name) where
  pub find_read : k < s.r → Ok (Read k) ≡ find_padded s name
  unfolding find_padded
  find_read h = sym (rw (← here, lt-ltb k s.r h))

  pub find_output : (j : ℕ) → s.r ≤ k → j ≡ first_output s.outputs s.n name → j < s.n → Ok (Output j) ≡ find_padded s name
  unfolding find_padded
  find_output j h there l = sym (rw (← here, le-ltb k s.r h, ← there, lt-ltb j s.n l))

  pub find_none : (j : ℕ) → s.r ≤ k → j ≡ first_output s.outputs s.n name → s.n ≤ j → Err Unknown ≡ find_padded s name
  unfolding find_padded
  find_none j h there l = sym (rw (← here, le-ltb k s.r h, ← there, le-ltb j s.n l))

pub find_bad : (s : Set) (bytes : List ℕ) → well_formed s ≡ false → Err BadSet ≡ find_of s bytes
unfolding find_of
find_bad s bytes e = sym (rw e)

module _ (s : Set) (bytes : List ℕ) (formed : well_formed s ≡ true) where
  pub find_length : length_ok bytes ≡ false → Err BadLength ≡ find_of s bytes
  unfolding find_of
  find_length e = sym (rw (formed, e))

  module _ (low : 1 ≤ length bytes) (high : length bytes ≤ name_places) where
    fits : length_ok bytes ≡ true
    fits = ap₂ ◌&&◌ (le-leb 1 (length bytes) low) (le-leb (length bytes) name_places high)

    pub find_strange : all_name_bytes bytes ≡ false → Err Unknown ≡ find_of s bytes
    unfolding find_of
    find_strange e = sym (rw (formed, fits, e))

    pub find_named : all_name_bytes bytes ≡ true → find_padded s (padded bytes) ≡ find_of s bytes
    unfolding find_of
    find_named e = sym (rw (formed, fits, e))

  -- the same, told by what the bytes spell
  module _ (fit : length_ok bytes ≡ true) where
    low : 1 ≤ length bytes
    low = (length_right bytes fit).0

    high : length bytes ≤ name_places
    high = (length_right bytes fit).1

    pub find_unspelt : spelling bytes ≡ None → Err Unknown ≡ find_of s bytes
    find_unspelt e = by_test (all_name_bytes bytes) (λ t. absurd (never (spell_name bytes low high t ∙ e))) (find_strange low high)
      where
        never : Some (padded bytes) ≡ None → ⊥
        never w = let z : ◌≡◌ {A = ℕ} 0 1 = cc in omega arith

    pub find_spelt : (name : List ℕ) → spelling bytes ≡ Some name → find_padded s name ≡ find_of s bytes
    find_spelt name e =
        by_test (all_name_bytes bytes)
        (λ t. ap (λ (x : Option (List ℕ)). find_padded s (unwrap_or x name)) (sym (spell_name bytes low high t ∙ e)) ∙ find_named low high t)
        (λ t. absurd (never (spell_strange bytes t ∙ e)))
      where
        never : None ≡ Some name → ⊥
        never w = let z : ◌≡◌ {A = ℕ} 0 1 = cc in omega arith
