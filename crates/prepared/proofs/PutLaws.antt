-- The bytes of a set (specs/Put): where each part stands, and one byte after the other.
-- Assumes nothing.
use mathlib.Core.Path.{◌≡◌, sym, ap, refl, ◌∙◌}
use mathlib.Core.List.{List, ◌∷◌, ◌++◌, append-nil}
use Prim.Native.Nat.{ℕ, zero, suc, ◌+◌, ◌-◌, ◌/◌, ◌%◌, ◌≤◌, ◌<◌}
use native.Mathlib.Omega.{arith}
use lib.Dec.{ltb}
use lib.ListN.{length, get_or, set, drop, replicate, length-replicate, drop_of_length-le}
use lib.Seq.{get_or-drop}
use borrow.Author.Tests.{lt-ltb, le-ltb}
use Rattle.words.specs.Loop.{listed}
use Rattle.words.proofs.BoolLaws.{cond_true, cond_false}
use Rattle.scan.specs.declared.set.ReadPoint.{ReadPoint}
use Rattle.scan.specs.declared.set.OutputPoint.{OutputPoint}
use Rattle.scan.specs.declared.set.Constraint.{Constraint}
use Rattle.scan.specs.declared.set.Set.{Set}
use Rattle.scan.specs.Set.{read_point, output_point, constraint, no_constraint}
use Rattle.prepared.specs.Put.{prepared_bytes, digit, head_bytes, read_bytes, constraint_bytes, byte_of, up_to, bytes_of}
use Rattle.prepared.proofs.FilledLaws.{filled_more}

-- ---- the bytes of a part

-- what stands behind the first n
pub behind : (n : ℕ) (l : List ℕ) (j : ℕ) → n ≤ j → get_or (drop n l) (j - n) 0 ≡ get_or l j 0
behind n l j h = let e : n + (j - n) ≡ j = omega arith in get_or-drop n l (j - n) 0 ∙ ap (λ (k : ℕ). get_or l k 0) e

-- the two bytes of a number
pub digit_two : (x j : ℕ) (l : List ℕ) → j < 2 → digit x j ≡ get_or (digit x 0 ∷ digit x 1 ∷ l) j 0
digit_two x zero l h = refl
digit_two x (suc zero) l h = refl
digit_two x (suc (suc j)) l h = absurd (omega arith)

-- the four bytes of a number
pub digit_four : (x j : ℕ) (l : List ℕ) → j < 4 → digit x j ≡ get_or (digit x 0 ∷ digit x 1 ∷ digit x 2 ∷ digit x 3 ∷ l) j 0
digit_four x zero l h = refl
digit_four x (suc zero) l h = refl
digit_four x (suc (suc zero)) l h = refl
digit_four x (suc (suc (suc zero))) l h = refl
digit_four x (suc (suc (suc (suc j)))) l h = absurd (omega arith)

-- ---- where each part stands

module _ (s : Set) (i : ℕ) where
  -- a byte of the head
  pub head_at : i < 5 → get_or (head_bytes s) i 0 ≡ byte_of s i
  unfolding byte_of
  head_at h = cond_true (ltb i 5) _ _ (lt-ltb i 5 h)

  -- a byte of a read point
  pub read_at_law : (reads : List ReadPoint) → s.reads ≡ reads → 5 ≤ i → i < 205
      → get_or (read_bytes (read_point reads ((i - 5) / 10))) ((i - 5) % 10) 0 ≡ byte_of s i
  unfolding byte_of
  read_at_law reads e l h =
      ap (λ (all : List ReadPoint). get_or (read_bytes (read_point all ((i - 5) / 10))) ((i - 5) % 10) 0) (sym e)
      ∙ cond_true (ltb i 205) _ _ (lt-ltb i 205 h) ∙ cond_false (ltb i 5) _ _ (le-ltb i 5 l)

  -- a byte of an output
  pub output_at_law : (outputs : List OutputPoint) → s.outputs ≡ outputs → 205 ≤ i → i < 301
      → get_or (output_point outputs ((i - 205) / 8)).name ((i - 205) % 8) 0 ≡ byte_of s i
  unfolding byte_of
  output_at_law outputs e l h =
      ap (λ (all : List OutputPoint). get_or (output_point all ((i - 205) / 8)).name ((i - 205) % 8) 0) (sym e)
      ∙ cond_true (ltb i 301) _ _ (lt-ltb i 301 h) ∙ cond_false (ltb i 205) _ _ (le-ltb i 205 l) ∙ cond_false (ltb i 5) _ _ (le-ltb i 5 (omega arith))

  -- a byte of a constraint
  pub constraint_at : (constraints : List Constraint) → s.constraints ≡ constraints → 301 ≤ i
      → get_or (constraint_bytes (get_or constraints ((i - 301) / 24) no_constraint)) ((i - 301) % 24) 0 ≡ byte_of s i
  unfolding byte_of constraint
  constraint_at constraints e l =
      ap (λ (all : List Constraint). get_or (constraint_bytes (get_or all ((i - 301) / 24) no_constraint)) ((i - 301) % 24) 0) (sym e)
      ∙ cond_false (ltb i 301) _ _ (le-ltb i 301 l) ∙ cond_false (ltb i 205) _ _ (le-ltb i 205 (omega arith)) ∙ cond_false (ltb i 5) _ _ (le-ltb i 5 (omega arith))

-- ---- one byte after the other

-- The invariant of a loop that puts one part: whatever the other parts are, the bytes from `start` up to i are put.
abbrev pub Putting : (Set → Type 0) → ℕ → List ℕ → List ℕ → ℕ → Type 0
Putting part start before out i = (s : Set) → part s → before ≡ up_to s start → out ≡ up_to s i

-- A turn of such a loop puts one byte more.
pub put_more : (part : Set → Type 0) (start i x : ℕ) (before out : List ℕ) → i < prepared_bytes
    → Putting part start before out i → ((s : Set) → part s → x ≡ byte_of s i) → Putting part start before (set out i x) (i + 1)
put_more part start i x before out h put told s p e = filled_more prepared_bytes 0 (byte_of s) out i x h (put s p e) (told s p)

-- Where all are put, they are the bytes of the set.
pub put_all : (s : Set) → up_to s prepared_bytes ≡ bytes_of s
unfolding bytes_of
put_all s =
    let long : length {A = ℕ} (replicate prepared_bytes 0) ≤ prepared_bytes = omega (arith, length-replicate {A = ℕ} prepared_bytes 0) in
    ap (λ (rest : List ℕ). listed prepared_bytes (byte_of s) ++ rest) (drop_of_length-le (replicate prepared_bytes 0) long) ∙ append-nil _
