-- The entries of the active constraints: one more, what they tell, and that they tell which vectors are safe at a read word of a well-formed set.
-- Assumes nothing.
use mathlib.Core.Path.{◌≡◌, refl, sym, ap, ap₂, subst, ◌∙◌}
use mathlib.Core.Bool.{Bool, true, false, not, ◌&&◌, ◌||◌, or-false}
use mathlib.Core.List.{List}
use Prim.Native.Nat.{ℕ, zero, suc, ◌+◌, ◌≤◌, ◌<◌}
use native.Mathlib.Numerals.{add-one}
use native.Mathlib.Omega.{arith}
use lib.Dec.{eqb}
use lib.ListN.{length, get_or, length-set}
use lib.Bits.{bit_and, bit_or, and_zero_r}
use Rattle.words.specs.Word.{bit, meets}
use Rattle.words.specs.Loop.{some}
use Rattle.words.proofs.BoolLaws.{by_test, cond_true, cond_false}
use Rattle.words.proofs.BitLaws.{meets_once}
use Rattle.words.proofs.LoopLaws.{some_cong}
use Rattle.words.proofs.LoopTurns.{some_none, some_more}
use Rattle.scan.specs.declared.set.Set.{Set}
use Rattle.scan.specs.declared.columns.Columns.{Columns}
use Rattle.scan.specs.declared.entries.Entries.{Entries}
use Rattle.scan.specs.Set.{most_constraints, constraint}
use Rattle.scan.specs.Shape.{well_formed}
use Rattle.scan.specs.Constraint.{outs_true, is_true, true_at, safe}
use Rattle.scan.specs.Active.{active_of}
use Rattle.scan.specs.way.Columns.{columns_of, entry_true}
use Rattle.scan.specs.way.Table.{filled_up, any_true, safe_over}
use Rattle.scan.specs.way.Entries.{no_entries, with_one, entries_upto, entries_by}
use Rattle.scan.proofs.ShapeLaws.{counts, masks, wide}
use Rattle.scan.proofs.ActiveLaws.{active_bit, counted_all, column_at}
use Rattle.scan.proofs.TableLaws.{new, true_old, empty_spare, any_filled}

module _ (plain negated : List ℕ) (entered : ℕ) where
  -- ---- one more constraint, at the code's `i + 1`

  pub entries_none : entries_upto plain negated entered 0 ≡ no_entries
  unfolding entries_upto
  entries_none = refl

  pub entries_on : (i : ℕ) → bit i entered ≡ true
      → entries_upto plain negated entered (i + 1) ≡ with_one (get_or plain i 0) (get_or negated i 0) (entries_upto plain negated entered i)
  unfolding entries_upto
  entries_on i e = ap (entries_upto plain negated entered) (add-one i) ∙ sym (cond_true (bit i entered) _ (entries_upto plain negated entered i) e)

  pub entries_off : (i : ℕ) → bit i entered ≡ false → entries_upto plain negated entered (i + 1) ≡ entries_upto plain negated entered i
  unfolding entries_upto
  entries_off i e = ap (entries_upto plain negated entered) (add-one i) ∙ sym (cond_false (bit i entered) _ (entries_upto plain negated entered i) e)

  -- ---- what they tell

  -- constraint i is one of the mask, and the outputs that it names are as it names them
  abbrev truly : ℕ → ℕ → Bool
  truly v i = bit i entered && eqb (bit_and v (bit_or (get_or plain i 0) (get_or negated i 0))) (get_or plain i 0)

  -- the lists have a place for each constraint, no place behind the entries is ever true, and an entry is true where one of the first i constraints is
  record Tells (i : ℕ) (e : Entries) : Type 0 where
    few : e.count ≤ i
    plain_places : length e.plain ≡ most_constraints
    named_places : length e.named ≡ most_constraints
    spare : (v j : ℕ) → e.count ≤ j → j < most_constraints → entry_true e.plain e.named v j ≡ false
    anys : (v : ℕ) → some i (truly v) ≡ some e.count (entry_true e.plain e.named v)

  off : (i : ℕ) (e : Entries) → Tells i e → bit i entered ≡ false → Tells (i + 1) e
  off i e so_far b = record {
    few = omega (arith, so_far.few);
    plain_places = so_far.plain_places;
    named_places = so_far.named_places;
    spare = so_far.spare;
    anys = λ v.
        some_more i _
        ∙ ap₂ ◌||◌ (so_far.anys v) (ap (λ (x : Bool). x && eqb (bit_and v (bit_or (get_or plain i 0) (get_or negated i 0))) (get_or plain i 0)) b)
        ∙ or-false _;
  }

  module _ (i : ℕ) (e : Entries) (so_far : Tells i e) (room : i < most_constraints) where
    abbrev more : Entries
    more = with_one (get_or plain i 0) (get_or negated i 0) e

    -- an entry stored before is as it was
    before : (v j : ℕ) → (j ≡ e.count → ⊥) → entry_true e.plain e.named v j ≡ entry_true more.plain more.named v j
    before v j l = true_old e.plain e.named e.count (get_or plain i 0) (bit_or (get_or plain i 0) (get_or negated i 0)) v j l

    -- the new one is true where the constraint is
    stored : (v : ℕ) → eqb (bit_and v (bit_or (get_or plain i 0) (get_or negated i 0))) (get_or plain i 0) ≡ entry_true more.plain more.named v e.count
    unfolding entry_true
    stored v = λ k.
        eqb (bit_and v (new e.named e.count (bit_or (get_or plain i 0) (get_or negated i 0)) (omega (arith, so_far.few, so_far.named_places)) k))
        (new e.plain e.count (get_or plain i 0) (omega (arith, so_far.few, so_far.plain_places)) k)

    on : bit i entered ≡ true → Tells (i + 1) more
    on b = record {
      few = omega (arith, so_far.few);
      plain_places = length-set e.plain e.count _ ∙ so_far.plain_places;
      named_places = length-set e.named e.count _ ∙ so_far.named_places;
      spare = λ v j m h. sym (before v j (λ q. absurd (omega arith))) ∙ so_far.spare v j (omega arith) h;
      anys = λ v.
          some_more i _
          ∙ ap₂ ◌||◌ (so_far.anys v ∙ some_cong e.count _ _ (λ j l. before v j (λ q. absurd (omega arith))))
          (ap (λ (x : Bool). x && eqb (bit_and v (bit_or (get_or plain i 0) (get_or negated i 0))) (get_or plain i 0)) b ∙ stored v)
          ∙ sym (some_more e.count _);
    }

  tells : (i : ℕ) → i ≤ most_constraints → Tells i (entries_upto plain negated entered i)
  tells zero h = subst (Tells 0) (sym entries_none) (record {
    few = omega arith;
    plain_places = refl;
    named_places = refl;
    spare = λ v j l b. empty_spare v j b;
    anys = λ v. some_none _ ∙ sym (some_none _);
  })
  tells (suc i) h =
      let so_far = tells i (omega arith) in
      subst (λ (k : ℕ). Tells k (entries_upto plain negated entered k)) (add-one i)
      (by_test (bit i entered)
      (λ e. subst (Tells (i + 1)) (sym (entries_on i e)) (on i (entries_upto plain negated entered i) so_far (omega arith) e))
      (λ e. subst (Tells (i + 1)) (sym (entries_off i e)) (off i (entries_upto plain negated entered i) so_far e)))

-- ---- a read word

-- with no output held
free : (v : ℕ) → meets 0 0 v ≡ true
unfolding meets
free v = ap (λ (x : ℕ). eqb x 0 && eqb x 0) (and_zero_r v)

module _ (s : Set) (ok : well_formed s ≡ true) (w : ℕ) where
  abbrev plains : List ℕ
  plains = (columns_of s).out_plain

  abbrev negateds : List ℕ
  negateds = (columns_of s).out_negated

  -- a constraint of the mask whose outputs are as it names them is one that is true
  true_is : (v i : ℕ) → i < s.m → truly plains negateds (active_of s w) v i ≡ true_at s w v i
  unfolding columns_of true_at is_true outs_true
  true_is v i h =
      let c = masks s ok i h in
      ap₂ ◌&&◌ (active_bit s w i h)
      (ap₂ (λ (p q : ℕ). eqb (bit_and v (bit_or p q)) p) (column_at s ok _ i h) (column_at s ok _ i h)
      ∙ sym (meets_once 16 (constraint s i).out_plain (constraint s i).out_negated v (wide s ok _ c.out_plain) (wide s ok _ c.out_negated) c.out_once))

  -- the entries of the active constraints, with no output held, tell which vectors are safe
  pub entries_safe : (e : Entries) → e ≡ entries_by plains negateds s.m (active_of s w) → (v : ℕ) → safe_over 0 0 e.plain e.named e.count v ≡ safe s w v
  unfolding entries_by safe_over safe
  entries_safe e ee v =
      let u = entries_upto plains negateds (active_of s w) s.m in
      let t = tells plains negateds (active_of s w) s.m (counts s ok).m_le in
      ap (λ (x : Entries). meets 0 0 v && not (any_true x.plain x.named x.count v))
      (ee ∙ ap (λ (k : ℕ). let x = entries_upto plains negateds (active_of s w) k in record { count = filled_up x.count; plain = x.plain; named = x.named }) (counted_all s ok))
      ∙ ap₂ (λ (a b : Bool). a && not b) (free v)
      (any_filled u.plain u.named u.count v (omega (arith, t.few, (counts s ok).m_le)) (t.spare v)
      ∙ sym (t.anys v)
      ∙ some_cong s.m _ _ (true_is v))

  -- and so does what the code makes of the columns of the set and the mask of the word
  pub made_entries : (l : Columns) → l ≡ columns_of s → (active : ℕ) → active ≡ active_of s w → (e : Entries)
      → e ≡ entries_by l.out_plain l.out_negated l.m active → (v : ℕ) → safe_over 0 0 e.plain e.named e.count v ≡ safe s w v
  unfolding columns_of
  made_entries l el active ea e ee =
      entries_safe e (ee ∙ (λ k. entries_by (el k).out_plain (el k).out_negated (el k).m (ea k)))
