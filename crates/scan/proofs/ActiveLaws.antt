-- The active constraints of a read word: their mask bit by bit; and, of a well-formed set, the mask and the holds that the lists of literals give.
-- Assumes nothing.
use mathlib.Core.Path.{◌≡◌, sym, ap, ap₂, ◌∙◌, subst}
use mathlib.Core.Bool.{Bool, true, cond, not, ◌&&◌}
use Prim.Native.Nat.{ℕ, ◌^◌, ◌<◌}
use native.Mathlib.Nat.{min-eq_left, lt_of_lt_of_le}
use lib.Dec.{eqb}
use lib.ListN.{get_or}
use lib.Bits.{bit_and}
use lib.Pow.{pow_mono}
use Rattle.words.specs.Word.{bit, without}
use Rattle.words.specs.Loop.{gather, word}
use Rattle.words.proofs.BoolLaws.{and_assoc, and_swap}
use Rattle.words.proofs.BitLaws.{bit_of_and, bit_without, meets_once}
use Rattle.words.proofs.LoopLaws.{bit_word, word_lt, word_cong, gather_cong}
use Rattle.scan.specs.declared.set.Constraint.{Constraint}
use Rattle.scan.specs.declared.set.Set.{Set}
use Rattle.scan.specs.declared.columns.Columns.{Columns}
use Rattle.scan.specs.Set.{most_reads, constraint}
use Rattle.scan.specs.Shape.{well_formed}
use Rattle.scan.specs.Constraint.{reads_true, outs_true, is_true, simple, combined}
use Rattle.scan.specs.Active.{is_active, active_of}
use Rattle.scan.specs.Holds.{holding, to_zero, to_one, F0, F1, reckoned, holds_of}
use Rattle.scan.specs.Pass.{fires}
use Rattle.scan.specs.way.Columns.{counted, of_each, column_upto, column, simple_at, columns_of, entry_true, active_by}
use Rattle.scan.specs.way.Holds.{kept_at, holds_by, holds_at}
use Rattle.scan.proofs.ShapeLaws.{counts, masks}
use Rattle.scan.proofs.PlacesLaws.{places_at}
use Rattle.scan.proofs.ConstraintLaws.{combined_is}

-- ---- the mask

module _ (s : Set) (w : ℕ) where
  -- bit i of the mask says that the read literals of constraint i are all true
  pub active_bit : (i : ℕ) → i < s.m → bit i (active_of s w) ≡ reads_true (constraint s i) w
  unfolding active_of is_active
  active_bit i h = bit_word i s.m (is_active s w) h

  -- and it has no other bits
  pub active_lt : active_of s w < 2 ^ s.m
  unfolding active_of
  active_lt = word_lt s.m (is_active s w)

-- ---- by the lists of literals

module _ (s : Set) (ok : well_formed s ≡ true) where
  pub counted_all : counted s ≡ s.m
  counted_all = min-eq_left (counts s ok).m_le

  -- place i of a column is constraint i's
  pub column_at : (f : Constraint → ℕ) (i : ℕ) → i < s.m → get_or (column s f) i 0 ≡ f (constraint s i)
  unfolding column_upto
  column_at f i h = places_at (of_each s f) (counted s) i (subst (λ (m : ℕ). i < m) (sym counted_all) h)

  simple_bit : (i : ℕ) → i < s.m → bit i (columns_of s).simple ≡ simple (constraint s i)
  unfolding columns_of simple_at
  simple_bit i h = bit_word i (counted s) (simple_at s) (subst (λ (m : ℕ). i < m) (sym counted_all) h)

  narrow : (x : ℕ) → x < 2 ^ s.r → x < 2 ^ most_reads
  narrow x h = lt_of_lt_of_le h (pow_mono {i = s.r} {j = most_reads} (counts s ok).r_le)

  -- the mask that the lists of read literals give
  pub active_is : (w : ℕ) → active_by (columns_of s).read_plain (columns_of s).read_named s.m w ≡ active_of s w
  unfolding active_by columns_of active_of is_active entry_true reads_true
  active_is w =
      ap (λ (k : ℕ). word k (entry_true (columns_of s).read_plain (columns_of s).read_named w)) counted_all
      ∙ word_cong s.m _ _ (λ i h.
      let c = masks s ok i h in
      ap₂ (λ (named plain : ℕ). eqb (bit_and w named) plain) (column_at _ i h) (column_at _ i h)
      ∙ sym (meets_once most_reads (constraint s i).read_plain (constraint s i).read_negated w (narrow _ c.read_plain) (narrow _ c.read_negated) c.read_once))

  -- what the code makes of the literals of the set and a read word is the mask
  pub made_active : (w : ℕ) (l : Columns) → l ≡ columns_of s → (active : ℕ) → active ≡ active_by l.read_plain l.read_named l.m w
      → active ≡ active_of s w
  unfolding columns_of
  made_active w l el active ea = ea ∙ ap (λ (x : Columns). active_by x.read_plain x.read_named x.m w) el ∙ active_is w

  module _ (w : ℕ) where
    -- a constraint that is active and simple holds its outputs
    kept : (f : Constraint → ℕ) (i : ℕ) → i < s.m
        → kept_at (column s f) (bit_and (active_of s w) (columns_of s).simple) i ≡ cond (holding s w i) (f (constraint s i)) 0
    unfolding kept_at holding
    kept f i h =
        ap₂ (λ (b : Bool) (x : ℕ). cond b x 0)
        (bit_of_and i (active_of s w) (columns_of s).simple ∙ ap₂ ◌&&◌ (active_bit s w i h) (simple_bit i h)
        ∙ and_swap (reads_true (constraint s i) w) (simple (constraint s i)))
        (column_at f i h)

    held : (f : Constraint → ℕ)
        → gather (counted s) (kept_at (column s f) (bit_and (active_of s w) (columns_of s).simple)) ≡ gather s.m (λ i. cond (holding s w i) (f (constraint s i)) 0)
    held f =
        ap (λ (k : ℕ). gather k (kept_at (column s f) (bit_and (active_of s w) (columns_of s).simple))) counted_all ∙ gather_cong s.m _ _ (kept f)

    -- the holds of the active simple constraints are those of the word
    pub holds_are : holds_by (columns_of s).out_plain (columns_of s).out_negated s.m (bit_and (active_of s w) (columns_of s).simple) ≡ holds_of s w
    unfolding holds_by columns_of F0 F1 to_zero to_one
    holds_are = ap₂ reckoned (held (λ c. c.out_plain)) (held (λ c. c.out_negated))

    -- and so are those that the lists of literals give
    pub holds_at_law : holds_at s w ≡ holds_of s w
    unfolding holds_at
    holds_at_law =
        ap (λ (a : ℕ). holds_by (columns_of s).out_plain (columns_of s).out_negated s.m (bit_and a (columns_of s).simple)) (active_is w) ∙ holds_are

    -- a constraint fires where it is active and not simple, and its output literals are true
    pub fires_by : (v i : ℕ) → i < s.m → fires s w v i ≡ bit i (without (active_of s w) (columns_of s).simple) && outs_true (constraint s i) v
    unfolding fires is_true
    fires_by v i h =
        and_assoc (combined (constraint s i)) (reads_true (constraint s i) w) (outs_true (constraint s i) v)
        ∙ ap (λ (b : Bool). b && outs_true (constraint s i) v)
        (and_swap (combined (constraint s i)) (reads_true (constraint s i) w)
        ∙ ap₂ ◌&&◌ (sym (active_bit s w i h))
        (combined_is s.r s.n (constraint s i) (counts s ok).n_le (masks s ok i h) ∙ ap not (sym (simple_bit i h)))
        ∙ sym (bit_without i (active_of s w) (columns_of s).simple))
