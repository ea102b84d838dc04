-- The table of the active constraints: one more constraint, what the whole table tells, and the walk over it, which is the set's walk.
-- Assumes nothing.
use mathlib.Core.Path.{◌≡◌, refl, sym, ap, ap₂, subst, fun_ext, ◌∙◌}
use mathlib.Core.Bool.{Bool, true, false, cond, not, ◌&&◌, ◌||◌, or-false}
use mathlib.Core.List.{List}
use Prim.Native.Nat.{ℕ, zero, suc, ◌+◌, ◌^◌, ◌≤◌, ◌<◌, min}
use native.Mathlib.Nat.{min-eq_left}
use native.Mathlib.Numerals.{add-one}
use native.Mathlib.Omega.{arith}
use lib.Dec.{eqb}
use lib.ListN.{length, get_or, set, replicate, length-set, get_or-replicate}
use lib.Seq.{get_or-set_same, get_or-set_other}
use lib.Bits.{bit_and, bit_or, bit_xor, or_zero_r, and_zero_r}
use lib.Count.{ones_in}
use Rattle.words.specs.Word.{bit, without, meets, popcount}
use Rattle.words.specs.Loop.{gather, some}
use Rattle.words.proofs.BoolLaws.{by_test, cond_true, cond_false}
use Rattle.words.proofs.BitLaws.{meets_once}
use Rattle.words.proofs.LoopLaws.{gather_cong, some_cong, still}
use Rattle.words.proofs.LoopTurns.{gather_none, gather_more, some_none, some_more}
use Rattle.scan.specs.declared.set.Constraint.{Constraint}
use Rattle.scan.specs.declared.set.Set.{Set}
use Rattle.scan.specs.declared.holds.Holds.{Holds}
use Rattle.scan.specs.declared.holds.Holds.TheVariants.{Forced, Clash}
use Rattle.scan.specs.declared.columns.Columns.{Columns}
use Rattle.scan.specs.declared.table.Table.{Table}
use Rattle.scan.specs.Set.{most_constraints, constraint, outs}
use Rattle.scan.specs.Shape.{well_formed}
use Rattle.scan.specs.Constraint.{outs_true, safe}
use Rattle.scan.specs.Active.{active_of}
use Rattle.scan.specs.Holds.{F0, F1, NoneBoth, holds_of, unheld_by, unheld, unheld_count, pass_limit, start_from, start_vector}
use Rattle.scan.specs.Pass.{yielding, yields, fires, flips, pass}
use Rattle.scan.specs.Walk.{walk_held, walk}
use Rattle.scan.specs.way.Holds.{holds_by, limit_by}
use Rattle.scan.specs.way.Columns.{columns_of, entry_true}
use Rattle.scan.specs.way.Table.{outputs_in, unheld_in, yields_in, empty_table, with_entry, with_count, table_upto, filled_up, table_by, table_of, entry_flips, flips_over, pass_over, any_true, safe_over, safe_held, safe_in, pass_in, walk_in}
use Rattle.scan.proofs.ShapeLaws.{counts, masks, wide}
use Rattle.scan.proofs.HoldsLaws.{reckoned_clash, reckoned_forced, by_reckoned, reckoned_says}
use Rattle.scan.proofs.SafeLaws.{clash_unsafe, safe_table}
use Rattle.scan.proofs.ActiveLaws.{counted_all, holds_are, fires_by}

module _ (s : Set) (h : Holds) (entered : ℕ) where
  -- ---- one more constraint, at the code's `i + 1`

  pub upto_none : table_upto s h entered 0 ≡ empty_table s h
  unfolding table_upto
  upto_none = refl

  pub upto_on : (i : ℕ) → bit i entered ≡ true
      → table_upto s h entered (i + 1) ≡ with_entry (constraint s i) (yields_in s h i) (table_upto s h entered i)
  unfolding table_upto
  upto_on i e = ap (table_upto s h entered) (add-one i) ∙ sym (cond_true (bit i entered) _ (table_upto s h entered i) e)

  pub upto_off : (i : ℕ) → bit i entered ≡ false → table_upto s h entered (i + 1) ≡ table_upto s h entered i
  unfolding table_upto
  upto_off i e = ap (table_upto s h entered) (add-one i) ∙ sym (cond_false (bit i entered) _ (table_upto s h entered i) e)

  -- what holds of the empty table, and with one more constraint whenever it held before, holds of the table after i of them
  upto_ind : (i : ℕ) (P : ℕ → Table → Type 0) → P 0 (empty_table s h)
      → ((k : ℕ) → k < i → P k (table_upto s h entered k) → bit k entered ≡ true
      → P (k + 1) (with_entry (constraint s k) (yields_in s h k) (table_upto s h entered k)))
      → ((k : ℕ) → k < i → P k (table_upto s h entered k) → bit k entered ≡ false → P (k + 1) (table_upto s h entered k))
      → P i (table_upto s h entered i)
  upto_ind zero P none on off = subst (P 0) (sym upto_none) none
  upto_ind (suc i) P none on off =
      let so_far = upto_ind i P none (λ k l. on k (omega arith)) (λ k l. off k (omega arith)) in
      subst (λ (k : ℕ). P k (table_upto s h entered k)) (add-one i)
      (by_test (bit i entered)
      (λ e. subst (P (i + 1)) (sym (upto_on i e)) (on i (omega arith) so_far e))
      (λ e. subst (P (i + 1)) (sym (upto_off i e)) (off i (omega arith) so_far e)))

-- ---- its form

-- the entries other than n are as they were, and entry n is what is stored
old : (l : List ℕ) (n a j : ℕ) → (j ≡ n → ⊥) → get_or l j 0 ≡ get_or (set l n a) j 0
old l n a j h = sym (get_or-set_other l n j a 0 h)

pub new : (l : List ℕ) (n a : ℕ) → n < length l → a ≡ get_or (set l n a) n 0
new l n a h = sym (get_or-set_same l n a 0 h)

-- an entry stored at n leaves the others as they were
pub true_old : (plain named : List ℕ) (n p q v j : ℕ) → (j ≡ n → ⊥) → entry_true plain named v j ≡ entry_true (set plain n p) (set named n q) v j
unfolding entry_true
true_old plain named n p q v j l = λ k. eqb (bit_and v (old named n q j l k)) (old plain n p j l k)

-- the holds are those given, the lists have a place for each constraint, and no place behind the entries is ever true
pub record Formed (s : Set) (h : Holds) (t : Table) : Type 0 where
  pub holds_is : t.holds ≡ h
  pub limit_is : t.limit ≡ limit_by (unheld_in s h)
  pub plain_places : length t.entries.plain ≡ most_constraints
  pub named_places : length t.entries.named ≡ most_constraints
  pub flip_places : length t.flip ≡ most_constraints
  pub spare : (v j : ℕ) → t.entries.count ≤ j → j < most_constraints → entry_true t.entries.plain t.entries.named v j ≡ false

-- and none is true before one is stored
pub empty_spare : (v j : ℕ) → j < most_constraints → entry_true (replicate most_constraints 1) (replicate most_constraints 0) v j ≡ false
unfolding entry_true
empty_spare v j l =
    ap₂ (λ (named plain : ℕ). eqb (bit_and v named) plain) (get_or-replicate most_constraints j 0 0 l) (get_or-replicate most_constraints j 1 0 l)
    ∙ ap (λ (x : ℕ). eqb x 1) (and_zero_r v)

pub upto_formed : (s : Set) (h : Holds) (entered i : ℕ) → Formed s h (table_upto s h entered i)
upto_formed s h entered i =
    upto_ind s h entered i (λ (k : ℕ) (t : Table). Formed s h t)
    (record {
      holds_is = refl;
      limit_is = refl;
      plain_places = refl;
      named_places = refl;
      flip_places = refl;
      spare = λ v j l b. empty_spare v j b;
    })
    (λ k l f e. let t = table_upto s h entered k in record {
      holds_is = f.holds_is;
      limit_is = f.limit_is;
      plain_places = length-set t.entries.plain t.entries.count _ ∙ f.plain_places;
      named_places = length-set t.entries.named t.entries.count _ ∙ f.named_places;
      flip_places = length-set t.flip t.entries.count _ ∙ f.flip_places;
      spare = λ v j m b.
          sym (true_old t.entries.plain t.entries.named t.entries.count (constraint s k).out_plain (outs (constraint s k)) v j (λ q. absurd (omega arith)))
          ∙ f.spare v j (omega arith) b;
    })
    (λ k l f e. f)

-- ---- what it tells

-- no output is both plain and negated
pub record Apart (c : Constraint) : Type 0 where
  pub plain : c.out_plain < 2 ^ 16
  pub negated : c.out_negated < 2 ^ 16
  pub once : bit_and c.out_plain c.out_negated ≡ 0

-- at each vector, the entries flip what the first i constraints flip, and one is true where one of those that are combined is
pub record Tells (s : Set) (w i : ℕ) (t : Table) : Type 0 where
  pub few : t.entries.count ≤ i
  pub flipped : (v : ℕ) → gather i (flips s w v) ≡ gather t.entries.count (entry_flips t.entries.plain t.entries.named t.flip v)
  pub anys : (v : ℕ) → some i (fires s w v) ≡ some t.entries.count (entry_true t.entries.plain t.entries.named v)

-- where the constraints entered are those that fire with their output literals, and these holds make the same outputs yield
module _ (s : Set) (w : ℕ) (h : Holds) (entered m : ℕ)
    (fire : (v i : ℕ) → i < m → fires s w v i ≡ bit i entered && outs_true (constraint s i) v)
    (yield : (i : ℕ) → yields s w i ≡ yields_in s h i) where
  module _ (i : ℕ) (below : i < m) (v : ℕ) (b : Bool) (e : bit i entered ≡ b) where
    fires_where : fires s w v i ≡ b && outs_true (constraint s i) v
    fires_where = fire v i below ∙ ap (λ (x : Bool). x && outs_true (constraint s i) v) e

    flips_where : flips s w v i ≡ cond (b && outs_true (constraint s i) v) (yields_in s h i) 0
    unfolding flips
    flips_where = ap₂ (λ (x : Bool) (y : ℕ). cond x y 0) fires_where (yield i)

  passed_over : (i : ℕ) → i < m → (t : Table) → Tells s w i t → bit i entered ≡ false → Tells s w (i + 1) t
  passed_over i below t so_far e = record {
    few = omega arith;
    flipped = λ v. gather_more i _ ∙ ap₂ bit_or (so_far.flipped v) (flips_where i below v false e) ∙ or_zero_r _;
    anys = λ v. some_more i _ ∙ ap₂ ◌||◌ (so_far.anys v) (fires_where i below v false e) ∙ or-false _;
  }

  module _ (i : ℕ) (below : i < m) (t : Table) (f : Formed s h t) (room : t.entries.count < most_constraints) (apart : Apart (constraint s i)) where
    -- the table with the constraint's entry
    abbrev more : Table
    more = with_entry (constraint s i) (yields_in s h i) t

    -- an entry stored before is as it was
    before : (v j : ℕ) → j < t.entries.count → entry_true t.entries.plain t.entries.named v j ≡ entry_true more.entries.plain more.entries.named v j
    before v j l = true_old t.entries.plain t.entries.named t.entries.count (constraint s i).out_plain (outs (constraint s i)) v j (λ q. absurd (omega arith))

    -- the new one is true where the constraint's output literals are
    true_new : (v : ℕ) → outs_true (constraint s i) v ≡ entry_true more.entries.plain more.entries.named v t.entries.count
    unfolding outs_true entry_true
    true_new v =
        meets_once 16 (constraint s i).out_plain (constraint s i).out_negated v apart.plain apart.negated apart.once
        ∙ (λ k. eqb (bit_and v (new t.entries.named t.entries.count (outs (constraint s i)) (omega arith) k))
        (new t.entries.plain t.entries.count (constraint s i).out_plain (omega arith) k))

    stored : Tells s w i t → bit i entered ≡ true → Tells s w (i + 1) more
    unfolding entry_flips
    stored so_far e = record {
      few = omega arith;
      flipped = λ v.
          gather_more i _
          ∙ ap₂ bit_or
          (so_far.flipped v
          ∙ gather_cong t.entries.count _ _ (λ j l. λ k. cond (before v j l k) (old t.flip t.entries.count (yields_in s h i) j (λ q. absurd (omega arith)) k) 0))
          (flips_where i below v true e ∙ (λ k. cond (true_new v k) (new t.flip t.entries.count (yields_in s h i) (omega arith) k) 0))
          ∙ sym (gather_more t.entries.count _);
      anys = λ v.
          some_more i _
          ∙ ap₂ ◌||◌ (so_far.anys v ∙ some_cong t.entries.count _ _ (before v)) (fires_where i below v true e ∙ true_new v)
          ∙ sym (some_more t.entries.count _);
    }

  tells : m ≤ most_constraints → ((j : ℕ) → j < m → Apart (constraint s j)) → (i : ℕ) → i ≤ m → Tells s w i (table_upto s h entered i)
  tells small apart i few =
      upto_ind s h entered i (Tells s w)
      (record { few = omega arith; flipped = λ v. sym (gather_none _) ∙ gather_none _; anys = λ v. some_none _ ∙ sym (some_none _) })
      (λ k l so_far e.
      stored k (omega arith) (table_upto s h entered k) (upto_formed s h entered k) (omega (arith, so_far.few)) (apart k (omega arith)) so_far e)
      (λ k l so_far e. passed_over k (omega arith) (table_upto s h entered k) so_far e)

-- ---- the whole table

-- the entries that fill it up flip nothing, and none is true
module _ (plain named : List ℕ) (count v : ℕ) (few : count ≤ most_constraints)
    (spare : (j : ℕ) → count ≤ j → j < most_constraints → entry_true plain named v j ≡ false) where
  filled_fits : min (filled_up count) most_constraints ≡ filled_up count
  filled_fits = min-eq_left {m = most_constraints} (omega arith)

  flips_filled : (flip : List ℕ) → flips_over plain named flip (filled_up count) v ≡ gather count (entry_flips plain named flip v)
  unfolding flips_over entry_flips
  flips_filled flip =
      ap (λ (k : ℕ). gather k (entry_flips plain named flip v)) filled_fits
      ∙ still (λ k. gather k (entry_flips plain named flip v)) count (filled_up count) (omega arith)
      (λ k l b. gather_more k _ ∙ ap (λ (x : Bool). bit_or (gather k (entry_flips plain named flip v)) (cond x (get_or flip k 0) 0)) (spare k l (omega arith)) ∙ or_zero_r _)

  pub any_filled : any_true plain named (filled_up count) v ≡ some count (entry_true plain named v)
  unfolding any_true
  any_filled =
      ap (λ (k : ℕ). some k (entry_true plain named v)) filled_fits
      ∙ still (λ k. some k (entry_true plain named v)) count (filled_up count) (omega arith)
      (λ k l b. some_more k _ ∙ ap (λ (x : Bool). some k (entry_true plain named v) || x) (spare k l (omega arith)) ∙ or-false _)

-- what the code makes of the columns of a set and a mask is its table
pub made_table : (s : Set) (l : Columns) → l ≡ columns_of s → (active : ℕ) (t : Table)
    → t ≡ table_by s (holds_by l.out_plain l.out_negated l.m (bit_and active l.simple)) (without active l.simple) → t ≡ table_of s active
unfolding table_of columns_of
made_table s l el active t et =
    et ∙ ap (λ (x : Columns). table_by s (holds_by x.out_plain x.out_negated x.m (bit_and active x.simple)) (without active x.simple)) el

-- of a well-formed set, where the active constraints are those of a read word: the table's safety, holds and walk are the set's there; and so are its pass, start
-- vector and pass limit, where no output is forced both ways
module _ (s : Set) (w : ℕ) (ok : well_formed s ≡ true) where
  apart : (i : ℕ) → i < s.m → Apart (constraint s i)
  apart i h =
      let c = masks s ok i h in
      record { plain = wide s ok _ c.out_plain; negated = wide s ok _ c.out_negated; once = c.out_once }

  outputs_all : outputs_in s ≡ s.n
  outputs_all = min-eq_left (counts s ok).n_le

  -- the constraints that have an entry
  abbrev entered : ℕ
  entered = without (active_of s w) (columns_of s).simple

  -- the table before it is filled up
  abbrev whole : Table
  whole = table_upto s (holds_of s w) entered s.m

  table_is : table_of s (active_of s w) ≡ with_count (filled_up whole.entries.count) whole
  unfolding table_of table_by
  table_is =
      ap (λ (h : Holds). table_by s h entered) (holds_are s ok w)
      ∙ ap (λ (k : ℕ). with_count (filled_up (table_upto s (holds_of s w) entered k).entries.count) (table_upto s (holds_of s w) entered k)) (counted_all s ok)

  formed : Formed s (holds_of s w) whole
  formed = upto_formed s (holds_of s w) entered s.m

  pub table_holds : (table_of s (active_of s w)).holds ≡ holds_of s w
  table_holds = ap (λ (t : Table). t.holds) table_is ∙ formed.holds_is

  -- where no output is forced both ways
  module _ (free : NoneBoth (F0 s w) (F1 s w)) where
    holds_forced : holds_of s w ≡ Forced (F0 s w) (F1 s w)
    holds_forced = reckoned_forced (F0 s w) (F1 s w) free

    unheld_is : unheld_in s (holds_of s w) ≡ unheld s w
    unfolding unheld_in unheld
    unheld_is = ap (unheld_in s) holds_forced ∙ ap (λ (n : ℕ). unheld_by n (F0 s w) (F1 s w)) outputs_all

    yields_is : (i : ℕ) → yields s w i ≡ yields_in s (holds_of s w) i
    unfolding yields yields_in
    yields_is i = sym (λ j. yielding (outputs_all j) (constraint s i) (bit_and (outs (constraint s i)) (unheld_is j)))

    told : Tells s w s.m whole
    told = tells s w (holds_of s w) entered s.m (fires_by s ok w) yields_is (counts s ok).m_le apart s.m (omega arith)

    few : whole.entries.count ≤ most_constraints
    few = omega (arith, told.few, (counts s ok).m_le)

    limit_free : (table_of s (active_of s w)).limit ≡ pass_limit s w
    unfolding unheld_count
    limit_free = ap (λ (t : Table). t.limit) table_is ∙ formed.limit_is ∙ ap limit_by unheld_is

    pass_free : (v : ℕ) → pass_in (table_of s (active_of s w)) v ≡ pass s w v
    unfolding pass_over pass
    pass_free v =
        ap (λ (t : Table). pass_in t v) table_is
        ∙ ap (bit_xor v) (flips_filled whole.entries.plain whole.entries.named whole.entries.count v few (formed.spare v) whole.flip ∙ sym (told.flipped v))

    safe_free : (v : ℕ) → safe_in (table_of s (active_of s w)) v ≡ safe s w v
    unfolding safe_over
    safe_free v =
        let anys = any_filled whole.entries.plain whole.entries.named whole.entries.count v few (formed.spare v) ∙ sym (told.anys v) in
        ap (λ (t : Table). safe_in t v) table_is
        ∙ ap (λ (h : Holds). safe_held h whole.entries.plain whole.entries.named (filled_up whole.entries.count) v) (formed.holds_is ∙ holds_forced)
        ∙ ap (λ (b : Bool). meets (F1 s w) (F0 s w) v && not b) anys
        ∙ sym (safe_table s w v ok)

    walk_free : (request : ℕ) → walk_in (table_of s (active_of s w)) request ≡ walk s w request
    unfolding walk
    walk_free request = λ i. walk_held (fun_ext safe_free i) (fun_ext pass_free i) (limit_free i) request (table_holds i)

  -- clash or not
  pub table_safe : (v : ℕ) → safe_in (table_of s (active_of s w)) v ≡ safe s w v
  table_safe v =
      by_reckoned (F0 s w) (F1 s w)
      (λ k l. ap (λ (h : Holds). safe_held h (table_of s (active_of s w)).entries.plain (table_of s (active_of s w)).entries.named (table_of s (active_of s w)).entries.count v)
      (table_holds ∙ reckoned_clash (F0 s w) (F1 s w) k l) ∙ sym (clash_unsafe s w v ok k l.off l.on))
      (λ free. safe_free free v)

  pub table_walk : (request : ℕ) → walk_in (table_of s (active_of s w)) request ≡ walk s w request
  unfolding walk
  table_walk request =
      by_reckoned (F0 s w) (F1 s w)
      (λ k l. let t = table_of s (active_of s w) in
      let e = reckoned_clash (F0 s w) (F1 s w) k l in
      ap (walk_held (safe_in t) (pass_in t) t.limit request) (table_holds ∙ e) ∙ sym (ap (walk_held (safe s w) (pass s w) (pass_limit s w) request) e))
      (λ free. walk_free free request)

  -- at a clash no vector is safe
  pub table_clash : (k : ℕ) → (table_of s (active_of s w)).holds ≡ Clash k → (v : ℕ) → safe s w v ≡ false
  table_clash k e v = let l = reckoned_says (F0 s w) (F1 s w) (Clash k) (sym table_holds ∙ e) in clash_unsafe s w v ok k l.off l.on

  -- and no pass is allowed
  pub table_stopped : (k : ℕ) → (table_of s (active_of s w)).holds ≡ Clash k → (table_of s (active_of s w)).limit ≡ 0
  unfolding unheld_in popcount ones_in
  table_stopped k e =
      ap (λ (t : Table). t.limit) table_is ∙ formed.limit_is ∙ ap (λ (h : Holds). limit_by (unheld_in s h)) (sym table_holds ∙ e)

  -- where the table has the two words of forced outputs
  module _ (f0 f1 : ℕ) (forced : (table_of s (active_of s w)).holds ≡ Forced f0 f1) where
    masks_are : (F0 s w ≡ f0) × (F1 s w ≡ f1) × NoneBoth (F0 s w) (F1 s w)
    masks_are = reckoned_says (F0 s w) (F1 s w) (Forced f0 f1) (sym table_holds ∙ forced)

    pub table_start : (request : ℕ) → start_from f0 f1 request ≡ start_vector s w request
    unfolding start_vector
    table_start request = sym (λ i. start_from (masks_are.0 i) (masks_are.1 i) request)

    pub table_limit : (table_of s (active_of s w)).limit ≡ pass_limit s w
    table_limit = limit_free masks_are.2

    pub table_pass : (v : ℕ) → pass_in (table_of s (active_of s w)) v ≡ pass s w v
    table_pass = pass_free masks_are.2

-- two words with the same active constraints have the same safe vectors and the same walks
module _ (s : Set) (ok : well_formed s ≡ true) (u w : ℕ) (same : active_of s u ≡ active_of s w) where
  pub same_safe : (v : ℕ) → safe s u v ≡ safe s w v
  same_safe v = sym (table_safe s u ok v) ∙ ap (λ (a : ℕ). safe_in (table_of s a) v) same ∙ table_safe s w ok v

  pub same_walk : (request : ℕ) → walk s u request ≡ walk s w request
  same_walk request = sym (table_walk s u ok request) ∙ ap (λ (a : ℕ). walk_in (table_of s a) request) same ∙ table_walk s w ok request
