-- What `raw_of` and `header_of` find, one law for each outcome, and what a field that was found tells.
-- Assumes nothing.
use mathlib.Core.Path.{◌≡◌, refl, sym, ◌∙◌, ap, ap₂, subst}
use mathlib.Core.Bool.{Bool, true, false, cond, not, ◌&&◌, ◌||◌}
use mathlib.Core.List.{List}
use Prim.Native.Nat.{ℕ, zero, suc, ◌+◌, ◌*◌, ◌%◌, ◌≤◌, ◌<◌}
use native.Mathlib.Omega.{arith}
use native.Mathlib.Nat.{add-zero}
use lib.Dec.{ltb, leb, eqb, lit<}
use lib.ListN.{length, get_or, drop, length-drop}
use lib.Seq.{get_or-drop}
use borrow.Author.Tests.{not-true, lt-ltb, le-ltb, ltb-false, leb-true, leb-false, eqb-true, eqb-false, ne_eqb}
use Rattle.words.proofs.BoolLaws.{clash, by_test, and_true, or_true, or_false}
use Rattle.scan.specs.Set.{most_constraints, name_places}
use Rattle.header.specs.Tag.{is_constraint, is_wide, tag_by, literal_size}
use Rattle.std.specs.Prelude.{Option, None as Cut, Some, Ok, Err}
use Rattle.header.specs.declared.header.Field.{Field as FieldRead}
use Rattle.header.specs.declared.numbers.Refusal.{Refusal}
use Rattle.header.specs.Fault.{number}
use Rattle.header.specs.Header.{whole, body_length, is_cut, raw_of, tag_bound, shortest, longest, step, fits_table, is_due, need, header_by, header_of, front_of, Header, Refused, Field}
use Rattle.header.specs.way.Header.{front_told}
use Rattle.header.specs.declared.reader.FrontField.{FrontField}

-- ---- the table

-- a length's remainder by its step is taken: no step is 0
pub step_positive : (tag : ℕ) → tag < tag_bound → 0 < step tag
step_positive zero h = lit< tt
step_positive (suc zero) h = lit< tt
step_positive (suc (suc zero)) h = lit< tt
step_positive (suc (suc (suc zero))) h = lit< tt
step_positive (suc (suc (suc (suc zero)))) h = lit< tt
step_positive (suc (suc (suc (suc (suc zero))))) h = lit< tt
step_positive (suc (suc (suc (suc (suc (suc zero)))))) h = lit< tt
step_positive (suc (suc (suc (suc (suc (suc (suc zero))))))) h = lit< tt
step_positive (suc (suc (suc (suc (suc (suc (suc (suc tag)))))))) h = absurd (omega arith)

-- what a length in the table is
pub table_bounds : (tag len : ℕ) → fits_table tag len ≡ true → (shortest tag ≤ len) × (len ≤ longest tag) × (len % step tag ≡ 0)
table_bounds tag len e =
    let a = and_true (ltb tag tag_bound) (leb (shortest tag) len && (leb len (longest tag) && eqb (len % step tag) 0)) e in
    let b = and_true (leb (shortest tag) len) (leb len (longest tag) && eqb (len % step tag) 0) a.1 in
    let c = and_true (leb len (longest tag)) (eqb (len % step tag) 0) b.1 in
    (leb-true _ _ b.0, leb-true _ _ c.0, eqb-true _ _ c.1)

-- ---- the field at the front of what is left

-- what a field that is there says
tag_in : Option FieldRead → ℕ
tag_in Cut = 0
tag_in (Some f) = f.tag

len_in : Option FieldRead → ℕ
len_in Cut = 0
len_in (Some f) = f.len

module _ (s : List ℕ) where
  pub cut_header : length s < 3 → is_cut s ≡ true
  cut_header h = ap (λ (b : Bool). b || ltb (length s) (3 + body_length s)) (lt-ltb _ _ h)

  pub cut_body : 3 ≤ length s → length s < 3 + body_length s → is_cut s ≡ true
  cut_body h l = ap₂ ◌||◌ (le-ltb _ _ h) (lt-ltb _ _ l)

  pub not_cut : 3 ≤ length s → 3 + body_length s ≤ length s → is_cut s ≡ false
  not_cut h l = ap₂ ◌||◌ (le-ltb _ _ h) (le-ltb _ _ l)

  pub raw_cut : is_cut s ≡ true → raw_of s ≡ Cut
  unfolding raw_of
  raw_cut e = ap (λ (b : Bool). cond b Cut (whole (get_or s 0 0) (body_length s))) e

  pub raw_field : is_cut s ≡ false → raw_of s ≡ whole (get_or s 0 0) (body_length s)
  unfolding raw_of
  raw_field e = ap (λ (b : Bool). cond b Cut (whole (get_or s 0 0) (body_length s))) e

  -- what a field that is there tells
  pub record Told (tag len : ℕ) : Type 0 where
    pub tag_is : get_or s 0 0 ≡ tag
    pub length_is : body_length s ≡ len
    pub within : 3 + len ≤ length s

  pub raw_told : (tag len : ℕ) → raw_of s ≡ whole tag len → Told tag len
  unfolding len_in tag_in
  raw_told tag len e = by_test (is_cut s) (λ q. absurd (never (sym (raw_cut q) ∙ e))) go
    where
      never : Cut ≡ whole tag len → ⊥
      never x = let z : ◌≡◌ {A = ℕ} 0 1 = cc in omega arith

      go : is_cut s ≡ false → Told tag len
      go q =
          let f : whole (get_or s 0 0) (body_length s) ≡ whole tag len = sym (raw_field q) ∙ e in
          let l : body_length s ≡ len = ap len_in f in
          let w = ltb-false (length s) (3 + body_length s) (or_false (ltb (length s) 3) _ q).1 in
          record { tag_is = ap tag_in f; length_is = l; within = omega arith }

-- the header of what is left from a place on
module _ (s : List ℕ) (place : ℕ) where
  pub tag_at : get_or (drop place s) 0 0 ≡ get_or s place 0
  tag_at = get_or-drop place s 0 0 ∙ ap (λ (k : ℕ). get_or s k 0) (add-zero place)

  pub length_at : body_length (drop place s) ≡ get_or s (place + 1) 0 * 256 + get_or s (place + 2) 0
  length_at = simp get_or-drop

-- ---- its tests

module _ (s : List ℕ) (due m : ℕ) where
  pub past_end : raw_of s ≡ Cut → header_of s due m ≡ Refused 1
  unfolding header_of
  past_end e = rw e

  module _ (tag len : ℕ) (e : raw_of s ≡ whole tag len) where
    pub not_due : is_due due tag ≡ false → header_of s due m ≡ Refused 2
    unfolding header_of
    not_due d = rw (e, d)

    module _ (d : is_due due tag ≡ true) where
      pub too_many : (is_constraint tag && leb most_constraints m) ≡ true → header_of s due m ≡ Refused 3
      unfolding header_of
      too_many g = rw (e, d, g)

      module _ (g : (is_constraint tag && leb most_constraints m) ≡ false) where
        pub not_in_table : fits_table tag len ≡ false → header_of s due m ≡ Refused 4
        unfolding header_of
        not_in_table t = rw (e, d, g, t)

        pub a_field : fits_table tag len ≡ true → header_of s due m ≡ Field tag len
        unfolding header_of
        a_field t = rw (e, d, g, t)

-- ---- what a field that passes them tells

pub record Found (s : List ℕ) (due m tag len : ℕ) : Type 0 where
  pub tag_is : get_or s 0 0 ≡ tag
  pub length_is : body_length s ≡ len
  pub within : 3 + len ≤ length s
  pub awaited : is_due due tag ≡ true
  pub few : (is_constraint tag && leb most_constraints m) ≡ false
  pub table : fits_table tag len ≡ true

passed : (b : Bool) (number : ℕ) (rest : Header) (tag len : ℕ) → need b number rest ≡ Field tag len → (b ≡ true) × (rest ≡ Field tag len)
passed true number rest tag len e = (refl, e)
passed false number rest tag len e = let z : ◌≡◌ {A = ℕ} 0 1 = cc in absurd (omega arith)

pub found : (s : List ℕ) (due m tag len : ℕ) → header_of s due m ≡ Field tag len → Found s due m tag len
unfolding header_of
found s due m tag len e = go (raw_of s) refl e
  where
    go : (f : Option FieldRead) → raw_of s ≡ f → header_by due m f ≡ Field tag len → Found s due m tag len
    go Cut q e = let z : ◌≡◌ {A = ℕ} 0 1 = cc in absurd (omega arith)
    go (Some f) q e =
        let k = f.tag in
        let j = f.len in
        let a = passed (is_due due k) 2 _ tag len e in
        let b = passed (not (is_constraint k && leb most_constraints m)) 3 _ tag len a.1 in
        let c = passed (fits_table k j) 4 _ tag len b.1 in
        let t : k ≡ tag = let h = c.1 in cc in
        let l : j ≡ len = let h = c.1 in cc in
        let told = raw_told s tag len (q ∙ ap₂ whole t l) in
        record {
          tag_is = told.tag_is;
          length_is = told.length_is;
          within = told.within;
          awaited = subst (λ (x : ℕ). is_due due x ≡ true) t a.0;
          few = subst (λ (x : ℕ). (is_constraint x && leb most_constraints m) ≡ false) t (not-true (is_constraint k && leb most_constraints m) b.0);
          table = ap₂ (λ (x y : ℕ). fits_table x y) (sym t) (sym l) ∙ c.0;
        }

-- a field that was found at a place is within the file
pub field_within : (s : List ℕ) (at due m tag len : ℕ) → header_of (drop at s) due m ≡ Field tag len → at + 3 + len ≤ length s
field_within s at due m tag len e = omega (arith, length-drop at s, (found (drop at s) due m tag len e).within)

-- ---- the bounds of a body, by the tag that was due

-- the tag found is the one due, where no constraints are
pub due_is : (due tag : ℕ) → (due ≡ 4 → ⊥) → is_due due tag ≡ true → tag ≡ due
due_is due tag n e =
    by_test (eqb tag due) (λ t. eqb-true tag due t)
    (λ t. clash (or_true (eqb tag due) (eqb due 4 && (eqb tag 5 || eqb tag 7)) e t) (ap (λ (b : Bool). b && (eqb tag 5 || eqb tag 7)) (ne_eqb due 4 n)))

-- where constraints are due, it is a constraint's or the end's
pub constraint_due : (tag : ℕ) → (tag ≡ 5 → ⊥) → is_due 4 tag ≡ true → tag ≡ tag_by (is_wide tag)
constraint_due tag n e = by_test (eqb tag 7) high low
  where
    high : eqb tag 7 ≡ true → tag ≡ tag_by (eqb tag 7)
    high t = eqb-true tag 7 t ∙ ap tag_by (sym t)

    low : eqb tag 7 ≡ false → tag ≡ tag_by (eqb tag 7)
    low t =
        by_test (eqb tag 4) (λ w. eqb-true tag 4 w ∙ ap tag_by (sym t))
        (λ w. clash (or_true (eqb tag 5) (eqb tag 7) (or_true (eqb tag 4) (eqb tag 5 || eqb tag 7) e w) (ne_eqb tag 5 n)) t)

pub body_bounds : (s : List ℕ) (due m tag len : ℕ) → (due ≡ 4 → ⊥) → header_of s due m ≡ Field tag len → (shortest due ≤ len) × (len ≤ longest due)
body_bounds s due m tag len n e =
    let f = found s due m tag len e in
    let b = table_bounds due len (subst (λ (k : ℕ). fits_table k len ≡ true) (due_is due tag n f.awaited) f.table) in
    (b.0, b.1)

pub counts_length : (s : List ℕ) (tag len : ℕ) → header_of s 1 0 ≡ Field tag len → len ≡ 2
counts_length s tag len e = let b = body_bounds s 1 0 tag len (eqb-false 1 4 refl) e in omega arith

pub read_length : (s : List ℕ) (tag len : ℕ) → header_of s 2 0 ≡ Field tag len → (3 ≤ len) × (len ≤ 2 + name_places)
read_length s tag len e = body_bounds s 2 0 tag len (eqb-false 2 4 refl) e

pub output_length : (s : List ℕ) (tag len : ℕ) → header_of s 3 0 ≡ Field tag len → (1 ≤ len) × (len ≤ name_places)
output_length s tag len e = body_bounds s 3 0 tag len (eqb-false 3 4 refl) e

pub rest_length : (s : List ℕ) (tag len : ℕ) → header_of s 6 0 ≡ Field tag len → len ≡ 2
rest_length s tag len e = let b = body_bounds s 6 0 tag len (eqb-false 6 4 refl) e in omega arith

-- where a constraint or the end is due, and the end was not found: the tag is a constraint's, the body has whole literals, and there is room
pub constraint_length : (s : List ℕ) (m tag len : ℕ) → (tag ≡ 5 → ⊥) → header_of s 4 m ≡ Field tag len → (len % literal_size (is_wide tag) ≡ 0) × (m < most_constraints)
constraint_length s m tag len n e = go (is_wide tag) refl (constraint_due tag n f.awaited)
  where
    f : Found s 4 m tag len
    f = found s 4 m tag len e

    by : (t : ℕ) → tag ≡ t → is_constraint t ≡ true → (len % step t ≡ 0) × (m < most_constraints)
    by t same is = (
      (table_bounds t len (subst (λ (k : ℕ). fits_table k len ≡ true) same f.table)).2,
      leb-false most_constraints m (subst (λ (b : Bool). (b && leb most_constraints m) ≡ false) is (subst (λ (k : ℕ). (is_constraint k && leb most_constraints m) ≡ false) same f.few)),
    )

    go : (wide : Bool) → is_wide tag ≡ wide → tag ≡ tag_by (is_wide tag) → (len % literal_size wide ≡ 0) × (m < most_constraints)
    go true w t = by 7 (t ∙ ap tag_by w) refl
    go false w t = by 4 (t ∙ ap tag_by w) refl

-- ---- the field at a place of a file

module _ (s : List ℕ) (at due m : ℕ) where
  module _ (f : FrontField) (e : front_told (Ok f) ≡ front_of s at due m) where
    -- its first byte is at that place
    pub front_place : f.at ≡ at
    front_place = λ i. (e i).at

    -- its header is the one at that place
    pub front_there : header_of (drop at s) due m ≡ Field f.tag f.len
    front_there = λ i. (sym e i).header

    -- which is the one at the offset that it tells
    pub front_header : header_of (drop f.at s) due m ≡ Field f.tag f.len
    front_header = ap (λ (x : ℕ). header_of (drop x s) due m) front_place ∙ front_there

    -- it is within the file
    pub front_within : f.at + 3 + f.len ≤ length s
    front_within = field_within s f.at due m f.tag f.len front_header

  module _ (r : Refusal) (e : front_told (Err r) ≡ front_of s at due m) where
    -- the refusal tells that place
    pub stopped_place : r.offset ≡ at
    stopped_place = λ i. (e i).at

    -- and what the header there is refused for
    pub stopped_there : header_of (drop at s) due m ≡ Refused (number r.fault)
    stopped_there = λ i. (sym e i).header
