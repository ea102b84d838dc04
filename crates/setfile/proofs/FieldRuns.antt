-- A run of fields of one kind, each of which fills one place of an array: what was written is loaded, and what was loaded is as it would be written.
-- Assumes nothing.
use mathlib.Core.Path.{◌≡◌, refl, sym, ◌∙◌, ap, ap₂, subst}
use mathlib.Core.Logic.{◌⊎◌, ⊎_elim}
use mathlib.Core.List.{List, [], ◌∷◌, ◌++◌, append_assoc, append-nil}
use Prim.Native.Nat.{ℕ, zero, suc, ◌+◌, ◌≤◌, ◌<◌}
use native.Mathlib.Nat.{zero-add}
use native.Mathlib.Numerals.{add-one}
use native.Mathlib.Decide.{ℕ_discrete, dec_lt}
use native.Mathlib.Omega.{arith}
use lib.ListN.{length, get_or, take, drop, set, replicate, length-set, length-replicate, get_or-replicate}
use lib.Seq.{get_or-set_same, get_or-set_other, take-suc-set, drop-cons, ext_get_or}
use Rattle.scan.specs.declared.set.Set.{Set}
use Rattle.loader.specs.Load.{At, Loading}
use Rattle.writer.specs.Write.{field_of, fields_of}
use Rattle.writer.proofs.WriteLaws.{fields_append}
use Rattle.setfile.proofs.Fields.{after_field}

-- an array of M places of which those from i on are zero
pub record Filled {A : Type 0} (z d : A) (M i : ℕ) (l : List A) : Type 0 where
  pub long : length l ≡ M
  pub blank : (k : ℕ) → i ≤ k → k < M → get_or l k d ≡ z

module _ {A : Type 0} (z d : A) (M : ℕ) where
  filled_none : Filled z d M 0 (replicate M z)
  filled_none = record { long = length-replicate M z; blank = λ k h l. get_or-replicate M k z d l }

  filled_more : (i : ℕ) (l : List A) (p : A) → Filled z d M i l → Filled z d M (i + 1) (set l i p)
  filled_more i l p f = record {
    long = length-set l i p ∙ f.long;
    blank = λ k h w. get_or-set_other l i k p d (λ e. omega arith) ∙ f.blank k (omega arith) w;
  }

-- One kind of field: tags and bodies; the array of so many places that the fields fill, with what stands in a place not filled and what is read
-- past the last; the set of an array of which i places are filled; the load from place `at` of the file on, where i places are filled and at most
-- `left` fields are to come; and which points fit at place i, which the places before decide.
pub record Run (A : Type 0) : Type 1 where
  pub tag : A → ℕ
  pub body : A → List ℕ
  pub places : ℕ
  pub blank : A
  pub past : A
  pub base : ℕ → List A → Set
  pub from : ℕ → ℕ → ℕ → Set → Loading
  pub Fits : List A → ℕ → A → Type 0
  pub local : (a b : List A) (i : ℕ) (p : A) → ((k : ℕ) → k < i → get_or a k past ≡ get_or b k past) → Fits a i p → Fits b i p

-- the load of a run from its start on: at most so many fields, from a place of the file, into places that are not filled
abbrev pub begun : {A : Type 0} → Run A → ℕ → ℕ → Loading
begun R left at = R.from left 0 at (R.base 0 (replicate R.places R.blank))

module _ {A : Type 0} (file : List ℕ) (R : Run A) where
  -- ---- written, then loaded
  module _ (step : (left i at : ℕ) (l : List A) (p : A) (rest : List ℕ) → i < R.places → R.Fits l i p → drop at file ≡ field_of (R.tag p) (R.body p) ++ rest
      → R.from (suc left) i at (R.base i l) ≡ R.from left (i + 1) (at + 3 + length (R.body p)) (R.base (i + 1) (set l i p)))
      (full : List A) (N : ℕ) (long : length full ≡ R.places) (few : N ≤ R.places) (fits : (k : ℕ) → k < N → R.Fits full k (get_or full k R.past)) where
    -- the first i places are those of the full array
    abbrev Copied : ℕ → List A → Type 0
    Copied i l = Filled R.blank R.past R.places i l × ((k : ℕ) → k < i → get_or l k R.past ≡ get_or full k R.past)

    copied_more : (i : ℕ) (l : List A) → i < R.places → Copied i l → Copied (i + 1) (set l i (get_or full i R.past))
    copied_more i l h c = (filled_more R.blank R.past R.places i l (get_or full i R.past) c.0, λ k w. go k w (ℕ_discrete k i))
      where
        go : (k : ℕ) → k < i + 1 → Dec (k ≡ i) → get_or (set l i (get_or full i R.past)) k R.past ≡ get_or full k R.past
        go k w (yes e) =
            let n = c.0.long in
            ap (λ (j : ℕ). get_or (set l i (get_or full i R.past)) j R.past) e ∙ get_or-set_same l i (get_or full i R.past) R.past (omega arith) ∙ ap (λ (j : ℕ). get_or full j R.past) (sym e)
        go k w (no e) = get_or-set_other l i k (get_or full i R.past) R.past e ∙ c.1 k (omega arith)

    loads_on : (todo left i at : ℕ) (l : List A) (tail : List ℕ) → i + todo ≡ N → Copied i l → drop at file ≡ fields_of R.tag R.body (take todo (drop i full)) ++ tail
        → (at' : ℕ) × (l' : List A) × Copied N l' × (R.from (todo + left) i at (R.base i l) ≡ R.from left N at' (R.base N l')) × (drop at' file ≡ tail)
    unfolding fields_of
    loads_on zero left i at l tail e c w =
        let n : i ≡ N = omega arith in
        let s : 0 + left ≡ left = omega arith in
        (at, l, subst (λ (k : ℕ). Copied k l) n c, ap₂ (λ (k j : ℕ). R.from k j at (R.base j l)) s n, w)
    loads_on (suc todo) left i at l tail e c w =
        let p = get_or full i R.past in
        let more = fields_of R.tag R.body (take todo (drop (i + 1) full)) ++ tail in
        let q : drop i full ≡ p ∷ drop (i + 1) full = rw add-one (drop-cons full i R.past (omega arith)) in
        let w' : drop at file ≡ field_of (R.tag p) (R.body p) ++ more =
        w ∙ ap (λ (m : List A). fields_of R.tag R.body (take (suc todo) m) ++ tail) q
        ∙ append_assoc (field_of (R.tag p) (R.body p)) (fields_of R.tag R.body (take todo (drop (i + 1) full))) tail in
        let fit = R.local full l i p (λ k h. sym (c.1 k h)) (fits i (omega arith)) in
        let one = step (todo + left) i at l p more (omega arith) fit w' in
        let t = loads_on todo left (i + 1) (at + 3 + length (R.body p)) (set l i p) tail (omega arith) (copied_more i l (omega arith) c) (after_field file at (R.tag p) (R.body p) more w') in
        let s : suc todo + left ≡ suc (todo + left) = omega arith in
        (t.0, t.1, t.2, ap (λ (k : ℕ). R.from k i at (R.base i l)) s ∙ one ∙ t.3, t.4)

    -- The fields of the first N places of an array whose other places are zero load to that array.
    pub run_back : ((k : ℕ) → N ≤ k → k < R.places → get_or full k R.past ≡ R.blank) → (left at : ℕ) (tail : List ℕ) → drop at file ≡ fields_of R.tag R.body (take N full) ++ tail
        → (at' : ℕ) × (begun R (N + left) at ≡ R.from left N at' (R.base N full)) × (drop at' file ≡ tail)
    run_back rest left at tail w =
        let t = loads_on N left 0 at (replicate R.places R.blank) tail (zero-add N) (filled_none R.blank R.past R.places, λ k h. absurd (omega arith)) w in
        let c = t.2 in
        let l = c.0.long in
        let same : t.1 ≡ full = ext_get_or R.past t.1 full (omega arith) (λ k h. go k (omega arith) c (dec_lt k N)) in
        (t.0, t.3 ∙ ap (λ (m : List A). R.from left N t.0 (R.base N m)) same, t.4)
      where
        go : (k : ℕ) → k < R.places → {m : List A} → Copied N m → Dec (k < N) → get_or m k R.past ≡ get_or full k R.past
        go k h c (yes w) = c.1 k w
        go k h c (no w) = c.0.blank k (omega arith) h ∙ sym (rest k (omega arith) h)

  -- ---- loaded, then written

  -- the first i places are filled by fields of the file R .from `start` to `at`
  pub record Done (start i at : ℕ) (l : List A) : Type 0 where
    pub filled : Filled R.blank R.past R.places i l
    pub fits : (k : ℕ) → k < i → R.Fits l k (get_or l k R.past)
    pub written : drop start file ≡ fields_of R.tag R.body (take i l) ++ drop at file

  -- one field more was taken
  pub record Moved (left i at : ℕ) (l : List A) : Type 0 where
    pub point : A
    pub after : ℕ
    pub inside : i < R.places
    pub fit : R.Fits l i point
    pub field : drop at file ≡ field_of (R.tag point) (R.body point) ++ drop after file
    pub on : R.from (suc left) i at (R.base i l) ≡ R.from left (i + 1) after (R.base (i + 1) (set l i point))

  done_none : (start : ℕ) → Done start 0 start (replicate R.places R.blank)
  unfolding fields_of
  done_none start = record { filled = filled_none R.blank R.past R.places; fits = λ k h. absurd (omega arith); written = refl }

  done_more : (start left i at : ℕ) (l : List A) → Done start i at l → (m : Moved left i at l) → Done start (i + 1) m.after (set l i m.point)
  unfolding fields_of
  done_more start left i at l f m =
      let p = m.point in
      let n = f.filled.long in
      let w = m.inside in
      record {
        filled = filled_more R.blank R.past R.places i l p f.filled;
        fits = λ k h. go k h (ℕ_discrete k i);
        written =
            f.written ∙ ap (λ (s : List ℕ). fields_of R.tag R.body (take i l) ++ s) m.field
            ∙ sym (append_assoc (fields_of R.tag R.body (take i l)) (field_of (R.tag p) (R.body p)) (drop m.after file))
            ∙ ap (λ (s : List ℕ). (fields_of R.tag R.body (take i l) ++ s) ++ drop m.after file) (sym (append-nil (field_of (R.tag p) (R.body p))))
            ∙ ap (λ (s : List ℕ). s ++ drop m.after file)
            (sym (ap (λ (k : ℕ). fields_of R.tag R.body (take k (set l i p))) (add-one i) ∙ ap (fields_of R.tag R.body) (take-suc-set l i p (omega arith)) ∙ fields_append R.tag R.body (take i l) (p ∷ [])));
      }
    where
      kept : (k : ℕ) → k < i → get_or (set l i m.point) k R.past ≡ get_or l k R.past
      kept k h = get_or-set_other l i k m.point R.past (λ e. omega arith)

      go : (k : ℕ) → k < i + 1 → Dec (k ≡ i) → R.Fits (set l i m.point) k (get_or (set l i m.point) k R.past)
      go k h (yes e) =
          let n = f.filled.long in
          let w = m.inside in
          subst (λ (j : ℕ). R.Fits (set l i m.point) j (get_or (set l i m.point) j R.past)) (sym e)
          (subst (R.Fits (set l i m.point) i) (sym (get_or-set_same l i m.point R.past (omega arith)))
          (R.local l (set l i m.point) i m.point (λ j u. sym (kept j u)) m.fit))
      go k h (no e) =
          let w : k < i = omega arith in
          subst (R.Fits (set l i m.point) k) (sym (kept k w))
          (R.local l (set l i m.point) k (get_or l k R.past) (λ j u. sym (kept j (omega arith))) (f.fits k w))

  -- a run stops where no field more is taken
  module _ (T last : ℕ) (Stop : ℕ → ℕ → ℕ → List A → Type 0)
      (back-zero : (i at : ℕ) (l : List A) → i + 0 ≡ T → (R.from 0 i at (R.base i l)).progress ≡ At last → Stop 0 i at l)
      (back-suc : (left i at : ℕ) (l : List A) → i + suc left ≡ T → (R.from (suc left) i at (R.base i l)).progress ≡ At last → Stop (suc left) i at l ⊎ Moved left i at l) where
    -- how a run ended
    pub record Ended (start : ℕ) (load : Loading) : Type 0 where
      pub count : ℕ
      pub spare : ℕ
      pub place : ℕ
      pub full : List A
      pub total : count + spare ≡ T
      pub done : Done start count place full
      pub stop : Stop spare count place full
      pub loaded : load ≡ R.from spare count place (R.base count full)

    ends : (start left i at : ℕ) (l : List A) → i + left ≡ T → Done start i at l → (R.from left i at (R.base i l)).progress ≡ At last → Ended start (R.from left i at (R.base i l))
    ends start zero i at l e f t =
        record { count = i; spare = 0; place = at; full = l; total = e; done = f; stop = back-zero i at l e t; loaded = refl }
    ends start (suc left) i at l e f t =
        ⊎_elim
        (λ s. record { count = i; spare = suc left; place = at; full = l; total = e; done = f; stop = s; loaded = refl })
        (λ m. subst (Ended start) (sym m.on)
        (ends start left (i + 1) m.after (set l i m.point) (omega arith) (done_more start left i at l f m) (ap (λ (x : Loading). x.progress) (sym m.on) ∙ t)))
        (back-suc left i at l e t)

    -- A run that did not fail has filled the array by the fields that are written for it.
    pub run_taken : (start : ℕ) → (begun R T start).progress ≡ At last → Ended start (begun R T start)
    run_taken start t = ends start T 0 start (replicate R.places R.blank) (zero-add T) (done_none start) t
