-- Runs of fields that each give a point: one law for read points and outputs, as they differ only in what a body says.
-- Assumes nothing.
use mathlib.Core.Path.{◌≡◌, refl, sym, ◌∙◌, ap, ap₂, subst}
use mathlib.Core.Logic.{inr}
use mathlib.Core.Bool.{Bool, true, false, ◌&&◌, ◌||◌}
use mathlib.Core.List.{List, ◌++◌}
use Prim.Native.Nat.{ℕ, suc, ◌+◌, ◌≤◌, ◌<◌}
use native.Mathlib.Nat.{add-zero}
use native.Mathlib.Omega.{arith}
use lib.Dec.{leb, eqb}
use lib.ListN.{length, get_or, take, drop, set}
use borrow.Author.Tests.{eqb-false, eq-eqb}
use Rattle.words.proofs.BoolLaws.{or_left, or_false}
use Rattle.scan.specs.declared.set.Set.{Set}
use Rattle.scan.specs.Set.{most_constraints}
use Rattle.header.specs.Header.{Header, Refused as Stopped, Field, header_of, body_of, fits_table}
use Rattle.header.specs.Fault.{Taken, Refused as Denied, Good}
use Rattle.loader.specs.Load.{At, Loading, going_on, and_then, field_done, field_by}
use Rattle.header.specs.Bytes.{Bytes}
use Rattle.header.specs.Tag.{is_constraint}
use Rattle.writer.specs.Write.{field_of, fields_of}
use Rattle.header.proofs.HeaderLaws.{due_is}
use Rattle.setfile.proofs.Fields.{body_back, field_back, found}
use Rattle.setfile.proofs.FieldRuns.{Run, begun, Moved, Done, run_back, run_taken}

-- A body says whether it gives a point of the set so far, and which.
module _ {A : Type 0} (file : List ℕ) (R : Run A) (said : List ℕ → Set → ℕ → Taken) (value : List ℕ → Set → ℕ → A) where
  -- the field of a point, by its header
  abbrev pub point_by : ℕ → ℕ → List A → Header → Loading
  point_by at i l = field_by file at (λ b. said b (R.base i l) i) (λ b. R.base (i + 1) (set l i (value b (R.base i l) i)))

-- a run of such fields: they have one tag, which is not a constraint's, it goes on by one field after the other, a point that fits is given by its body, and a
-- body that gives a point is that of a point that fits
pub record PointRun (A : Type 0) (file : List ℕ) : Type 1 where
  pub run : Run A
  pub said : List ℕ → Set → ℕ → Taken
  pub value : List ℕ → Set → ℕ → A
  pub due : ℕ
  pub one_tag : (p : A) → run.tag p ≡ due
  pub plain : is_constraint due ≡ false
  pub ends : (i at : ℕ) (s : Set) → run.from 0 i at s ≡ going_on at s
  pub opens : (left i at : ℕ) (l : List A)
      → run.from (suc left) i at (run.base i l) ≡ and_then (point_by file run said value at i l (header_of (drop at file) due 0)) (run.from left (i + 1))
  pub gives : (l : List A) (i : ℕ) (p : A) → run.Fits l i p
      → (fits_table due (length (run.body p)) ≡ true) × (said (run.body p) (run.base i l) i ≡ Good) × (value (run.body p) (run.base i l) i ≡ p)
  pub takes : (b : List ℕ) (l : List A) (i : ℕ) → fits_table due (length b) ≡ true → said b (run.base i l) i ≡ Good
      → run.Fits l i (value b (run.base i l) i) × (run.body (value b (run.base i l) i) ≡ b)

module _ {A : Type 0} (file : List ℕ) (K : PointRun A file) where
  no_constraint : (b : Bool) → (is_constraint K.due && b) ≡ false
  no_constraint b = ap (λ (t : Bool). t && b) K.plain

  not_4 : K.due ≡ 4 → ⊥
  not_4 = eqb-false K.due 4 (or_false (eqb K.due 4) (eqb K.due 7) K.plain).0

  -- a field whose body gives a point that fits is taken
  step : (left i at : ℕ) (l : List A) (p : A) (rest : List ℕ) → i < K.run.places → K.run.Fits l i p → drop at file ≡ field_of (K.run.tag p) (K.run.body p) ++ rest
      → K.run.from (suc left) i at (K.run.base i l) ≡ K.run.from left (i + 1) (at + 3 + length (K.run.body p)) (K.run.base (i + 1) (set l i p))
  step left i at l p rest h f e =
      let due = K.due in
      let g = K.gives l i p f in
      let b = K.run.body p in
      let here : drop at file ≡ field_of due b ++ rest = e ∙ ap (λ (t : ℕ). field_of t b ++ rest) (K.one_tag p) in
      let len = length b in
      let s = K.run.base i l in
      let hd : header_of (drop at file) due 0 ≡ Field due len =
      ap (λ (x : List ℕ). header_of x due 0) here
      ∙ field_back due b rest due 0 (or_left (eqb due due) (eqb due 4 && (eqb due 5 || eqb due 7)) (eq-eqb due due refl)) (no_constraint (leb most_constraints 0)) g.0 in
      let bd : body_of (drop at file) len ≡ b = ap (λ (x : List ℕ). body_of x len) here ∙ body_back due b rest in
      K.opens left i at l
      ∙ ap (λ (x : Header). and_then (point_by file K.run K.said K.value at i l x) (K.run.from left (i + 1))) hd
      ∙ ap₂ (λ (t : Taken) (x : A). and_then (field_done at len t (K.run.base (i + 1) (set l i x))) (K.run.from left (i + 1)))
      (ap (λ (x : List ℕ). K.said x s i) bd ∙ g.1) (ap (λ (x : List ℕ). K.value x s i) bd ∙ g.2)

  -- a field that was taken is the one written for a point that fits
  moved : Bytes file → (last left i at : ℕ) (l : List A) → i < K.run.places → (K.run.from (suc left) i at (K.run.base i l)).progress ≡ At last → Moved file K.run left i at l
  moved bytes last left i at l h e =
      by_header (header_of (drop at file) due 0) refl (ap (λ (x : Loading). x.progress) (sym (K.opens left i at l)) ∙ e)
    where
      due : ℕ
      due = K.due

      s : Set
      s = K.run.base i l

      next : ℕ → Set → Loading
      next = K.run.from left (i + 1)

      by_point : (tag len : ℕ) → header_of (drop at file) due 0 ≡ Field tag len → (t : Taken) → K.said (body_of (drop at file) len) s i ≡ t
          → (and_then (field_done at len t (K.run.base (i + 1) (set l i (K.value (body_of (drop at file) len) s i)))) next).progress ≡ At last → Moved file K.run left i at l
      by_point tag len hd (Denied number) t u = let w : ◌≡◌ {A = ℕ} 0 1 = cc in absurd (omega arith)
      by_point tag len hd Good t u =
          let f = found file at due 0 tag len bytes hd in
          let b = body_of (drop at file) len in
          let same : tag ≡ due = due_is due tag not_4 f.awaited in
          let g = K.takes b l i (ap₂ fits_table (sym same) f.long ∙ f.table) t in
          record {
            point = K.value b s i;
            after = at + 3 + len;
            inside = h;
            fit = g.0;
            field = f.whole ∙ ap₂ (λ (x : ℕ) (y : List ℕ). field_of x y ++ drop (at + 3 + len) file) (same ∙ sym (K.one_tag (K.value b s i))) (sym g.1);
            on =
                K.opens left i at l
                ∙ ap (λ (x : Header). and_then (point_by file K.run K.said K.value at i l x) next) hd
                ∙ ap (λ (x : Taken). and_then (field_done at len x (K.run.base (i + 1) (set l i (K.value b s i)))) next) t;
          }

      by_header : (x : Header) → header_of (drop at file) due 0 ≡ x → (and_then (point_by file K.run K.said K.value at i l x) next).progress ≡ At last → Moved file K.run left i at l
      by_header (Stopped number) t u = let w : ◌≡◌ {A = ℕ} 0 1 = cc in absurd (omega arith)
      by_header (Field tag len) t u = by_point tag len t (K.said (body_of (drop at file) len) s i) refl u

  -- The fields of N points load to them.
  pub points_back : (full : List A) (N : ℕ) → length full ≡ K.run.places → N ≤ K.run.places → ((k : ℕ) → k < N → K.run.Fits full k (get_or full k K.run.past))
      → ((k : ℕ) → N ≤ k → k < K.run.places → get_or full k K.run.past ≡ K.run.blank)
      → (at : ℕ) (tail : List ℕ) → drop at file ≡ fields_of K.run.tag K.run.body (take N full) ++ tail
      → (at' : ℕ) × (begun K.run N at ≡ going_on at' (K.run.base N full)) × (drop at' file ≡ tail)
  points_back full N long few fits rest at tail w =
      let t = run_back file K.run step full N long few fits rest 0 at tail w in (
        t.0,
        ap (λ (k : ℕ). begun K.run k at) (sym (add-zero N)) ∙ t.1 ∙ K.ends N t.0 (K.run.base N full),
        t.2,
      )

  -- N points that were loaded fit, and the fields are the ones written for them.
  pub points_taken : Bytes file → (N : ℕ) → N ≤ K.run.places → (start last : ℕ) → (begun K.run N start).progress ≡ At last
      → (at : ℕ) × (full : List A) × Done file K.run start N at full
      × (begun K.run N start ≡ going_on at (K.run.base N full))
  points_taken bytes N few start last t =
      let e = run_taken file K.run N last (λ left i at l. left ≡ 0) (λ i at l u v. refl) (λ left i at l u v. inr (moved bytes last left i at l (omega arith) v)) start t in
      let none = e.stop in
      let total = e.total in
      let all : e.count ≡ N = omega arith in (
        e.place,
        e.full,
        subst (λ (k : ℕ). Done file K.run start k e.place e.full) all e.done,
        e.loaded ∙ ap₂ (λ (k j : ℕ). K.run.from k j e.place (K.run.base j e.full)) none all ∙ K.ends N e.place (K.run.base N e.full),
      )
