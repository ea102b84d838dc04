-- Laws of `fields_from`: at a place stands a field of it exactly where the header's definitions find one, with the same tag and body.
-- Assumes nothing.
use mathlib.Core.Path.{◌≡◌, refl, ap, ap₂, ◌∙◌}
use mathlib.Core.Bool.{Bool, true, false, cond}
use mathlib.Core.List.{List}
use mathlib.Core.Logic.{◌⊎◌, inl, inr}
use Prim.Native.Nat.{ℕ, zero, suc, ◌+◌, ◌≤◌, ◌<◌}
use native.Mathlib.Omega.{arith}
use lib.Dec.{eqb, ltb}
use lib.ListN.{length, get_or, take, drop, length-take, length-drop}
use lib.Seq.{take-add, drop_at, drop-drop, length-take-le}
use borrow.Author.Tests.{lt-ltb, le-ltb, ltb-true, ltb-false, ne_eqb}
use Rattle.words.proofs.BoolLaws.{by_test, or_true, or_false}
use Rattle.header.specs.Header.{body_length, is_cut, body_of}
use Rattle.promise.specs.Fields.{Fields, field_size, fields_from}
use Rattle.promise.specs.Fields.Fields.{ends, cut, field}

-- a body that is not cut has the length that its header states
pub body_long : (left : List ℕ) → is_cut left ≡ false → length (body_of left (body_length left)) ≡ body_length left
body_long left e =
    let long : 3 + body_length left ≤ length left = ltb-false (length left) (3 + body_length left) (or_false (ltb (length left) 3) _ e).1 in
    simp (length-take, length-drop) (omega arith)

module _ (at : ℕ) (left : List ℕ) where
  size_is : field_size left ≡ 3 + body_length left
  size_is = omega arith

  -- where a field is cut, the file ends or the field is cut
  pub fields_cut : (most : ℕ) → is_cut left ≡ true → (fields_from most at left ≡ ends at) ⊎ (fields_from most at left ≡ cut at)
  unfolding fields_from
  fields_cut zero e = inr refl
  fields_cut (suc most) e =
      let short : length left < field_size left =
      by_test (ltb (length left) 3) (λ t. let h = ltb-true (length left) 3 t in omega arith)
      (λ t. let h = ltb-true (length left) (3 + body_length left) (or_true (ltb (length left) 3) _ e t) in omega arith) in
      by_test (eqb (length left) 0) (λ t. inl (rw t)) (λ t. inr (rw (t, lt-ltb _ _ short)))

  -- else there is a field
  fields_field : (most : ℕ) → is_cut left ≡ false
      → fields_from (suc most) at left ≡ field at (get_or left 0 0) (body_of left (body_length left)) (fields_from most (at + 3 + body_length left) (drop (3 + body_length left) left))
  unfolding fields_from
  fields_field most e =
      let long : 3 + body_length left ≤ length left = ltb-false (length left) (3 + body_length left) (or_false (ltb (length left) 3) _ e).1 in
      let size = size_is in
      let sum : at + field_size left ≡ at + 3 + body_length left = omega arith in
      let body : drop 3 (take (field_size left) left) ≡ body_of left (body_length left) =
      ap (λ (k : ℕ). drop 3 (take k left)) size ∙ ap (drop 3) (take-add 3 (body_length left) left) ∙ drop_at (take 3 left) (body_of left (body_length left)) 3 (length-take-le 3 left (omega arith)) in
      let rest : fields_from most (at + field_size left) (drop (field_size left) left) ≡ fields_from most (at + 3 + body_length left) (drop (3 + body_length left) left) =
      ap₂ (λ (a k : ℕ). fields_from most a (drop k left)) sum size in
      let some : eqb (length left) 0 ≡ false = ne_eqb (length left) 0 (λ z. omega arith) in
      let whole : ltb (length left) (field_size left) ≡ false = le-ltb (length left) (field_size left) (omega arith) in
      ap₂ (λ (a b : Bool). cond a (ends at) (cond b (cut at) (field at (get_or left 0 0) (drop 3 (take (field_size left) left)) (fields_from most (at + field_size left) (drop (field_size left) left))))) some whole
      ∙ ap₂ (λ (b : List ℕ) (f : Fields). field at (get_or left 0 0) b f) body rest

-- the same at a place of a file
pub fields_at : (file : List ℕ) (most at : ℕ) → is_cut (drop at file) ≡ false
    → fields_from (suc most) at (drop at file)
    ≡ field at (get_or (drop at file) 0 0) (body_of (drop at file) (body_length (drop at file)))
    (fields_from most (at + 3 + body_length (drop at file)) (drop (at + 3 + body_length (drop at file)) file))
fields_at file most at e =
    let left = drop at file in
    let len = body_length left in
    let sum : at + (3 + len) ≡ at + 3 + len = omega arith in
    fields_field at left most e ∙ ap (λ (l : List ℕ). field at (get_or left 0 0) (body_of left len) (fields_from most (at + 3 + len) l)) (drop-drop (3 + len) at file ∙ ap (λ (k : ℕ). drop k file) sum)

-- Two columns over the fields at a place are the same, if they are where no field stands and where one of the tag that stands there does.
pub columns_same : {A : Type 0} (f g : Fields → A) (at : ℕ) (left : List ℕ) (most : ℕ) → f (ends at) ≡ g (ends at) → f (cut at) ≡ g (cut at)
    → ((body : List ℕ) (rest : Fields) → f (field at (get_or left 0 0) body rest) ≡ g (field at (get_or left 0 0) body rest))
    → f (fields_from (suc most) at left) ≡ g (fields_from (suc most) at left)
unfolding fields_from
columns_same f g at left most none torn some =
    by_test (eqb (length left) 0) (λ e. rw e none) (λ e. by_test (ltb (length left) (field_size left)) (λ t. rw (e, t) torn) (λ t. rw (e, t) (some _ _)))
