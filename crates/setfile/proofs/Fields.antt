-- Fields: one that was written is found, and one that was found is as it would be written.
-- Assumes nothing.
use mathlib.Core.Path.{◌≡◌, refl, sym, ◌∙◌, ap, ap₂, subst}
use mathlib.Core.Bool.{true, false, ◌&&◌}
use mathlib.Core.List.{List, [], ◌∷◌, ◌++◌}
use Prim.Native.Nat.{ℕ, ◌+◌, ◌*◌, ◌/◌, ◌%◌, ◌≤◌, ◌<◌}
use native.Mathlib.Nat.{div-add-mod'}
use native.Mathlib.Omega.{arith}
use lib.Dec.{leb}
use lib.ListN.{length, get_or, take, drop, drop_of_length-le, length-append, length-take, length-drop, take-append-drop}
use lib.Seq.{take-append_seam, drop_at, drop-drop, length-take-le, get_or-take, get_or-drop}
use Rattle.scan.specs.Set.{most_constraints}
use Rattle.header.specs.Bytes.{Bytes}
use Rattle.header.specs.Tag.{is_constraint}
use Rattle.header.specs.Header.{Field, whole, body_length, raw_of, body_of, fits_table, is_due, header_of}
use Rattle.writer.specs.Write.{field_of}
use Rattle.header.proofs.HeaderLaws.{not_cut, raw_field, a_field, found as header_found}

-- ---- bytes

-- A list of two elements or more.
pub two_and_rest : (b : List ℕ) → 2 ≤ length b → b ≡ (get_or b 0 0 ∷ get_or b 1 0 ∷ []) ++ drop 2 b
two_and_rest [] h = absurd (omega arith)
two_and_rest (x ∷ []) h = absurd (omega arith)
two_and_rest (x ∷ y ∷ b) h = refl

-- A list of two.
pub two_bytes : (b : List ℕ) → length b ≡ 2 → b ≡ get_or b 0 0 ∷ get_or b 1 0 ∷ []
two_bytes b e = two_and_rest b (omega arith) ∙ ap (λ (l : List ℕ). get_or b 0 0 ∷ get_or b 1 0 ∷ l) (drop_of_length-le b {i = 2} (omega arith))

-- What is left of a list of bytes is one.
pub bytes_drop : (n : ℕ) (l : List ℕ) → Bytes l → Bytes (drop n l)
bytes_drop n l b k h = let e = length-drop n l in subst (λ (x : ℕ). x < 256) (sym (get_or-drop n l k 0)) (b (n + k) (omega arith))

-- So is its front.
pub bytes_take : (n : ℕ) (l : List ℕ) → Bytes l → Bytes (take n l)
bytes_take n l b k h =
    let e = length-take n l in
    let w : k < n = omega arith in
    subst (λ (x : ℕ). x < 256) (sym (get_or-take n l k 0 w)) (b k (omega arith))

-- ---- written and found

module _ (tag : ℕ) (body rest : List ℕ) where
  length_said : body_length (field_of tag body ++ rest) ≡ length body
  length_said = div-add-mod' (length body) 256

  -- The body of a written field is found.
  pub body_back : body_of (field_of tag body ++ rest) (length body) ≡ body
  body_back = take-append_seam body rest

  -- Its header is found, where its tag is due and its length in the table.
  pub field_back : (due m : ℕ) → is_due due tag ≡ true → (is_constraint tag && leb most_constraints m) ≡ false → fits_table tag (length body) ≡ true
      → header_of (field_of tag body ++ rest) due m ≡ Field tag (length body)
  field_back due m d f t =
      let s = field_of tag body ++ rest in
      let e = length_said in
      let l = length-append body rest in
      let there : raw_of s ≡ whole tag (length body) = raw_field s (not_cut s (omega (arith, l)) (omega (arith, l, e))) ∙ ap (whole tag) e in
      a_field s due m tag (length body) there d f t

-- What is left after a field.
pub after_field : (file : List ℕ) (at tag : ℕ) (body rest : List ℕ) → drop at file ≡ field_of tag body ++ rest → drop (at + 3 + length body) file ≡ rest
after_field file at tag body rest e =
    let n : at + 3 + length body ≡ at + (3 + length body) = omega arith in
    ap (λ (k : ℕ). drop k file) n
    ∙ sym (drop-drop (3 + length body) at file)
    ∙ ap (drop (3 + length body)) e
    ∙ drop_at (field_of tag body) rest (3 + length body) (omega arith)

-- ---- found and written

-- a list whose first three elements are a header
opened : (s : List ℕ) → Bytes s → 3 + body_length s ≤ length s → (s ≡ field_of (get_or s 0 0) (body_of s (body_length s)) ++ drop (3 + body_length s) s) × (length (body_of s (body_length s)) ≡ body_length s)
opened [] b l = absurd (omega arith)
opened (t ∷ []) b l = absurd (omega arith)
opened (t ∷ h ∷ []) b l = absurd (omega arith)
opened (t ∷ h ∷ k ∷ s) b l =
    let n = h * 256 + k in
    let small : k < 256 = b 2 (omega arith) in
    let long : length (take n s) ≡ n = length-take-le n s (omega arith) in
    let high : length (take n s) / 256 ≡ h = ap (λ (x : ℕ). x / 256) long ∙ omega arith in
    let low : length (take n s) % 256 ≡ k = ap (λ (x : ℕ). x % 256) long ∙ omega arith in
    let rest : drop (3 + n) (t ∷ h ∷ k ∷ s) ≡ drop n s = sym (drop-drop n 3 (t ∷ h ∷ k ∷ s)) in (
      sym (ap₂ (λ (x y : ℕ). t ∷ x ∷ y ∷ (take n s ++ drop (3 + n) (t ∷ h ∷ k ∷ s))) high low
          ∙ ap (λ (x : List ℕ). t ∷ h ∷ k ∷ (take n s ++ x)) rest ∙ ap (λ (x : List ℕ). t ∷ h ∷ k ∷ x) (take-append-drop n s)),
      long,
    )

-- what is told by a header that was found at a place of the file
pub record Found (file : List ℕ) (at due m tag len : ℕ) : Type 0 where
  pub whole : drop at file ≡ field_of tag (body_of (drop at file) len) ++ drop (at + 3 + len) file
  pub long : length (body_of (drop at file) len) ≡ len
  pub bytes : Bytes (body_of (drop at file) len)
  pub awaited : is_due due tag ≡ true
  pub few : (is_constraint tag && leb most_constraints m) ≡ false
  pub table : fits_table tag len ≡ true

-- A field that was found is as it would be written.
pub found : (file : List ℕ) (at due m tag len : ℕ) → Bytes file → header_of (drop at file) due m ≡ Field tag len → Found file at due m tag len
found file at due m tag len b e =
    let s = drop at file in
    let h = header_found s due m tag len e in
    let o = opened s (bytes_drop at file b) (omega (arith, h.within, h.length_is)) in
    let sum : at + (3 + len) ≡ at + 3 + len = omega arith in
    let move : drop (3 + len) s ≡ drop (at + 3 + len) file = drop-drop (3 + len) at file ∙ ap (λ (k : ℕ). drop k file) sum in
    record {
      whole = o.0 ∙ ap₂ (λ (x y : ℕ). field_of x (body_of s y) ++ drop (3 + y) s) h.tag_is h.length_is ∙ ap (λ (x : List ℕ). field_of tag (body_of s len) ++ x) move;
      long = ap (λ (y : ℕ). length (body_of s y)) (sym h.length_is) ∙ o.1 ∙ h.length_is;
      bytes = bytes_take len (drop 3 s) (bytes_drop 3 s (bytes_drop at file b));
      awaited = h.awaited;
      few = h.few;
      table = h.table;
    }
