-- The field of the rest word: one that was written is taken, and one that was taken, or none, is as it would be written.
-- Assumes nothing.
use mathlib.Core.Path.{◌≡◌, refl, sym, ◌∙◌, ap, ap₂}
use mathlib.Core.Bool.{Bool, true, false, cond, ◌&&◌}
use mathlib.Core.List.{List, [], ◌∷◌, ◌++◌}
use Prim.Native.Nat.{ℕ, ◌+◌, ◌/◌, ◌%◌, ◌^◌, ◌<◌}
use native.Mathlib.Nat.{div-add-mod'}
use native.Mathlib.Decide.{ℕ_discrete}
use native.Mathlib.Omega.{arith}
use lib.Dec.{ltb, eqb}
use lib.ListN.{length, get_or, drop}
use lib.Pow.{pow_pos}
use borrow.Author.Tests.{eqb-false, lt-ltb, ltb-true}
use Rattle.words.proofs.BoolLaws.{by_test, and_true}
use Rattle.scan.specs.declared.set.Set.{Set}
use Rattle.scan.specs.Set.{with_rest}
use Rattle.header.specs.Header.{Header, Refused as Stopped, Field, header_of, body_of}
use Rattle.header.specs.Fault.{Taken}
use Rattle.header.specs.Bytes.{Bytes}
use Rattle.header.proofs.HeaderLaws.{due_is, rest_length}
use Rattle.loader.specs.Load.{At, Loading, going_on, good_if, field_done, field_by, rest_word, rest_good, rest_at}
use Rattle.writer.specs.Write.{field_of, rest_body, rest_field}
use Rattle.writer.proofs.WriteLaws.{rest_none, rest_some}
use Rattle.setfile.proofs.Fields.{two_bytes, field_back, body_back, after_field, found}

module _ (file : List ℕ) (at : ℕ) (set : Set) (none : set.rest ≡ 0) where
  -- what its body tells and gives
  abbrev told : List ℕ → Taken
  told body = rest_good (rest_word body) set.n

  abbrev made : List ℕ → Set
  made body = with_rest set (rest_word body)

  -- by the tag that stands there
  abbrev whole : Bool → Loading
  whole b = cond b (field_by file at told made (header_of (drop at file) 6 0)) (going_on at set)

  other : (b : Bool) → eqb (get_or (drop at file) 0 0) 6 ≡ b → rest_at file at set ≡ whole b
  unfolding rest_at
  other b q = ap whole q

  -- without a field the rest word is 0
  kept : going_on at set ≡ going_on at (with_rest set 0)
  kept = ap (λ (x : ℕ). going_on at (with_rest set x)) none

  -- ---- written, then taken

  -- The field of a rest word of n bits is taken, and nothing else is, where another tag follows.
  pub rest_back : (word : ℕ) (tail : List ℕ) → word < 2 ^ set.n → eqb (get_or tail 0 0) 6 ≡ false → drop at file ≡ rest_field word ++ tail
      → (next : ℕ) × (rest_at file at set ≡ going_on next (with_rest set word)) × (drop next file ≡ tail)
  rest_back word tail h otherwise e = go (ℕ_discrete word 0)
    where
      go : Dec (word ≡ 0) → (next : ℕ) × (rest_at file at set ≡ going_on next (with_rest set word)) × (drop next file ≡ tail)
      go (yes z) =
          let w : drop at file ≡ tail = e ∙ ap (λ (l : List ℕ). l ++ tail) (rest_none word z) in
          let q : eqb (get_or (drop at file) 0 0) 6 ≡ false = ap (λ (l : List ℕ). eqb (get_or l 0 0) 6) w ∙ otherwise in
          (at, other false q ∙ kept ∙ ap (λ (x : ℕ). going_on at (with_rest set x)) (sym z), w)
      go (no nz) =
          let w : drop at file ≡ field_of 6 (rest_body word) ++ tail = e ∙ ap (λ (l : List ℕ). l ++ tail) (rest_some word nz) in
          let q : eqb (get_or (drop at file) 0 0) 6 ≡ true = ap (λ (l : List ℕ). eqb (get_or l 0 0) 6) w in
          let hd : header_of (drop at file) 6 0 ≡ Field 6 2 = ap (λ (s : List ℕ). header_of s 6 0) w ∙ field_back 6 (rest_body word) tail 6 0 refl refl refl in
          let bd : body_of (drop at file) 2 ≡ rest_body word = ap (λ (s : List ℕ). body_of s 2) w ∙ body_back 6 (rest_body word) tail in
          let wd : rest_word (body_of (drop at file) 2) ≡ word = ap rest_word bd ∙ div-add-mod' word 256 in
          let ok : (ltb 0 word && ltb word (2 ^ set.n)) ≡ true = ap₂ ◌&&◌ (lt-ltb 0 word (omega arith)) (lt-ltb word (2 ^ set.n) h) in (
            at + 3 + 2,
            other true q ∙ ap (field_by file at told made) hd
                ∙ ap (λ (x : ℕ). field_done at 2 (rest_good x set.n) (with_rest set x)) wd
                ∙ ap (λ (b : Bool). field_done at 2 (good_if b 54) (with_rest set word)) ok,
            after_field file at 6 (rest_body word) tail w,
          )

  -- ---- taken, then written

  -- a rest word was taken, up to the place `next`
  pub record Took (next : ℕ) : Type 0 where
    pub word : ℕ
    pub loaded : rest_at file at set ≡ going_on next (with_rest set word)
    pub written : drop at file ≡ rest_field word ++ drop next file
    pub small : word < 2 ^ set.n

  -- no field of the tag stands there
  took_none : eqb (get_or (drop at file) 0 0) 6 ≡ false → (next : ℕ) → (whole false).progress ≡ At next → Took next
  took_none q next e =
      let same : at ≡ next = cc in
      record {
        word = 0;
        loaded = other false q ∙ kept ∙ ap (λ (x : ℕ). going_on x (with_rest set 0)) same;
        written = ap (λ (x : ℕ). drop x file) same ∙ ap (λ (l : List ℕ). l ++ drop next file) (sym (rest_none 0 refl));
        small = pow_pos set.n;
      }

  module _ (bytes : Bytes file) (q : eqb (get_or (drop at file) 0 0) 6 ≡ true) (next : ℕ) where
    -- the body's word was good, or not
    by_good : (tag len : ℕ) → header_of (drop at file) 6 0 ≡ Field tag len → (b : Bool) → (ltb 0 (rest_word (body_of (drop at file) len)) && ltb (rest_word (body_of (drop at file) len)) (2 ^ set.n)) ≡ b
        → (field_done at len (good_if b 54) (made (body_of (drop at file) len))).progress ≡ At next → Took next
    by_good tag len hd false t u = let z : ◌≡◌ {A = ℕ} 0 1 = cc in absurd (omega arith)
    by_good tag len hd true t u =
        let f = found file at 6 0 tag len bytes hd in
        let six : tag ≡ 6 = due_is 6 tag (eqb-false 6 4 refl) f.awaited in
        let two : len ≡ 2 = rest_length (drop at file) tag len hd in
        let body = body_of (drop at file) len in
        let long : length body ≡ 2 = f.long ∙ two in
        let word = rest_word body in
        let low : get_or body 1 0 < 256 = f.bytes 1 (omega arith) in
        let high_is : word / 256 ≡ get_or body 0 0 = omega arith in
        let low_is : word % 256 ≡ get_or body 1 0 = omega arith in
        let ok = and_true (ltb 0 word) (ltb word (2 ^ set.n)) t in
        let some : 0 < word = ltb-true 0 word ok.0 in
        let same : at + 3 + len ≡ next = cc in
        let field : rest_field word ≡ field_of 6 body = rest_some word (λ z. omega arith) ∙ ap (field_of 6) (ap₂ (λ (x y : ℕ). x ∷ y ∷ []) high_is low_is ∙ sym (two_bytes body long)) in
        record {
          word = word;
          loaded =
              other true q ∙ ap (field_by file at told made) hd ∙ ap (λ (b : Bool). field_done at len (good_if b 54) (with_rest set word)) t
              ∙ ap (λ (x : ℕ). going_on x (with_rest set word)) same;
          written = f.whole ∙ ap₂ (λ (x y : ℕ). field_of x body ++ drop y file) six same ∙ ap (λ (l : List ℕ). l ++ drop next file) (sym field);
          small = ltb-true word (2 ^ set.n) ok.1;
        }

    by_header : (x : Header) → header_of (drop at file) 6 0 ≡ x → (field_by file at told made x).progress ≡ At next → Took next
    by_header (Stopped number) t u = let z : ◌≡◌ {A = ℕ} 0 1 = cc in absurd (omega arith)
    by_header (Field tag len) t u = by_good tag len t (ltb 0 (rest_word (body_of (drop at file) len)) && ltb (rest_word (body_of (drop at file) len)) (2 ^ set.n)) refl u

  -- A rest word that was taken, from a field or from none, is as it would be written.
  pub rest_taken : Bytes file → (next : ℕ) → (rest_at file at set).progress ≡ At next → Took next
  rest_taken bytes next e =
      by_test (eqb (get_or (drop at file) 0 0) 6)
      (λ q. by_header bytes q next (header_of (drop at file) 6 0) refl (ap (λ (l : Loading). l.progress) (sym (other true q)) ∙ e))
      (λ q. took_none q next (ap (λ (l : Loading). l.progress) (sym (other false q)) ∙ e))
