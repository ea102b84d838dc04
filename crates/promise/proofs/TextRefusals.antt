-- Putting the text of a set: what is turned down, and what is left as it was.
-- Assumes nothing.
use mathlib.Core.Path.{◌≡◌, refl, sym, ap, ◌∙◌}
use mathlib.Core.Bool.{true, false}
use mathlib.Core.List.{List, [], ◌∷◌, ◌++◌}
use Prim.Native.Nat.{ℕ, ◌≤◌, ◌<◌}
use native.Mathlib.Omega.{arith}
use lib.Dec.{ltb}
use lib.ListN.{length, drop}
use borrow.Author.Tests.{ltb-true, ltb-false, le-leb}
use Rattle.words.proofs.BoolLaws.{by_test}
use Rattle.scan.specs.declared.set.Set.{Set}
use Rattle.scan.specs.Shape.{well_formed}
use Rattle.text.specs.Text.{text_of, text_answer, buffer_after}
use Rattle.text.specs.way.Place.{put_within}
use Rattle.text.specs.Told.{text_told}
use Rattle.text.proofs.TextLaws.{bad_set, too_short, put_whole}
use Rattle.promise.specs.Texts.{TextRefusals}
use Rattle.promise.proofs.Numbers.{apart}

module _ (s : Set) (buf : List ℕ) where
  abbrev told : List ℕ
  told = text_told (text_answer s (length buf))

  put_bad : well_formed s ≡ false → told ≡ 20 ∷ []
  put_bad e = ap text_told (sym (bad_set s buf e).0)

  module _ (ok : well_formed s ≡ true) where
    put_short : length buf < length (text_of s) → told ≡ 24 ∷ length (text_of s) ∷ []
    put_short h = ap text_told (sym (too_short s buf ok (length (text_of s)) refl h).0)

    put_fits : length (text_of s) ≤ length buf → told ≡ 0 ∷ length (text_of s) ∷ []
    put_fits h = ap text_told (sym (put_whole s buf ok (length (text_of s)) refl h (put_within buf 0 (text_of s)) refl).0)

    put_after : length (text_of s) ≤ length buf → buffer_after s buf ≡ text_of s ++ drop (length (text_of s)) buf
    unfolding buffer_after
    put_after h = let le = le-leb (length (text_of s)) (length buf) h in simp (ok, le)

  -- by the way that putting goes
  by_put : {C : Type 0} → (well_formed s ≡ false → C) → (well_formed s ≡ true → length buf < length (text_of s) → C)
      → (well_formed s ≡ true → length (text_of s) ≤ length buf → C) → C
  by_put bad short fits =
      by_test (well_formed s)
      (λ ok. by_test (ltb (length buf) (length (text_of s))) (λ t. short ok (ltb-true _ _ t)) (λ t. fits ok (ltb-false _ _ t)))
      bad

  -- two numbers told behind the same first one
  told_size : (x a b : ℕ) → x ∷ a ∷ [] ≡ x ∷ b ∷ [] → b ≡ a
  told_size x a b e = cc

  pub text_refusals : TextRefusals s buf
  text_refusals = record {
    not_formed = (
      λ e. by_put (λ b. b) (λ ok h. apart 24 20 _ [] refl (sym (put_short ok h) ∙ e)) (λ ok h. apart 0 20 _ [] refl (sym (put_fits ok h) ∙ e)),
      put_bad,
    );
    short = λ needed. (
      λ e. by_put (λ b. apart 20 24 [] _ refl (sym (put_bad b) ∙ e))
          (λ ok h. let same = told_size 24 _ needed (sym (put_short ok h) ∙ e) in (ok, same, omega arith))
          (λ ok h. apart 0 24 _ _ refl (sym (put_fits ok h) ∙ e)),
      λ x. let same = x.1 in let less = x.2 in put_short x.0 (omega arith) ∙ ap (λ (k : ℕ). 24 ∷ k ∷ []) (sym same),
    );
    put = λ size. (
      λ e. by_put (λ b. apart 20 0 [] _ refl (sym (put_bad b) ∙ e)) (λ ok h. apart 24 0 _ _ refl (sym (put_short ok h) ∙ e))
          (λ ok h. let same = told_size 0 _ size (sym (put_fits ok h) ∙ e) in (ok, same, omega arith)),
      λ x. let same = x.1 in let less = x.2 in put_fits x.0 (omega arith) ∙ ap (λ (k : ℕ). 0 ∷ k ∷ []) (sym same),
    );
    front = λ size e.
        by_put (λ b. apart 20 0 [] _ refl (sym (put_bad b) ∙ e)) (λ ok h. apart 24 0 _ _ refl (sym (put_short ok h) ∙ e))
        (λ ok h. put_after ok h ∙ ap (λ (k : ℕ). text_of s ++ drop k buf) (sym (told_size 0 _ size (sym (put_fits ok h) ∙ e))));
    untouched = λ n.
        by_put (λ b. sym (bad_set s buf b).1) (λ ok h. sym (too_short s buf ok (length (text_of s)) refl h).1)
        (λ ok h. absurd (n (length (text_of s)) (put_fits ok h)));
  }
