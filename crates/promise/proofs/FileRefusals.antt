-- Demand 1 for files: what loading and writing turn down, and what they leave as it was.
-- Assumes nothing.
use mathlib.Core.Path.{◌≡◌, refl, sym, ap, ◌∙◌}
use mathlib.Core.Bool.{true, false}
use mathlib.Core.List.{List, [], ◌∷◌, ◌++◌}
use mathlib.Core.Logic.{◌↔◌}
use Prim.Native.Nat.{ℕ, ◌≤◌, ◌<◌}
use native.Mathlib.Nat.{zero-add}
use native.Mathlib.Omega.{arith}
use lib.Dec.{ltb}
use lib.ListN.{length, drop}
use borrow.Author.Tests.{ltb-true, ltb-false}
use Rattle.words.proofs.BoolLaws.{by_test}
use Rattle.scan.specs.declared.set.Set.{Set}
use Rattle.scan.specs.Set.{zero_set}
use Rattle.scan.specs.Shape.{well_formed}
use Rattle.loader.specs.declared.loader.LoadAnswer.{LoadAnswer}
use Rattle.loader.specs.declared.loader.LoadAnswer.TheVariants.{Loaded as WasLoaded, Refused as WasRefused}
use Rattle.loader.specs.declared.loader.Loaded.{Loaded}
use Rattle.header.specs.Bytes.{Bytes}
use Rattle.loader.specs.Load.{load_of}
use Rattle.writer.specs.Write.{write_of, write_answer, buffer_after}
use Rattle.writer.specs.way.Write.{put_at}
use Rattle.loader.specs.Told.{load_told}
use Rattle.writer.specs.Told.{write_told}
use Rattle.setfile.proofs.LoadWritten.{load_written}
use Rattle.setfile.proofs.WriteLoaded.{write_loaded}
use Rattle.setfile.proofs.FilesAndSets.{formed_iff}
use Rattle.loader.proofs.RefusedZero.{refused_zero, zero_not_loaded}
use Rattle.writer.proofs.WriteLaws as Write
use Rattle.promise.specs.Promise.{LoadRefusals, WriteRefusals}
use Rattle.promise.proofs.Numbers.{apart}
use Rattle.promise.proofs.ColumnLaws.{load_refused, load_taken}

-- ---- loading

pub told_loaded : (a : LoadAnswer) → load_told a ≡ 0 ∷ [] → a ≡ WasLoaded
told_loaded WasLoaded e = refl
told_loaded (WasRefused c o) e = let z : ◌≡◌ {A = ℕ} 0 1 = cc in absurd (omega arith)

pub told_refused : (a : LoadAnswer) (c o : ℕ) → load_told a ≡ c ∷ o ∷ [] → a ≡ WasRefused c o
told_refused WasLoaded c o e = let z : ◌≡◌ {A = ℕ} 0 1 = cc in absurd (omega arith)
told_refused (WasRefused d p) c o e = cc

-- the file of a well-formed set is loaded
pub written_loads : (s : Set) → well_formed s ≡ true → (file : List ℕ) → write_of s ≡ file → (load_told (load_of file).answer ≡ 0 ∷ []) × ((load_of file).set ≡ s)
written_loads s ok file e =
    let loads : load_of file ≡ record { answer = WasLoaded; set = s } = ap load_of (sym e) ∙ load_written s ok in
    (ap (λ (l : Loaded). load_told l.answer) loads, ap (λ (l : Loaded). l.set) loads)

pub load_refusals : (file : List ℕ) → LoadRefusals file
unfolding zero_set
load_refusals file = record {
  refused = load_refused file;
  loaded = load_taken file;
  layout = λ bytes. (
    λ e. let back = write_loaded file bytes (told_loaded (load_of file).answer e) in ((load_of file).set, back.1, back.0),
    λ x. (written_loads x.0 x.1 file x.2).0,
  );
  zero = λ c o e. refused_zero file c o (told_refused (load_of file).answer c o e);
}

-- ---- well-formed sets

-- a set is well formed exactly when some file of bytes loads to it
pub formed : (s : Set) → (well_formed s ≡ true) ↔ ((file : List ℕ) × Bytes file × (load_told (load_of file).answer ≡ 0 ∷ []) × ((load_of file).set ≡ s))
formed s = (
  λ ok. let f = (formed_iff s).0 ok in (f.0, f.1, ap (λ (l : Loaded). load_told l.answer) f.2, ap (λ (l : Loaded). l.set) f.2),
  λ f. ap well_formed (sym f.3) ∙ (write_loaded f.0 f.1 (told_loaded (load_of f.0).answer f.2)).1,
)

-- so the zero set is not
pub zero_not_formed : well_formed zero_set ≡ false
zero_not_formed =
    by_test (well_formed zero_set)
    (λ ok. let f = (formed zero_set).0 ok in absurd (zero_not_loaded f.0 (told_loaded (load_of f.0).answer f.2) f.3))
    (λ e. e)

-- ---- writing

module _ (s : Set) (buf : List ℕ) where
  abbrev written : List ℕ
  written = write_told (write_answer s (length buf))

  write_bad : well_formed s ≡ false → written ≡ 20 ∷ []
  write_bad e = ap write_told (sym (Write.bad_set s buf e).0)

  module _ (ok : well_formed s ≡ true) where
    write_short : length buf < length (write_of s) → written ≡ 24 ∷ length (write_of s) ∷ []
    write_short h = ap write_told (sym (Write.too_short s buf ok (length (write_of s)) refl h).0)

    write_fits : length (write_of s) ≤ length buf → (written ≡ 0 ∷ length (write_of s) ∷ []) × (buffer_after s buf ≡ write_of s ++ drop (length (write_of s)) buf)
    write_fits h =
        let w = Write.written s buf ok (length (write_of s)) refl h (put_at buf 0 (write_of s)) refl in
        (ap write_told (sym w.0), sym w.1 ∙ ap (λ (k : ℕ). write_of s ++ drop k buf) (zero-add (length (write_of s))))

  -- by the way that writing goes
  by_write : {C : Type 0} → (well_formed s ≡ false → C) → (well_formed s ≡ true → length buf < length (write_of s) → C)
      → (well_formed s ≡ true → length (write_of s) ≤ length buf → C) → C
  by_write bad short fits =
      by_test (well_formed s)
      (λ ok. by_test (ltb (length buf) (length (write_of s))) (λ t. short ok (ltb-true _ _ t)) (λ t. fits ok (ltb-false _ _ t)))
      bad

  -- two numbers told behind the same first one
  told_size : (x a b : ℕ) → x ∷ a ∷ [] ≡ x ∷ b ∷ [] → b ≡ a
  told_size x a b e = cc

  pub write_refusals : WriteRefusals s buf
  write_refusals = record {
    not_formed = (
      λ e. by_write (λ b. b) (λ ok h. apart 24 20 _ [] refl (sym (write_short ok h) ∙ e)) (λ ok h. apart 0 20 _ [] refl (sym (write_fits ok h).0 ∙ e)),
      write_bad,
    );
    short = λ needed. (
      λ e. by_write (λ b. apart 20 24 [] _ refl (sym (write_bad b) ∙ e))
          (λ ok h. let same = told_size 24 _ needed (sym (write_short ok h) ∙ e) in (ok, same, omega arith))
          (λ ok h. apart 0 24 _ _ refl (sym (write_fits ok h).0 ∙ e)),
      λ x. let same = x.1 in let less = x.2 in write_short x.0 (omega arith) ∙ ap (λ (k : ℕ). 24 ∷ k ∷ []) (sym same),
    );
    wrote = λ size. (
      λ e. by_write (λ b. apart 20 0 [] _ refl (sym (write_bad b) ∙ e)) (λ ok h. apart 24 0 _ _ refl (sym (write_short ok h) ∙ e))
          (λ ok h. let same = told_size 0 _ size (sym (write_fits ok h).0 ∙ e) in (ok, same, omega arith)),
      λ x. let same = x.1 in let less = x.2 in (write_fits x.0 (omega arith)).0 ∙ ap (λ (k : ℕ). 0 ∷ k ∷ []) (sym same),
    );
    front = λ size e.
        by_write (λ b. apart 20 0 [] _ refl (sym (write_bad b) ∙ e)) (λ ok h. apart 24 0 _ _ refl (sym (write_short ok h) ∙ e))
        (λ ok h. (write_fits ok h).1 ∙ ap (λ (k : ℕ). write_of s ++ drop k buf) (sym (told_size 0 _ size (sym (write_fits ok h).0 ∙ e))));
    untouched = λ n.
        by_write (λ b. sym (Write.bad_set s buf b).1) (λ ok h. sym (Write.too_short s buf ok (length (write_of s)) refl h).1)
        (λ ok h. absurd (n (length (write_of s)) (write_fits ok h).0));
  }
