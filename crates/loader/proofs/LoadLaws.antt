-- Cases of the definitions of a load, one law for each outcome.
-- Assumes nothing.
use mathlib.Core.Path.{◌≡◌, refl, sym, ◌∙◌, ap}
use mathlib.Core.Bool.{Bool, true, false, ◌&&◌}
use mathlib.Core.List.{List}
use Prim.Native.Nat.{ℕ, ◌+◌, ◌-◌, ◌≤◌, ◌<◌}
use native.Mathlib.Omega.{arith}
use lib.Dec.{ltb, eqb, lit<}
use lib.ListN.{length, get_or, take, drop, length-drop, length-take}
use lib.Seq.{take_all, drop-drop, get_or-take, get_or-drop}
use borrow.Author.Tests.{ne_eqb}
use Rattle.words.specs.Loop.{every}
use Rattle.scan.specs.declared.set.Kind.{Kind}
use Rattle.scan.specs.declared.set.Kind.TheVariants.{Sensor, PastOutput, PastSensor}
use Rattle.scan.specs.Set.{zero_name, zero_read}
use Rattle.shape.specs.Spelling.{spelling}
use Rattle.scan.specs.Shape.{count_tests}
use Rattle.header.specs.Header.{Refused as Stopped, Field, header_of, body_of}
use Rattle.header.specs.Fault.{Taken, Refused as Denied, Good}
use Rattle.std.specs.Prelude.{Result, Ok, Err, None, Some}
use Rattle.scan.specs.declared.set.ReadPoint.{ReadPoint}
use Rattle.loader.specs.way.Load.{if_taken, name_given, read_given}
use Rattle.loader.specs.Load.{NameField, refusal, going_on, field_by, counts_told, counts_made, of_counts, counts_at, name_told, name_field, kind_if, kind_of, read_told, read_field}

-- ---- parts of a slice

-- what is left of a list past its first n elements
pub rest_of {ℓ} : {A : Type ℓ} (n : ℕ) (l : List A) → take (length l - n) (drop n l) ≡ drop n l
rest_of n l = take_all (length l - n) (drop n l) (simp length-drop (omega arith))

-- a field's body
pub body_at : (s : List ℕ) (at len : ℕ) → take (at + 3 + len - (at + 3)) (drop (at + 3) s) ≡ body_of (drop at s) len
body_at s at len =
    let n : at + 3 + len - (at + 3) ≡ len = omega arith in
    rw (n, drop-drop 3 at s)

-- a body that is within the file has its length
pub body_long : (s : List ℕ) (at len : ℕ) → at + 3 + len ≤ length s → length (take (at + 3 + len - (at + 3)) (drop (at + 3) s)) ≡ len
body_long s at len h = simp (length-take, length-drop) (omega arith)

-- byte k of a field's body
pub body_byte : (s : List ℕ) (at len k : ℕ) → k < len → get_or (body_of (drop at s) len) k 0 ≡ get_or s (at + 3 + k) 0
body_byte s at len k h =
    let there : at + (3 + k) ≡ at + 3 + k = omega arith in
    get_or-take len (drop 3 (drop at s)) k 0 h ∙ get_or-drop 3 (drop at s) k 0 ∙ get_or-drop at s (3 + k) 0 ∙ ap (λ (x : ℕ). get_or s x 0) there

-- ---- the counts, by the header and what they are

module _ (s : List ℕ) where
  pub counts_stopped : (number : ℕ) → header_of s 1 0 ≡ Stopped number → counts_at s ≡ refusal number 0
  unfolding counts_at
  counts_stopped number h = ap (field_by s 0 counts_told counts_made) h

  module _ (tag : ℕ) (h : header_of s 1 0 ≡ Field tag 2) where
    first_count : get_or (body_of s 2) 0 0 ≡ get_or s 3 0
    first_count = body_byte s 0 2 0 (lit< tt)

    second_count : get_or (body_of s 2) 1 0 ≡ get_or s 4 0
    second_count = body_byte s 0 2 1 (lit< tt)

    pub counts_bad : every (count_tests (get_or s 3 0) (get_or s 4 0) 0) ≡ false → counts_at s ≡ refusal 5 0
    unfolding counts_at
    counts_bad f = ap (field_by s 0 counts_told counts_made) h ∙ rw (first_count, second_count, f)

    pub counts_good : every (count_tests (get_or s 3 0) (get_or s 4 0) 0) ≡ true → counts_at s ≡ going_on 5 (of_counts (get_or s 3 0) (get_or s 4 0))
    unfolding counts_at
    counts_good f = ap (field_by s 0 counts_told counts_made) h ∙ rw (first_count, second_count, f)

-- ---- a name, by what its bytes spell

module _ (used : List ℕ → Bool) (bytes : List ℕ) where
  pub name_bad : spelling bytes ≡ None → name_field used bytes ≡ record { taken = Denied 7; name = zero_name }
  unfolding name_field
  name_bad e = ap (name_told used) e

  module _ (name : List ℕ) (e : spelling bytes ≡ Some name) where
    pub name_used_law : used name ≡ true → name_field used bytes ≡ record { taken = Denied 8; name = zero_name }
    unfolding name_field
    name_used_law u = ap (name_told used) e ∙ rw u

    pub name_good : used name ≡ false → name_field used bytes ≡ record { taken = Good; name = name }
    unfolding name_field
    name_good u = ap (name_told used) e ∙ rw u

-- ---- what is given, made into something else

abbrev pub mapped : {A B : Type 0} → (A → B) → Result A ℕ → Result B ℕ
mapped f (Ok x) = Ok (f x)
mapped f (Err number) = Err number

taken_mapped : {A B : Type 0} (f : A → B) (t : Taken) (x : A) → if_taken t (f x) ≡ mapped f (if_taken t x)
taken_mapped f (Denied number) x = refl
taken_mapped f Good x = refl

-- ---- a read point

module _ (n : ℕ) (sensor : ℕ → Bool) (i index : ℕ) where
  pub kind_0 : kind_of n sensor i 0 index ≡ kind_if (eqb index 0) Sensor
  unfolding kind_of
  kind_0 = refl

  pub kind_1 : kind_of n sensor i 1 index ≡ kind_if (ltb index n) (PastOutput index)
  unfolding kind_of
  kind_1 = refl

  pub kind_2 : kind_of n sensor i 2 index ≡ kind_if (ltb index i && sensor index) (PastSensor index)
  unfolding kind_of
  kind_2 = refl

  pub kind_other : (kind : ℕ) → (kind ≡ 0 → ⊥) → (kind ≡ 1 → ⊥) → (kind ≡ 2 → ⊥) → kind_of n sensor i kind index ≡ None
  unfolding kind_of
  kind_other kind a b c = simp (ne_eqb _ _ a, ne_eqb _ _ b, ne_eqb _ _ c)

-- its field, by its kind and its name
module _ (n : ℕ) (sensor : ℕ → Bool) (used : List ℕ → Bool) (i : ℕ) (body : List ℕ) where
  pub read_bad : kind_of n sensor i (get_or body 0 0) (get_or body 1 0) ≡ None → read_field n sensor used i body ≡ record { taken = Denied 6; read = zero_read }
  unfolding read_field
  read_bad k = ap (read_told (name_field used (drop 2 body))) k

  pub read_known : (kind : Kind) (f : NameField) → kind_of n sensor i (get_or body 0 0) (get_or body 1 0) ≡ Some kind → f ≡ name_field used (drop 2 body)
      → read_field n sensor used i body ≡ record { taken = f.taken; read = record { kind = kind; name = f.name } }
  unfolding read_field
  read_known kind f k e = ap (read_told (name_field used (drop 2 body))) k ∙ ap (λ (g : NameField). record { taken = g.taken; read = record { kind = kind; name = g.name } }) (sym e)

  -- by the name that the bytes behind the kind give
  pub read_named : (kind : Kind) (x : Result (List ℕ) ℕ) → kind_of n sensor i (get_or body 0 0) (get_or body 1 0) ≡ Some kind → x ≡ name_given (name_field used (drop 2 body))
      → mapped (λ (name : List ℕ). record { kind = kind; name = name }) x ≡ read_given (read_field n sensor used i body)
  read_named kind x k e =
      let f = name_field used (drop 2 body) in
      let point : List ℕ → ReadPoint = λ name. record { kind = kind; name = name } in
      ap (mapped point) e ∙ sym (taken_mapped point f.taken f.name) ∙ sym (ap read_given (read_known kind f k refl))
