-- The file of a well-formed set with at most sixteen read points is what document 01's rule wrote.
-- Assumes nothing.
use mathlib.Core.Path.{◌≡◌, refl, sym, ap, ap₂, ◌∙◌}
use mathlib.Core.Bool.{Bool, true, false, cond}
use mathlib.Core.List.{List, [], ◌∷◌, ◌++◌}
use Prim.Native.Nat.{ℕ, zero, suc, ◌+◌, ◌^◌, ◌≤◌, ◌<◌}
use native.Mathlib.Nat.{lt_of_lt_of_le}
use native.Mathlib.Numerals.{add-one}
use native.Mathlib.Omega.{arith}
use lib.ListN.{length, get_or, take}
use lib.Pow.{pow_mono}
use Rattle.words.specs.Loop.{joined}
use Rattle.words.specs.Word.{odd, bit}
use Rattle.words.proofs.BitLaws.{bit_above}
use Rattle.scan.specs.declared.set.Kind.{Kind}
use Rattle.scan.specs.declared.set.Kind.TheVariants.{Sensor, PastOutput, PastSensor}
use Rattle.scan.specs.declared.set.Constraint.{Constraint}
use Rattle.scan.specs.declared.set.Set.{Set}
use Rattle.scan.specs.Set.{kind, constraint, rank, read_point, no_read, no_output, no_constraint}
use Rattle.scan.specs.Shape.{well_formed}
use Rattle.scan.proofs.ShapeLaws.{Masks, counts, lengths, masks}
use Rattle.header.specs.Tag.{tag_by, names_high}
use Rattle.loader.specs.declared.loader.Loaded.{Loaded}
use Rattle.loader.specs.Load.{load_of}
use Rattle.loader.specs.Told.{load_told}
use Rattle.writer.specs.Write.{field_of, kind_bytes, read_body, output_body, read_literal, output_literal, literals_by, constraint_tag, literal_body, read_tag, output_tag, fields_of, rest_field, write_of}
use Rattle.writer.proofs.WriteLaws.{fields_more}
use Rattle.writer.proofs.LiteralBodyLaws.{joined_short, joined_same}
use Rattle.setfile.proofs.LiteralPlaces.{mask}
use Rattle.setfile.proofs.LiteralBytes.{masks_low}
use Rattle.setfile.proofs.LoadWritten.{load_written}
use Rattle.promise.specs.Allowed.{read_name}
use Rattle.promise.specs.FilesOfToday.{field_bytes, kind_before, two_bytes, constraint_before, rest_before, file_before, FilesOfToday}

-- the fields of the first n of a list, one after the other
fields_joined : {A : Type 0} (tag : A → ℕ) (body : A → List ℕ) (l : List A) (d : A) (n : ℕ) → n ≤ length l
    → fields_of tag body (take n l) ≡ joined n (λ k. field_of (tag (get_or l k d)) (body (get_or l k d)))
unfolding fields_of joined
fields_joined tag body l d zero h = refl
fields_joined tag body l d (suc n) h =
    ap (λ (k : ℕ). fields_of tag body (take k l)) (sym (add-one n)) ∙ fields_more tag body l n d (omega arith)
    ∙ ap (λ (x : List ℕ). x ++ field_of (tag (get_or l n d)) (body (get_or l n d))) (fields_joined tag body l d n (omega arith))

-- what is the same below n, one after the other
joined_below : (f g : ℕ → List ℕ) (n : ℕ) → ((k : ℕ) → k < n → f k ≡ g k) → joined n f ≡ joined n g
unfolding joined
joined_below f g zero e = refl
joined_below f g (suc n) e = ap₂ ◌++◌ (joined_below f g n (λ k h. e k (omega arith))) (e n (omega arith))

kind_before_law : (k : Kind) → kind_bytes k ≡ kind_before k
kind_before_law Sensor = refl
kind_before_law (PastOutput i) = refl
kind_before_law (PastSensor i) = refl

-- a read literal, an output literal
module _ (c : Constraint) (k : ℕ) where
  read_before : read_literal false c k ≡ two_bytes 0 c.read_plain c.read_negated 0 k
  unfolding read_literal two_bytes bit odd
  read_before = refl

  output_before : output_literal false c k ≡ two_bytes 0x40 c.out_plain c.out_negated (rank c k) k
  unfolding output_literal two_bytes bit odd
  output_before = refl

-- a constraint of at most sixteen read points
module _ (r n : ℕ) (c : Constraint) (ms : Masks r n c) (few : r ≤ 16) where
  small : (g : Bool) → mask false g c < 2 ^ 16
  small true = lt_of_lt_of_le ms.read_negated (pow_mono {i = r} {j = 16} few)
  small false = lt_of_lt_of_le ms.read_plain (pow_mono {i = r} {j = 16} few)

  not_high : names_high c ≡ false
  not_high = masks_low c small

  -- read points from 16 on are not named
  none : (k : ℕ) → 16 ≤ k → read_literal false c k ≡ []
  unfolding read_literal
  none k h =
      ap₂ (λ (p q : Bool). cond p ((0 + k) ∷ 0 ∷ []) (cond q ((0x80 + k) ∷ 0 ∷ []) []))
      (bit_above 16 k c.read_plain (small false) h) (bit_above 16 k c.read_negated (small true) h)

  body_before : literals_by false c ≡ constraint_before c
  unfolding literals_by constraint_before
  body_before =
      ap₂ ◌++◌ (joined_short (read_literal false c) 16 4 (λ k h l. none k h) ∙ joined_same (read_literal false c) _ (read_before c) 16)
      (joined_same (output_literal false c) _ (output_before c) 12)

  field_before : field_of (constraint_tag c) (literal_body c) ≡ field_bytes 0x04 (constraint_before c)
  field_before = ap (λ (w : Bool). field_of (tag_by w) (literals_by w c)) not_high ∙ ap (field_of 0x04) body_before

rest_before_law : (word : ℕ) → rest_field word ≡ rest_before word
unfolding rest_field rest_before
rest_before_law word = refl

module _ (s : Set) (ok : well_formed s ≡ true) (few : s.r ≤ 16) where
  -- The file is what it was.
  same_file : write_of s ≡ file_before s
  unfolding write_of file_before kind constraint
  same_file =
      let c = counts s ok in
      let l = lengths s ok in
      let reads = fields_joined read_tag read_body s.reads no_read s.r (omega (arith, c.r_le, l.0))
      ∙ joined_below _ (λ k. field_bytes 0x02 (kind_before (read_point s.reads k).kind ++ read_name s k)) s.r
      (λ k h. ap (λ (x : List ℕ). field_of 0x02 (x ++ read_name s k)) (kind_before_law (read_point s.reads k).kind)) in
      let outputs = fields_joined output_tag output_body s.outputs no_output s.n (omega (arith, c.n_le, l.1)) in
      let constraints = fields_joined constraint_tag literal_body s.constraints no_constraint s.m (omega (arith, c.m_le, l.2))
      ∙ joined_below _ (λ i. field_bytes 0x04 (constraint_before (get_or s.constraints i no_constraint))) s.m
      (λ i h. field_before s.r s.n (get_or s.constraints i no_constraint) (masks s ok i h) few) in
      (λ i. field_of 0x01 (s.r ∷ s.n ∷ []) ++ reads i ++ outputs i ++ rest_before_law s.rest i ++ constraints i ++ field_of 0x05 [])

  -- So it loads to the set.
  loaded : load_of (file_before s) ≡ load_of (write_of s)
  loaded = ap load_of (sym same_file)

  pub files_of_today : FilesOfToday s
  files_of_today =
      let e = loaded ∙ load_written s ok in
      record { same_file = same_file; loads = ap (λ (x : Loaded). load_told x.answer) e; same_set = ap (λ (x : Loaded). x.set) e }
