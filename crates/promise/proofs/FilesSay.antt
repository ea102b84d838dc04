-- A file of bytes that loads says its set: the parts of the set, told from the bytes of the file's fields.
-- Assumes nothing.
use mathlib.Core.Path.{◌≡◌, refl, sym, ap, subst, ◌∙◌}
use mathlib.Core.Bool.{Bool, true, false, cond}
use mathlib.Core.List.{List, [], ◌∷◌, ◌++◌, map}
use mathlib.Core.Logic.{◌↔◌, inl, inr}
use Prim.Native.Nat.{ℕ, ◌/◌, ◌%◌, ◌<◌}
use native.Mathlib.Decide.{ℕ_discrete}
use native.Mathlib.Omega.{arith}
use lib.Dec.{eqb}
use lib.ListN.{length, get_or, drop, replicate}
use borrow.Author.Tests.{eq-eqb, ne_eqb}
use Rattle.scan.specs.declared.set.Kind.{Kind}
use Rattle.scan.specs.declared.set.Kind.TheVariants.{Sensor, PastOutput, PastSensor}
use Rattle.scan.specs.declared.set.Set.{Set}
use Rattle.scan.specs.Set.{read_point, kind, constraint, rank}
use Rattle.scan.specs.Shape.{well_formed}
use Rattle.scan.proofs.ShapeLaws.{counts, masks}
use Rattle.header.specs.Bytes.{Bytes}
use Rattle.loader.specs.Load.{load_of}
use Rattle.loader.specs.Told.{load_told}
use Rattle.writer.specs.Write.{kind_bytes, rest_body, write_of}
use Rattle.setfile.proofs.WriteLoaded.{write_loaded}
use Rattle.promise.specs.Allowed.{read_name, output_name}
use Rattle.promise.specs.Terms.{Bit, TrueAt}
use Rattle.promise.specs.Fields.{in_fields, TagBody, constraints_in}
use Rattle.promise.specs.FileSays.{body_of_read, body_of_output, field_of_constraint, KindSays, RestSays, HasLiteral, first_byte, point_number, rank_byte, LiteralTrue, Says, MasksSay, NamesAbove15, Guards, FileSays}
use Rattle.promise.proofs.FileRefusals.{told_loaded}
use Rattle.promise.proofs.NameRefusals.{find_refusals}
use Rattle.promise.proofs.WrittenFields.{SetFields, rest_bodies, written_fields}
use Rattle.promise.proofs.RestWords.{rest_word}
use Rattle.promise.proofs.BodyLiterals.{field_for}
use Rattle.promise.proofs.ConstraintsSay.{mask_says, wide_says, true_says, rank_says, output_says, read_says}

-- ---- read points

-- the first two bytes of a read point's body
kind_says : (k : Kind) (name : List ℕ) → KindSays k (get_or (kind_bytes k ++ name) 0 0) (get_or (kind_bytes k ++ name) 1 0)
kind_says Sensor name = (refl, refl)
kind_says (PastOutput i) name = (refl, refl)
kind_says (PastSensor i) name = (refl, refl)

-- and those behind them
name_says : (k : Kind) (name : List ℕ) → name ≡ drop 2 (kind_bytes k ++ name)
name_says Sensor name = refl
name_says (PastOutput i) name = refl
name_says (PastSensor i) name = refl

-- ---- the rest word

-- its bodies, none for 0
rest_says : (word : ℕ) → RestSays (rest_bodies word) word
unfolding rest_bodies
rest_says word = go (ℕ_discrete word 0)
  where
    go : Dec (word ≡ 0) → RestSays (cond (eqb word 0) [] (rest_body word ∷ [])) word
    go (yes z) = inl (ap (λ (b : Bool). cond b [] (rest_body word ∷ [])) (eq-eqb word 0 z), z)
    go (no nz) = inr (word / 256, word % 256, ap (λ (b : Bool). cond b [] (rest_body word ∷ [])) (ne_eqb word 0 nz), omega arith, omega arith)

-- ---- a file with the fields of a well-formed set

module _ (file : List ℕ) (s : Set) (ok : well_formed s ≡ true) (f : SetFields file s) where
  kinds : (k : ℕ) → k < s.r → KindSays (kind s k) (get_or (body_of_read file k) 0 0) (get_or (body_of_read file k) 1 0)
  unfolding kind
  kinds k h =
      let p = read_point s.reads k in
      subst (λ (body : List ℕ). KindSays p.kind (get_or body 0 0) (get_or body 1 0)) (sym (f.read_body_law k h)) (kind_says p.kind (read_name s k))

  read_names : (k : ℕ) → k < s.r → read_name s k ≡ drop 2 (body_of_read file k)
  read_names k h = name_says (read_point s.reads k).kind (read_name s k) ∙ sym (ap (drop 2) (f.read_body_law k h))

  output_names : (j : ℕ) → j < s.n → output_name s j ≡ body_of_output file j
  output_names j h = sym (f.output_body_law j h)

  -- what is said of the field of a constraint is said of the one in the file
  module _ (i : ℕ) (h : i < s.m) where
    by_field : (P : TagBody → Type 0) → P (field_for (constraint s i)) → P (field_of_constraint file i)
    by_field P p = subst P (sym (f.constraint_field i h)) p

    wide_tag : ((field_of_constraint file i).tag ≡ 0x07) ↔ NamesAbove15 s i
    wide_tag =
        let c = counts s ok in
        by_field (λ (x : TagBody). (x.tag ≡ 0x07) ↔ NamesAbove15 s i) (wide_says s.r s.n c.r_le c.n_le (constraint s i) (masks s ok i h))

    masks_say : (k : ℕ) → MasksSay file s i k
    masks_say k =
        let c = counts s ok in
        let says = mask_says s.r s.n c.r_le c.n_le (constraint s i) (masks s ok i h) in
        record {
          read_plain = by_field (λ (x : TagBody). Bit k (constraint s i).read_plain ↔ Says x 0 k) (says false false k);
          out_plain = by_field (λ (x : TagBody). Bit k (constraint s i).out_plain ↔ Says x 1 k) (says true false k);
          read_negated = by_field (λ (x : TagBody). Bit k (constraint s i).read_negated ↔ Says x 2 k) (says false true k);
          out_negated = by_field (λ (x : TagBody). Bit k (constraint s i).out_negated ↔ Says x 3 k) (says true true k);
        }

    constraint_says : (w v : ℕ)
        → TrueAt s w v i ↔ ((j : ℕ) → HasLiteral (field_of_constraint file i) j → LiteralTrue (first_byte (field_of_constraint file i) j) (point_number (field_of_constraint file i) j) w v)
    constraint_says w v =
        let c = counts s ok in
        by_field (λ (x : TagBody). TrueAt s w v i ↔ ((j : ℕ) → HasLiteral x j → LiteralTrue (first_byte x j) (point_number x j) w v))
        (true_says s.r s.n c.r_le c.n_le (constraint s i) (masks s ok i h) w v)

    ranks_say : (j : ℕ) → HasLiteral (field_of_constraint file i) j → Bit 6 (first_byte (field_of_constraint file i) j)
        → rank (constraint s i) (point_number (field_of_constraint file i) j) ≡ rank_byte (field_of_constraint file i) j
    ranks_say =
        let c = counts s ok in
        by_field (λ (x : TagBody). (j : ℕ) → HasLiteral x j → Bit 6 (first_byte x j) → rank (constraint s i) (point_number x j) ≡ rank_byte x j)
        (rank_says s.r s.n c.r_le c.n_le (constraint s i) (masks s ok i h))

    -- by names: finding gives a point for its own name
    guards : (j : ℕ) → HasLiteral (field_of_constraint file i) j → Guards file s (first_byte (field_of_constraint file i) j) (point_number (field_of_constraint file i) j)
    guards =
        let c = counts s ok in
        by_field (λ (x : TagBody). (j : ℕ) → HasLiteral x j → Guards file s (first_byte x j) (point_number x j))
        (λ j l.
        let k = point_number (field_for (constraint s i)) j in
        record {
          output = λ b.
              let within = output_says s.r s.n c.r_le c.n_le (constraint s i) (masks s ok i h) j l b in
              ((find_refusals s (body_of_output file k)).output k).1 (ok, within, output_names k within);
          read = λ b.
              let within = read_says s.r s.n c.r_le c.n_le (constraint s i) (masks s ok i h) j l b in
              ((find_refusals s (drop 2 (body_of_read file k))).read k).1 (ok, within, read_names k within);
        })

  fields_say : FileSays file s
  fields_say = record {
    whole = f.whole;
    order =
        f.order
        ∙ ap (λ (l : List (List ℕ)). 0x01 ∷ replicate s.r 0x02 ++ replicate s.n 0x03 ++ replicate (length l) 0x06 ++ map (λ x. x.tag) (constraints_in (in_fields file)) ++ 0x05 ∷ []) (sym f.rests);
    many = f.many;
    counts = f.counts;
    kinds = kinds;
    read_names = read_names;
    output_names = output_names;
    rest = subst (λ (l : List (List ℕ)). RestSays l s.rest) (sym f.rests) (rest_says s.rest);
    rest_by_name = λ k b. let within = rest_word.bits s ok k b in ((find_refusals s (body_of_output file k)).output k).1 (ok, within, output_names k within);
    wide = wide_tag;
    constraints = constraint_says;
    masks = masks_say;
    ranks = ranks_say;
    by_name = guards;
  }

-- The file of a well-formed set says the set.
pub written_says : (s : Set) → well_formed s ≡ true → FileSays (write_of s) s
written_says s ok = fields_say (write_of s) s ok (written_fields s ok)

-- A file of bytes that loads says its set.
pub file_says : (file : List ℕ) → Bytes file → load_told (load_of file).answer ≡ 0 ∷ [] → FileSays file (load_of file).set
file_says file bytes e =
    let back = write_loaded file bytes (told_loaded (load_of file).answer e) in
    subst (λ (written : List ℕ). FileSays written (load_of file).set) back.0 (written_says (load_of file).set back.1)
