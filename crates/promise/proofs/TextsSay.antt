-- The text of a well-formed set says the set: its lines and words are those of its outputs, read points, outputs at rest and constraints.
-- Assumes nothing.
use mathlib.Core.Path.{◌≡◌, refl, sym, ap, ap₂, subst, ◌∙◌}
use mathlib.Core.Bool.{Bool, true, false, cond, not, ◌&&◌, ◌||◌}
use mathlib.Core.List.{List, [], ◌∷◌, ◌++◌, map, append_assoc}
use Prim.Native.Nat.{ℕ, zero, suc, ◌+◌, ◌<◌}
use native.Mathlib.Omega.{arith}
use lib.Dec.{eqb, ltb}
use lib.Bits.{or_lt}
use lib.ListN.{length, get_or, take, length-append, length-map, get_or-append}
use lib.Seq.{length-take-le, get_or-take, get_or-append-add}
use borrow.Author.Tests.{ltb-true}
use Rattle.words.specs.Word.{bit}
use Rattle.words.specs.Loop.{joined}
use Rattle.words.proofs.BoolLaws.{and_true}
use Rattle.words.proofs.BitLaws.{bit_below}
use Rattle.decimal.specs.Decimal.{decimal}
use Rattle.decimal.proofs.DigitsLaws.{decimal_digits}
use Rattle.scan.specs.declared.set.Kind.{Kind}
use Rattle.scan.specs.declared.set.Kind.TheVariants.{Sensor, PastOutput, PastSensor}
use Rattle.scan.specs.declared.set.ReadPoint.{ReadPoint}
use Rattle.scan.specs.declared.set.OutputPoint.{OutputPoint}
use Rattle.scan.specs.declared.set.Constraint.{Constraint}
use Rattle.scan.specs.declared.set.Set.{Set}
use Rattle.scan.specs.Set.{most_reads, most_outputs, read_point, output_point, kind, constraint, rank, outs, no_read, no_output, no_constraint}
use Rattle.scan.specs.Shape.{kind_ok, is_sensor, well_formed}
use Rattle.scan.proofs.ShapeLaws.{Masks, counts, lengths, masks, outs_lt, read_formed, points_formed}
use Rattle.text.specs.Grammar.{output_word, sensor_word, past_word, of_word, rest_word, never_word, and_word, on_word, off_word, rank_word, end_word}
use Rattle.text.specs.Text.{output_line, kind_line, read_line, rest_line, state_word, behind, named_below, named_reads, several, read_literal, output_literal, never_line, spaced_words, parted, shown_lines, lines_text, text_of}
use Rattle.promise.specs.Allowed.{read_name, output_name}
use Rattle.promise.specs.Texts.{parts_at, lines_of, line_at, words_of, ReadShown, TextSays}
use Rattle.promise.proofs.NameMeanings.{names_mean}
use Rattle.promise.proofs.ConstraintsShown.{never_words, never_says}
use Rattle.promise.proofs.RestLines.{rest_lines, rest_below, rest_of, rest_for, rest_rising}
use Rattle.promise.proofs.TextLines.{Solid, AllSolid, SolidLine, SolidLines, solid_append, solid_joined, line_back, lines_both, lines_each, lines_joined, lines_back, line_at_law, solid_at, line_behind, lines_count}

-- ---- words that are no names

-- a list of bytes, tested
abbrev solid_bytes : List ℕ → Bool
solid_bytes [] = true
solid_bytes (b ∷ bytes) = ltb 0x20 b && solid_bytes bytes

solid_by : (bytes : List ℕ) → solid_bytes bytes ≡ true → Solid bytes
solid_by [] e k h = absurd (omega arith)
solid_by (b ∷ bytes) e zero h = let l = ltb-true 0x20 b (and_true (ltb 0x20 b) (solid_bytes bytes) e).0 in omega arith
solid_by (b ∷ bytes) e (suc k) h = solid_by bytes (and_true (ltb 0x20 b) (solid_bytes bytes) e).1 k (omega arith)

state_solid : (plain : Bool) → Solid (state_word plain)
state_solid true = solid_by on_word refl
state_solid false = solid_by off_word refl

digits_solid : (n : ℕ) → Solid (decimal n)
digits_solid n k h = omega (arith, (decimal_digits n k h).0)

rank_solid : (b : Bool) (n : ℕ) → AllSolid (cond b (rank_word ∷ decimal n ∷ []) [])
rank_solid true n = (solid_by rank_word refl, (digits_solid n, tt))
rank_solid false n = tt

literal_solid : (there others : Bool) (words : List (List ℕ)) → (there ≡ true → AllSolid words) → AllSolid (cond there (behind others words) [])
literal_solid true true words a = (solid_by and_word refl, a refl)
literal_solid true false words a = a refl
literal_solid false others words a = tt

-- ---- a line among those of a list's elements, with lines behind them

mapped_at : {A : Type 0} (f : A → List (List ℕ)) (l : List A) (d : A) (n : ℕ) (rest : List (List (List ℕ))) (k : ℕ)
    → k < n → length (take n l) ≡ n → get_or (map f (take n l) ++ rest) k [] ≡ f (get_or l k d)
mapped_at {A = A} f l d n rest k h many = go (take n l) k (omega arith) ∙ ap f (get_or-take n l k d h)
  where
    go : (xs : List A) (j : ℕ) → j < length xs → get_or (map f xs ++ rest) j [] ≡ f (get_or xs j d)
    go [] j h = absurd (omega arith)
    go (x ∷ xs) zero h = refl
    go (x ∷ xs) (suc j) h = go xs j (omega arith)

-- ---- the words of a well-formed set are solid

module _ (s : Set) (ok : well_formed s ≡ true) where
  output_solid : (j : ℕ) → j < s.n → Solid (output_name s j)
  output_solid j h k l = (((names_mean s ok).output j h).1 k l).0

  read_solid : (j : ℕ) → j < s.r → Solid (read_name s j)
  read_solid j h k l = (((names_mean s ok).read j h).1 k l).0

  output_line_law : (j : ℕ) → j < s.n → SolidLine (output_line (output_point s.outputs j))
  output_line_law j h = (solid_by output_word refl, (output_solid j h, tt))

  kind_line_law : (j : ℕ) → j < s.r → (k : Kind) → kind_ok s.reads s.n j k ≡ true → SolidLine (kind_line s (read_name s j) k)
  unfolding kind_ok
  kind_line_law j h Sensor e = (solid_by sensor_word refl, (read_solid j h, tt))
  kind_line_law j h (PastOutput i) e = (solid_by past_word refl, (read_solid j h, (solid_by of_word refl, (output_solid i (ltb-true i s.n e), tt))))
  kind_line_law j h (PastSensor i) e =
      let less = ltb-true i j (and_true (ltb i j) (is_sensor (read_point s.reads i).kind) e).0 in
      (solid_by past_word refl, (read_solid j h, (solid_by of_word refl, (read_solid i (omega arith), tt))))

  read_line_law : (j : ℕ) → j < s.r → SolidLine (read_line s (read_point s.reads j))
  read_line_law j h = kind_line_law j h (read_point s.reads j).kind (read_formed s.reads s.n j ((points_formed s ok).read_ok_law j h)).kind_ok_law

  rest_line_law : (k : ℕ) → SolidLines (rest_line s k)
  unfolding rest_line
  rest_line_law k = go (bit k s.rest) refl
    where
      go : (on : Bool) → bit k s.rest ≡ on → SolidLines (cond on ((rest_word ∷ output_name s k ∷ []) ∷ []) [])
      go true e = ((solid_by rest_word refl, (output_solid k (rest_below s ok k e), tt)), tt)
      go false e = tt

  -- ---- constraints

  module _ (c : Constraint) (ms : Masks s.r s.n c) where
    -- the points that a constraint names are of the set
    read_named : (k : ℕ) → bit k (named_reads c) ≡ true → k < s.r
    read_named k e = bit_below s.r k (named_reads c) (or_lt s.r c.read_plain c.read_negated ms.read_plain ms.read_negated) e

    output_named : (k : ℕ) → bit k (outs c) ≡ true → k < s.n
    output_named k e = bit_below s.n k (outs c) (outs_lt s.r s.n c ms) e

    read_literal_law : (k : ℕ) → AllSolid (read_literal s c k)
    unfolding read_literal
    read_literal_law k = literal_solid (bit k (named_reads c)) (named_below (named_reads c) k) _ (λ e. (read_solid k (read_named k e), (state_solid (bit k c.read_plain), tt)))

    output_literal_law : (k : ℕ) → AllSolid (output_literal s c k)
    unfolding output_literal
    output_literal_law k =
        literal_solid (bit k (outs c)) (named_below (named_reads c) most_reads || named_below (outs c) k) _
        (λ e. (output_solid k (output_named k e), (state_solid (bit k c.out_plain), rank_solid (several c || not (eqb (rank c k) 0)) (rank c k))))

    never_line_law : SolidLine (never_line s c)
    unfolding never_line
    never_line_law = (
      solid_by never_word refl,
      solid_append (joined most_reads (read_literal s c)) (joined most_outputs (output_literal s c))
          (solid_joined (read_literal s c) most_reads (λ k h. read_literal_law k)) (solid_joined (output_literal s c) most_outputs (λ k h. output_literal_law k)),
    )

  -- ---- all lines

  abbrev output_lines : List (List (List ℕ))
  output_lines = map output_line (take s.n s.outputs)

  abbrev read_lines : List (List (List ℕ))
  read_lines = map (read_line s) (take s.r s.reads)

  abbrev never_lines : List (List (List ℕ))
  never_lines = map (never_line s) (take s.m s.constraints)

  outputs_many : length (take s.n s.outputs) ≡ s.n
  outputs_many = length-take-le s.n s.outputs (omega (arith, (counts s ok).n_le, (lengths s ok).1))

  reads_many : length (take s.r s.reads) ≡ s.r
  reads_many = length-take-le s.r s.reads (omega (arith, (counts s ok).r_le, (lengths s ok).0))

  constraints_many : length (take s.m s.constraints) ≡ s.m
  constraints_many = length-take-le s.m s.constraints (omega (arith, (counts s ok).m_le, (lengths s ok).2))

  abbrev end_lines : List (List (List ℕ))
  end_lines = (end_word ∷ []) ∷ []

  -- the lines behind those of the points
  abbrev later_lines : List (List (List ℕ))
  later_lines = rest_lines s ok ++ (never_lines ++ end_lines)

  -- the lines of the set
  abbrev lines : List (List (List ℕ))
  lines = output_lines ++ (read_lines ++ later_lines)

  lines_shown : shown_lines s ≡ lines
  unfolding shown_lines
  lines_shown =
      append_assoc ((output_lines ++ read_lines) ++ rest_lines s ok) never_lines end_lines
      ∙ append_assoc (output_lines ++ read_lines) (rest_lines s ok) (never_lines ++ end_lines)
      ∙ append_assoc output_lines read_lines later_lines

  lines_solid : SolidLines lines
  unfolding constraint
  lines_solid =
      lines_both output_lines (read_lines ++ later_lines)
      (lines_each output_line (take s.n s.outputs) no_output
      (λ k h.
      let l : k < s.n = omega (arith, outputs_many) in
      subst (λ (p : OutputPoint). SolidLine (output_line p)) (sym (get_or-take s.n s.outputs k no_output l)) (output_line_law k l)))
      (lines_both read_lines later_lines
      (lines_each (read_line s) (take s.r s.reads) no_read
      (λ k h.
      let l : k < s.r = omega (arith, reads_many) in
      subst (λ (p : ReadPoint). SolidLine (read_line s p)) (sym (get_or-take s.r s.reads k no_read l)) (read_line_law k l)))
      (lines_both (rest_lines s ok) (never_lines ++ end_lines) (lines_joined (rest_line s) most_outputs rest_line_law)
      (lines_both never_lines end_lines
      (lines_each (never_line s) (take s.m s.constraints) no_constraint
      (λ k h.
      let l : k < s.m = omega (arith, constraints_many) in
      subst (λ (c : Constraint). SolidLine (never_line s c)) (sym (get_or-take s.m s.constraints k no_constraint l)) (never_line_law (constraint s k) (masks s ok k l))))
      ((solid_by end_word refl, tt), tt))))

  outputs_lines : length output_lines ≡ s.n
  outputs_lines = length-map (take s.n s.outputs) output_line ∙ outputs_many

  reads_lines : length read_lines ≡ s.r
  reads_lines = length-map (take s.r s.reads) (read_line s) ∙ reads_many

  never_lines_count : length never_lines ≡ s.m
  never_lines_count = length-map (take s.m s.constraints) (never_line s) ∙ constraints_many

  -- so many are of outputs at rest
  abbrev rests : ℕ
  rests = length (rest_lines s ok)

  lines_many : length lines ≡ s.n + s.r + rests + s.m + 1
  lines_many =
      omega (
        arith,
        length-append output_lines (read_lines ++ later_lines),
        length-append read_lines later_lines,
        length-append (rest_lines s ok) (never_lines ++ end_lines),
        length-append never_lines end_lines,
        outputs_lines,
        reads_lines,
        never_lines_count,
      )

  -- ---- the lines read off the text

  text_lines : lines_of (text_of s) ≡ map parted lines ++ ([] ∷ [])
  unfolding text_of
  text_lines = ap (λ (l : List (List (List ℕ))). parts_at 0x0A (lines_text l)) lines_shown ∙ lines_back lines lines_solid

  text_line : (k : ℕ) → k < s.n + s.r + rests + s.m + 1 → line_at (text_of s) k ≡ parted (get_or lines k [])
  text_line k h = ap (λ (l : List (List ℕ)). get_or l k []) text_lines ∙ line_at_law lines lines_solid k (omega (arith, lines_many))

  text_words : (k : ℕ) → k < s.n + s.r + rests + s.m + 1 → words_of (text_of s) k ≡ get_or lines k []
  text_words k h = ap (parts_at 0x20) (text_line k h) ∙ line_back (get_or lines k []) (solid_at lines lines_solid k (omega (arith, lines_many)))

  -- the lines by number
  output_at_law : (j : ℕ) → j < s.n → get_or lines j [] ≡ output_line (output_point s.outputs j)
  output_at_law j h = mapped_at output_line s.outputs no_output s.n (read_lines ++ later_lines) j h outputs_many

  read_at_law : (k : ℕ) → k < s.r → get_or lines (s.n + k) [] ≡ read_line s (read_point s.reads k)
  read_at_law k h =
      ap (λ (a : ℕ). get_or lines (a + k) []) (sym outputs_lines)
      ∙ get_or-append-add output_lines (read_lines ++ later_lines) k []
      ∙ mapped_at (read_line s) s.reads no_read s.r later_lines k h reads_many

  later : (k : ℕ) → get_or lines (s.n + s.r + k) [] ≡ get_or later_lines k []
  later k =
      let e : s.n + s.r + k ≡ length output_lines + (length read_lines + k) = omega (arith, outputs_lines, reads_lines) in
      ap (λ (a : ℕ). get_or lines a []) e
      ∙ get_or-append-add output_lines (read_lines ++ later_lines) (length read_lines + k) []
      ∙ get_or-append-add read_lines later_lines k []

  rest_at : (j : ℕ) → j < rests → words_of (text_of s) (s.n + s.r + j) ≡ get_or (rest_lines s ok) j []
  rest_at j h = text_words (s.n + s.r + j) (omega arith) ∙ later j ∙ get_or-append (rest_lines s ok) (never_lines ++ end_lines) [] j h

  -- the lines behind those of outputs at rest
  last : (k : ℕ) → get_or lines (s.n + s.r + rests + k) [] ≡ get_or (never_lines ++ end_lines) k []
  last k =
      let e : s.n + s.r + rests + k ≡ s.n + s.r + (rests + k) = omega arith in
      ap (λ (a : ℕ). get_or lines a []) e
      ∙ later (rests + k)
      ∙ get_or-append-add (rest_lines s ok) (never_lines ++ end_lines) k []

  never_at : (i : ℕ) → i < s.m → get_or lines (s.n + s.r + rests + i) [] ≡ never_line s (constraint s i)
  unfolding constraint
  never_at i h = last i ∙ mapped_at (never_line s) s.constraints no_constraint s.m end_lines i h constraints_many

  -- the words of constraint i
  never_shown : (i : ℕ) → i < s.m → words_of (text_of s) (s.n + s.r + rests + i) ≡ never_line s (constraint s i)
  never_shown i h = text_words (s.n + s.r + rests + i) (omega arith) ∙ never_at i h

  end_at : get_or lines (s.n + s.r + rests + s.m) [] ≡ end_word ∷ []
  end_at =
      last s.m
      ∙ ap (λ (a : ℕ). get_or (never_lines ++ end_lines) a []) (sym never_lines_count ∙ omega arith)
      ∙ get_or-append-add never_lines end_lines 0 []

  read_shown : (k : ℕ) → k < s.r → (words : List (List ℕ)) → words ≡ read_line s (read_point s.reads k) → ReadShown s k (kind s k) words
  unfolding kind
  read_shown k h words e = go (read_point s.reads k).kind e
    where
      go : (x : Kind) → words ≡ kind_line s (read_name s k) x → ReadShown s k x words
      go Sensor q = q
      go (PastOutput i) q = q
      go (PastSensor i) q = q

  -- The text of a well-formed set says the set.
  pub text_says : TextSays s (text_of s)
  unfolding spaced_words
  text_says = record {
    resting = rests;
    count = ap length text_lines ∙ lines_count lines ∙ omega (arith, lines_many);
    last = text_line (s.n + s.r + rests + s.m) (omega arith) ∙ ap parted end_at;
    nothing_after = ap₂ (λ (l : List (List ℕ)) (k : ℕ). get_or l k []) text_lines (sym lines_many) ∙ line_behind lines;
    outputs = λ j h. text_words j (omega arith) ∙ output_at_law j h;
    reads = λ k h. read_shown k h (words_of (text_of s) (s.n + k)) (text_words (s.n + k) (omega arith) ∙ read_at_law k h);
    at_rest = λ j h. let x = rest_of s ok j h in (x.0, x.1, rest_at j h ∙ x.2);
    rests = λ k b. let x = rest_for s ok k b in (x.0, x.1, rest_at x.0 x.1 ∙ x.2);
    rising = λ i j h g p q hp hq e f.
        let l : i < rests = omega arith in
        rest_rising s ok i j h g p q hp hq (sym (rest_at i l) ∙ e) (sym (rest_at j g) ∙ f);
    literals = λ i h. never_words s ok i h (words_of (text_of s) (s.n + s.r + rests + i)) (never_shown i h);
    constraints = λ i h. never_says s ok i h (words_of (text_of s) (s.n + s.r + rests + i)) (never_shown i h);
  }
