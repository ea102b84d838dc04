-- The laws of specs/Text: the text that the code puts, with names from lists, is the text of the set; what it answers; and how long a text is at most.
-- Assumes nothing.
use mathlib.Core.Path.{◌≡◌, refl, sym, ap, ◌∙◌}
use mathlib.Core.Bool.{Bool, true, false, cond, not, ◌||◌}
use mathlib.Core.List.{List, [], ◌∷◌, ◌++◌, map}
use Prim.Native.Nat.{ℕ, zero, suc, ◌+◌, ◌*◌, ◌^◌, ◌≤◌, ◌<◌}
use native.Mathlib.Nat.{zero-add, suc-mul, lt_of_lt_of_le}
use native.Mathlib.Decide.{dec_le}
use native.Mathlib.Omega.{arith}
use lib.Dec.{leb, ltb, eqb}
use lib.ListN.{length, get_or, take, drop, replicate, length-append, length-take, get_or-eq_default}
use lib.Pow.{pow_mono}
use lib.Bits.{or_lt}
use borrow.Author.Tests.{lt-ltb, le-ltb, le-leb, lt-leb, ltb-true, ltb-false}
use Rattle.words.proofs.ListLaws.{zeros_any}
use Rattle.words.specs.Word.{bit}
use Rattle.words.specs.Loop.{first, joined}
use Rattle.words.proofs.BoolLaws.{by_test}
use Rattle.words.proofs.BitLaws.{bit_zero}
use Rattle.words.proofs.LoopLaws.{some_true, some_false, some_bit, first_spec}
use Rattle.decimal.specs.Decimal.{decimal}
use Rattle.decimal.proofs.DigitsLaws.{decimal_short}
use Rattle.scan.specs.declared.set.Kind.{Kind}
use Rattle.scan.specs.declared.set.Kind.TheVariants.{Sensor, PastOutput, PastSensor}
use Rattle.scan.specs.declared.set.ReadPoint.{ReadPoint}
use Rattle.scan.specs.declared.set.OutputPoint.{OutputPoint}
use Rattle.scan.specs.declared.set.Constraint.{Constraint}
use Rattle.scan.specs.declared.set.Set.{Set}
use Rattle.scan.specs.Set.{most_reads, most_outputs, name_places, read_point, output_point, constraint, no_read, no_output, no_constraint, rank, outs}
use Rattle.scan.specs.Names.{zero_at, name_length, name_bytes}
use Rattle.scan.specs.Shape.{well_formed}
use Rattle.scan.proofs.ShapeLaws.{counts, masks}
use Rattle.shape.specs.way.Names.{ReadNames, OutputNames}
use Rattle.std.specs.Prelude.{Ok, Err}
use Rattle.shape.specs.declared.putting.PutError.TheVariants.{BadSet, Short}
use Rattle.text.specs.Grammar.{output_word, sensor_word, past_word, of_word, rest_word, never_word, and_word, rank_word, end_word}
use Rattle.text.specs.Text.{output_line, kind_line, read_line, rest_line, spaced_words, state_word, rank_words, behind, named_below, named_reads, several, read_literal, output_literal, never_line, shown_lines, lines_text, text_of, text_answer, buffer_after}
use Rattle.text.specs.way.Place.{text_end, put_within, line_bytes, kind_line_by, rest_if, rest_line_by, literal_if, literal_at, never_line_by, outputs_bytes, reads_bytes, rests_bytes, constraints_bytes}
use Rattle.text.proofs.PlaceLaws.{spaced_append, lines_append, put_is}

-- ---- whether a read point is named

-- some read point is named exactly when the mask is not 0
pub any_named : (w : ℕ) → w < 2 ^ most_reads → ltb 0 w ≡ named_below w most_reads
any_named w h =
    by_test (ltb 0 w)
    (λ e. let k = some_bit most_reads w h (ltb-true 0 w e) in e ∙ sym (some_true most_reads (λ i. bit i w) k.0 k.1 k.2))
    (λ e. e ∙ sym (some_false most_reads (λ i. bit i w) (λ k l. ap (bit k) (none w e) ∙ bit_zero k)))
  where
    none : (x : ℕ) → ltb 0 x ≡ false → x ≡ 0
    none zero e = refl
    none (suc x) e = absurd (omega (arith, ltb-false 0 (suc x) e))

-- ---- names from lists

-- past their ends both have none
pub read_names_all : (names : List (List ℕ)) (reads : List ReadPoint) → length names ≡ most_reads → length reads ≡ most_reads → ReadNames names reads
    → (k : ℕ) → get_or names k [] ≡ (read_point reads k).name
read_names_all names reads ln lr same k = go (dec_le most_reads k)
  where
    go : Dec (most_reads ≤ k) → get_or names k [] ≡ (read_point reads k).name
    go (yes h) = get_or-eq_default names [] (omega arith) ∙ sym (ap (λ (p : ReadPoint). p.name) (get_or-eq_default reads no_read (omega arith)))
    go (no h) = same k (omega arith)

pub output_names_all : (names : List (List ℕ)) (outputs : List OutputPoint) → length names ≡ most_outputs → length outputs ≡ most_outputs → OutputNames names outputs
    → (k : ℕ) → get_or names k [] ≡ (output_point outputs k).name
output_names_all names outputs ln lo same k = go (dec_le most_outputs k)
  where
    go : Dec (most_outputs ≤ k) → get_or names k [] ≡ (output_point outputs k).name
    go (yes h) = get_or-eq_default names [] (omega arith) ∙ sym (ap (λ (p : OutputPoint). p.name) (get_or-eq_default outputs no_output (omega arith)))
    go (no h) = same k (omega arith)

module _ (s : Set) (reads outputs : List (List ℕ)) (read_same : (k : ℕ) → get_or reads k [] ≡ (read_point s.reads k).name)
    (output-same : (k : ℕ) → get_or outputs k [] ≡ (output_point s.outputs k).name) where
  kind_told : (name : List ℕ) (k : Kind) → kind_line_by reads outputs name k ≡ kind_line s name k
  kind_told name Sensor = refl
  kind_told name (PastOutput i) = ap (λ (l : List ℕ). past_word ∷ name ∷ of_word ∷ name_bytes l ∷ []) (output-same i)
  kind_told name (PastSensor i) = ap (λ (l : List ℕ). past_word ∷ name ∷ of_word ∷ name_bytes l ∷ []) (read_same i)

  read_told : (c : Constraint) (k : ℕ) → literal_at false reads c.read_plain (named_reads c) (replicate most_reads 0) false k ≡ read_literal s c k
  unfolding literal_at read_literal
  read_told c k =
      let named = named_reads c in
      λ i. literal_if (bit k named) (named_below named k) (name_bytes (read_same k i)) (bit k c.read_plain) false (zeros_any most_reads k i)

  output_told : (c : Constraint) (k : ℕ)
      → literal_at (named_below (named_reads c) most_reads) outputs c.out_plain (outs c) c.ranks (several c) k ≡ output_literal s c k
  unfolding literal_at output_literal
  output_told c k =
      λ i. literal_if (bit k (outs c)) (named_below (named_reads c) most_reads || named_below (outs c) k) (name_bytes (output-same k i)) (bit k c.out_plain) (several c) (rank c k)

  never_told : (c : Constraint) → never_line_by reads outputs c ≡ never_line s c
  unfolding never_line
  never_told c = λ i. never_word ∷ (joined most_reads (λ k. read_told c k i) ++ joined most_outputs (λ k. output_told c k i))

  rest_told : (k : ℕ) → rest_line_by outputs s.rest k ≡ rest_line s k
  unfolding rest_line_by rest_line
  rest_told k = ap (λ (l : List ℕ). rest_if (bit k s.rest) (name_bytes l)) (output-same k)

  -- the lines of the points, of the rest word and of the constraints, and `end`
  pub text_told : (((outputs_bytes s.outputs s.n ++ reads_bytes reads outputs s.reads s.r) ++ rests_bytes outputs s.rest) ++ constraints_bytes reads outputs s.constraints s.m)
      ++ (0x65 ∷ 0x6E ∷ 0x64 ∷ 0x0A ∷ [])
      ≡ text_of s
  unfolding text_of shown_lines lines_text never_line spaced_words
  text_told =
      let o = map output_line (take s.n s.outputs) in
      let r = map (read_line s) (take s.r s.reads) in
      let q = joined most_outputs (rest_line s) in
      let m = map (never_line s) (take s.m s.constraints) in
      let e = (end_word ∷ []) ∷ [] in
      (λ i. (((lines_text o ++ lines_text (map (λ p. kind_told (name_bytes p.name) p.kind i) (take s.r s.reads)))
      ++ lines_text (joined most_outputs (λ k. rest_told k i)))
      ++ lines_text (map (λ c. never_told c i) (take s.m s.constraints))) ++ (0x65 ∷ 0x6E ∷ 0x64 ∷ 0x0A ∷ []))
      ∙ ap (λ (l : List ℕ). ((l ++ lines_text q) ++ lines_text m) ++ lines_text e) (sym (lines_append o r))
      ∙ ap (λ (l : List ℕ). (l ++ lines_text m) ++ lines_text e) (sym (lines_append (o ++ r) q))
      ∙ ap (λ (l : List ℕ). l ++ lines_text e) (sym (lines_append ((o ++ r) ++ q) m))
      ∙ sym (lines_append (((o ++ r) ++ q) ++ m) e)

-- ---- the read points that a constraint in use names

pub reads_few : (s : Set) → well_formed s ≡ true → (i : ℕ) → i < s.m → named_reads (get_or s.constraints i no_constraint) < 2 ^ most_reads
unfolding constraint
reads_few s ok i h =
    let ms = masks s ok i h in
    let c = get_or s.constraints i no_constraint in
    lt_of_lt_of_le (or_lt s.r c.read_plain c.read_negated ms.read_plain ms.read_negated) (pow_mono {i = s.r} {j = most_reads} (counts s ok).r_le)

-- ---- how long a text is at most

name_most : (name : List ℕ) → length (name_bytes name) ≤ 8
unfolding name_bytes name_length
name_most name = omega (arith, length-take (first name_places (zero_at name)) name, (first_spec name_places (zero_at name)).within)

spaced_long : (w : List ℕ) (ws : List (List ℕ)) → length (spaced_words (w ∷ ws)) ≡ 1 + length w + length (spaced_words ws)
unfolding spaced_words
spaced_long w ws = length-append (0x20 ∷ w) (spaced_words ws) ∙ omega arith

spaced_none : length (spaced_words []) ≡ 0
unfolding spaced_words
spaced_none = refl

state_most : (plain : Bool) → length (state_word plain) ≤ 3
state_most true = omega arith
state_most false = omega arith

rank_most : (b : Bool) (n : ℕ) → length (spaced_words (cond b (rank_word ∷ decimal n ∷ []) [])) ≤ 26
rank_most true n = omega (arith, spaced_long rank_word (decimal n ∷ []), spaced_long (decimal n) [], spaced_none, decimal_short n)
rank_most false n = omega (arith, spaced_none)

behind_most : (others : Bool) (words : List (List ℕ)) (most : ℕ) → length (spaced_words words) ≤ most → length (spaced_words (behind others words)) ≤ 4 + most
behind_most true words most h = omega (arith, spaced_long and_word words)
behind_most false words most h = omega arith

cond_most : (there : Bool) (words : List (List ℕ)) (most : ℕ) → length (spaced_words words) ≤ most → length (spaced_words (cond there words [])) ≤ most
cond_most true words most h = h
cond_most false words most h = omega (arith, spaced_none)

named_most : (name : List ℕ) (plain : Bool) (more : List (List ℕ)) (most : ℕ) → length (spaced_words more) ≤ most → length (spaced_words (name_bytes name ∷ state_word plain ∷ more)) ≤ 13 + most
named_most name plain more most h = omega (arith, spaced_long (name_bytes name) (state_word plain ∷ more), spaced_long (state_word plain) more, name_most name, state_most plain)

module _ (s : Set) where
  read_literal_most : (c : Constraint) (k : ℕ) → length (spaced_words (read_literal s c k)) ≤ 17
  unfolding read_literal
  read_literal_most c k =
      cond_most (bit k (named_reads c)) (behind (named_below (named_reads c) k) (name_bytes (read_point s.reads k).name ∷ state_word (bit k c.read_plain) ∷ [])) 17
      (behind_most (named_below (named_reads c) k) (name_bytes (read_point s.reads k).name ∷ state_word (bit k c.read_plain) ∷ []) 13
      (named_most (read_point s.reads k).name (bit k c.read_plain) [] 0 (omega (arith, spaced_none))))

  output_literal_most : (c : Constraint) (k : ℕ) → length (spaced_words (output_literal s c k)) ≤ 43
  unfolding output_literal
  output_literal_most c k =
      let others = named_below (named_reads c) most_reads || named_below (outs c) k in
      let words = name_bytes (output_point s.outputs k).name ∷ state_word (bit k c.out_plain) ∷ rank_words (several c) (rank c k) in
      cond_most (bit k (outs c)) (behind others words) 43
      (behind_most others words 39
      (named_most (output_point s.outputs k).name (bit k c.out_plain) (rank_words (several c) (rank c k)) 26 (rank_most (several c || not (eqb (rank c k) 0)) (rank c k))))

joined_most : (f : ℕ → List (List ℕ)) (most : ℕ) → ((k : ℕ) → length (spaced_words (f k)) ≤ most) → (n : ℕ) → length (spaced_words (joined n f)) ≤ n * most
unfolding joined
joined_most f most h zero = omega (arith, spaced_none)
joined_most f most h (suc n) =
    omega (arith, ap length (spaced_append (joined n f) (f n)), length-append (spaced_words (joined n f)) (spaced_words (f n)), joined_most f most h n, h n, suc-mul n most)

lines_most : {A : Type 0} (line : A → List (List ℕ)) (most : ℕ) → ((x : A) → length (line_bytes (line x)) ≤ most) → (xs : List A) → length (lines_text (map line xs)) ≤ length xs * most
unfolding lines_text
lines_most line most h [] = omega arith
lines_most line most h (x ∷ xs) = omega (arith, length-append (line_bytes (line x)) (lines_text (map line xs)), h x, lines_most line most h xs, suc-mul (length xs) most)

joined_lines_most : (f : ℕ → List (List (List ℕ))) (most : ℕ) → ((k : ℕ) → length (lines_text (f k)) ≤ most) → (n : ℕ) → length (lines_text (joined n f)) ≤ n * most
unfolding joined lines_text
joined_lines_most f most h zero = omega arith
joined_lines_most f most h (suc n) =
    omega (arith, ap length (lines_append (joined n f) (f n)), length-append (lines_text (joined n f)) (lines_text (f n)), joined_lines_most f most h n, h n, suc-mul n most)

line_long : (first : List ℕ) (words : List (List ℕ)) → length (line_bytes (first ∷ words)) ≡ length first + length (spaced_words words) + 1
line_long first words = length-append (first ++ spaced_words words) (0x0A ∷ []) ∙ ap (λ (k : ℕ). k + 1) (length-append first (spaced_words words))

both_long : (x y : List (List (List ℕ))) → length (lines_text (x ++ y)) ≡ length (lines_text x) + length (lines_text y)
both_long x y = ap length (lines_append x y) ∙ length-append (lines_text x) (lines_text y)

end_long : length (lines_text ((end_word ∷ []) ∷ [])) ≡ 4
unfolding lines_text spaced_words
end_long = refl

output_line_most : (p : OutputPoint) → length (line_bytes (output_line p)) ≤ 16
output_line_most p = omega (arith, line_long output_word (name_bytes p.name ∷ []), spaced_long (name_bytes p.name) [], spaced_none, name_most p.name)

module _ (s : Set) where
  rest_line_most : (k : ℕ) → length (lines_text (rest_line s k)) ≤ 14
  unfolding rest_line lines_text
  rest_line_most k = go (bit k s.rest) (output_point s.outputs k).name
    where
      go : (on : Bool) (name : List ℕ) → length (lines_text (rest_if on (name_bytes name))) ≤ 14
      go true name =
          omega (
            arith,
            length-append (line_bytes (rest_word ∷ name_bytes name ∷ [])) [],
            line_long rest_word (name_bytes name ∷ []),
            spaced_long (name_bytes name) [],
            spaced_none,
            name_most name,
          )
      go false name = omega arith

  past_most : (name other : List ℕ) → length (line_bytes (past_word ∷ name_bytes name ∷ of_word ∷ name_bytes other ∷ [])) ≤ 26
  past_most name other =
      omega (
        arith,
        line_long past_word (name_bytes name ∷ of_word ∷ name_bytes other ∷ []),
        spaced_long (name_bytes name) (of_word ∷ name_bytes other ∷ []),
        spaced_long of_word (name_bytes other ∷ []),
        spaced_long (name_bytes other) [],
        spaced_none,
        name_most name,
        name_most other,
      )

  kind_line_most : (name : List ℕ) (k : Kind) → length (line_bytes (kind_line s (name_bytes name) k)) ≤ 26
  kind_line_most name Sensor = omega (arith, line_long sensor_word (name_bytes name ∷ []), spaced_long (name_bytes name) [], spaced_none, name_most name)
  kind_line_most name (PastOutput i) = past_most name (output_point s.outputs i).name
  kind_line_most name (PastSensor i) = past_most name (read_point s.reads i).name

  never_line_most : (c : Constraint) → length (line_bytes (never_line s c)) ≤ 862
  unfolding never_line
  never_line_most c =
      let r = joined most_reads (read_literal s c) in
      let o = joined most_outputs (output_literal s c) in
      omega (
        arith,
        line_long never_word (r ++ o),
        ap length (spaced_append r o),
        length-append (spaced_words r) (spaced_words o),
        joined_most (read_literal s c) 17 (read_literal_most s c) most_reads,
        joined_most (output_literal s c) 43 (output_literal_most s c) most_outputs,
      )

  -- The text of a well-formed set has at most 65,536 bytes.
  pub text_fits : well_formed s ≡ true → length (text_of s) ≤ text_end
  unfolding text_of shown_lines lines_text
  text_fits ok =
      let o = map output_line (take s.n s.outputs) in
      let r = map (read_line s) (take s.r s.reads) in
      let q = joined most_outputs (rest_line s) in
      let m = map (never_line s) (take s.m s.constraints) in
      let e = (end_word ∷ []) ∷ [] in
      let c = counts s ok in
      let whole : length (text_of s) ≡ length (lines_text o) + length (lines_text r) + length (lines_text q) + length (lines_text m) + length (lines_text e) =
      both_long (((o ++ r) ++ q) ++ m) e
      ∙ ap (λ (k : ℕ). k + length (lines_text e)) (both_long ((o ++ r) ++ q) m
      ∙ ap (λ (k : ℕ). k + length (lines_text m)) (both_long (o ++ r) q ∙ ap (λ (k : ℕ). k + length (lines_text q)) (both_long o r))) in
      omega (
        arith,
        whole,
        end_long,
        lines_most output_line 16 output_line_most (take s.n s.outputs),
        length-take s.n s.outputs,
        lines_most (read_line s) 26 (λ p. kind_line_most p.name p.kind) (take s.r s.reads),
        length-take s.r s.reads,
        joined_lines_most (rest_line s) 14 rest_line_most most_outputs,
        lines_most (never_line s) 862 never_line_most (take s.m s.constraints),
        length-take s.m s.constraints,
        c.r_le,
        c.n_le,
        c.m_le,
      )

-- ---- the answer

module _ (s : Set) (buf : List ℕ) where
  pub bad_set : well_formed s ≡ false → (Err BadSet ≡ text_answer s (length buf)) × (buf ≡ buffer_after s buf)
  unfolding text_answer buffer_after
  bad_set e = (sym (simp e), sym (simp e))

  module _ (ok : well_formed s ≡ true) (needed : ℕ) (e : needed ≡ length (text_of s)) where
    pub too_short : length buf < needed → (Err (Short needed) ≡ text_answer s (length buf)) × (buf ≡ buffer_after s buf)
    unfolding text_answer buffer_after
    too_short h =
        let lt : ltb (length buf) (length (text_of s)) ≡ true = lt-ltb (length buf) (length (text_of s)) (omega arith) in
        let le : leb (length (text_of s)) (length buf) ≡ false = lt-leb (length (text_of s)) (length buf) (omega arith) in
        (ap (λ (k : ℕ). Err (Short k)) e ∙ sym (simp (ok, lt)), sym (simp (ok, le)))

    pub put_whole : needed ≤ length buf → (after : List ℕ) → after ≡ put_within buf 0 (text_of s) → (Ok needed ≡ text_answer s (length buf)) × (after ≡ buffer_after s buf)
    unfolding text_answer buffer_after
    put_whole h after a =
        let lt : ltb (length buf) (length (text_of s)) ≡ false = le-ltb (length buf) (length (text_of s)) (omega arith) in
        let le : leb (length (text_of s)) (length buf) ≡ true = le-leb (length (text_of s)) (length buf) (omega arith) in
        let fits = text_fits s ok in (
          ap (λ (k : ℕ). Ok k) e ∙ sym (simp (ok, lt)),
          a ∙ put_is buf 0 (text_of s) (omega arith) (omega arith) ∙ ap (λ (k : ℕ). text_of s ++ drop k buf) (zero-add (length (text_of s))) ∙ sym (simp (ok, le)),
        )
