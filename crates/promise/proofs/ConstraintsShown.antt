-- The line of a constraint in the text of a set: its literals are those of the constraint, in its points' names.
-- Assumes nothing.
use mathlib.Core.Path.{◌≡◌, refl, sym, ap, subst, ◌∙◌}
use mathlib.Core.Bool.{Bool, true, false, cond, not, ◌&&◌, ◌||◌}
use mathlib.Core.List.{List, [], ◌∷◌, ◌++◌}
use mathlib.Core.Logic.{◌↔◌, ◌⊎◌, ◌≢◌, inl, inr, ⊎_elim}
use Prim.Native.Nat.{ℕ, ◌/◌, ◌≤◌, ◌<◌}
use native.Mathlib.Omega.{arith}
use lib.Dec.{eqb}
use lib.Bits.{bit_and, bit_or, or_lt}
use lib.ListN.{length, get_or, length-append}
use borrow.Author.Tests.{eqb-true}
use Rattle.words.specs.Word.{bit}
use Rattle.words.specs.Loop.{some, joined}
use Rattle.words.proofs.BoolLaws.{clash, or_true, or_false, or_left, or_right}
use Rattle.words.proofs.BitLaws.{bit_of_and, bit_of_or, bit_below, bit_zero}
use Rattle.words.proofs.LoopLaws.{some_true, some_bit}
use Rattle.decimal.specs.Decimal.{last_digit, leading, decimal}
use Rattle.decimal.specs.Digits.{said_after, said}
use Rattle.decimal.proofs.DigitsLaws.{decimal_says, decimal_shortest, decimal_digits}
use Rattle.scan.specs.declared.set.Constraint.{Constraint}
use Rattle.scan.specs.declared.set.Set.{Set}
use Rattle.scan.specs.Set.{most_reads, most_outputs, constraint, rank, outs}
use Rattle.scan.specs.Constraint.{combined}
use Rattle.scan.specs.Shape.{well_formed}
use Rattle.scan.proofs.ShapeLaws.{Masks, counts, masks, outs_lt, rank_lt}
use Rattle.shape.specs.Finding.{find_of}
use Rattle.shape.specs.Told.{find_told}
use Rattle.text.specs.Grammar.{never_word, rank_word}
use Rattle.text.specs.Text.{state_word, behind, named_below, named_reads, several, read_literal, output_literal, never_line}
use Rattle.promise.specs.Allowed.{read_name, output_name}
use Rattle.promise.specs.Terms.{Bit, IsTrue}
use Rattle.promise.specs.Texts.{word_never, and_word, on_word, off_word, Shown, literals_in, rank_behind, as_words, Among, Opened, OfRead, OfOutput, StandsIn, ShownTrue, SaysRead, SaysOutput, LiteralSays, NeverSays}
use Rattle.promise.proofs.Bits.{bit_set, set_bit}
use Rattle.promise.proofs.ConstraintMeanings.{combined_iff}
use Rattle.promise.proofs.NameRefusals.{find_refusals}
use Rattle.promise.proofs.LineLiterals.{literals_back, words_long, has_one, but_first, first_never, one_if, has_all, words_all, opened_all, among_left, among_right, among_either, among_items, items_among}

-- ---- states and ranks

state_on : (b : Bool) → state_word b ≡ on_word → b ≡ true
state_on true e = refl
state_on false e = let z : ◌≡◌ {A = ℕ} 3 2 = ap length e in absurd (omega arith)

state_off : (b : Bool) → state_word b ≡ off_word → b ≡ false
state_off true e = let z : ◌≡◌ {A = ℕ} 2 3 = ap length e in absurd (omega arith)
state_off false e = refl

on_not_off : (state : List ℕ) → state ≡ on_word → state ≡ off_word → ⊥
on_not_off state e f = let z : ◌≡◌ {A = ℕ} 2 3 = ap length (sym e ∙ f) in omega arith

state_either : (b : Bool) → (state_word b ≡ on_word) ⊎ (state_word b ≡ off_word)
state_either true = inl refl
state_either false = inr refl

-- the digits of a rank, where it is shown
abbrev digits_if : Bool → ℕ → List ℕ
digits_if b n = cond b (decimal n) []

digits_behind : (b : Bool) (n : ℕ) → cond b (rank_word ∷ decimal n ∷ []) [] ≡ rank_behind (digits_if b n)
unfolding decimal
digits_behind true n = some_digits (leading 19 (n / 10)) (last_digit n)
  where
    some_digits : (x : List ℕ) (d : ℕ) → rank_word ∷ (x ++ (d ∷ [])) ∷ [] ≡ rank_behind (x ++ (d ∷ []))
    some_digits [] d = refl
    some_digits (y ∷ x) d = refl
digits_behind false n = refl

digits_long : (b : Bool) (n : ℕ) → b ≡ true → 1 ≤ length (digits_if b n)
unfolding decimal
digits_long true n e = omega (arith, length-append (leading 19 (n / 10)) (last_digit n ∷ []))
digits_long false n e = clash e refl

digits_said : (b : Bool) (n : ℕ) → n < 256 → (b ≡ false → n ≡ 0) → n ≡ said (digits_if b n)
unfolding said_after
digits_said true n h z = sym (decimal_says n (omega arith))
digits_said false n h z = z refl

-- every byte is a digit
abbrev Digits : List ℕ → Type 0
Digits bytes = (j : ℕ) → j < length bytes → (0x30 ≤ get_or bytes j 0) × (get_or bytes j 0 ≤ 0x39)

-- the first of several digits is not 0
abbrev Shortest : List ℕ → Type 0
Shortest bytes = 2 ≤ length bytes → get_or bytes 0 0 ≢ 0x30

digits_shortest : (b : Bool) (n : ℕ) → n < 256 → Shortest (digits_if b n)
digits_shortest true n h = decimal_shortest n (omega arith)
digits_shortest false n h = λ m. absurd (omega arith)

digits_each : (b : Bool) (n : ℕ) → Digits (digits_if b n)
digits_each true n = decimal_digits n
digits_each false n = λ j h. absurd (omega arith)

-- ---- two masks without a common bit, and the points in either

module _ (p q : ℕ) (once : bit_and p q ≡ 0) (k : ℕ) where
  row : bit k (bit_or p q) ≡ bit k p || bit k q
  row = bit_of_or k p q

  -- a plain point is said to be on, and no other
  plain_on : Bit k p ↔ ((bit k (bit_or p q) ≡ true) × (state_word (bit k p) ≡ on_word))
  plain_on = (
    λ b. let e = set_bit k p b in (row ∙ or_left (bit k p) (bit k q) e, ap state_word e),
    λ x. bit_set k p (state_on (bit k p) x.1),
  )

  -- a negated point is said to be off, and no other
  negated_off : Bit k q ↔ ((bit k (bit_or p q) ≡ true) × (state_word (bit k p) ≡ off_word))
  negated_off = (
    λ b. let e = set_bit k q b in
        (row ∙ or_right (bit k p) (bit k q) e, ap state_word (first_not (bit k p) (bit k q) (sym (bit_of_and k p q) ∙ ap (bit k) once ∙ bit_zero k) e)),
    λ x. bit_set k q (or_true (bit k p) (bit k q) (sym row ∙ x.0) (state_off (bit k p) x.1)),
  )
    where
      first_not : (a b : Bool) → (a && b) ≡ false → b ≡ true → a ≡ false
      first_not true b e t = clash t e
      first_not false b e t = refl

-- ---- the literals of a constraint

module _ (s : Set) (ok : well_formed s ≡ true) (c : Constraint) (ms : Masks s.r s.n c) where
  abbrev read_item : ℕ → Shown
  read_item k = record { before = cond (named_below (named_reads c) k) and_word word_never; name = read_name s k; state = state_word (bit k c.read_plain); digits = [] }

  -- the rank of output k is shown
  abbrev shows : ℕ → Bool
  shows k = several c || not (eqb (rank c k) 0)

  abbrev output_item : ℕ → Shown
  output_item k = record {
    before = cond (named_below (named_reads c) most_reads || named_below (outs c) k) and_word word_never;
    name = output_name s k;
    state = state_word (bit k c.out_plain);
    digits = digits_if (shows k) (rank c k);
  }

  abbrev read_has_name : ℕ → Bool
  read_has_name k = bit k (named_reads c)

  abbrev output_named : ℕ → Bool
  output_named k = bit k (outs c)

  abbrev read_items : List Shown
  read_items = joined most_reads (λ k. one_if (read_has_name k) (read_item k))

  abbrev output_items : List Shown
  output_items = joined most_outputs (λ k. one_if (output_named k) (output_item k))

  abbrev items : List Shown
  items = read_items ++ output_items

  read_words : joined most_reads (read_literal s c) ≡ but_first (as_words read_items)
  unfolding read_literal
  read_words = words_all [] [] false refl refl tt read_has_name read_item (λ k. refl) most_reads

  read_has : named_below (named_reads c) most_reads ≡ has_one read_items
  read_has = has_all [] [] false refl refl tt read_has_name read_item (λ k. refl) most_reads

  read_opened : Opened word_never read_items
  read_opened = opened_all [] [] false refl refl tt read_has_name read_item (λ k. refl) most_reads

  all_words : joined most_reads (read_literal s c) ++ joined most_outputs (output_literal s c) ≡ but_first (as_words items)
  unfolding output_literal
  all_words =
      (λ i. joined most_reads (read_literal s c) ++ joined most_outputs (λ k. cond (output_named k)
      (behind (named_below (named_reads c) most_reads || named_below (outs c) k) (output_name s k ∷ state_word (bit k c.out_plain) ∷ digits_behind (shows k) (rank c k) i)) []))
      ∙ words_all read_items (joined most_reads (read_literal s c)) (named_below (named_reads c) most_reads) read_has read_words read_opened output_named output_item (λ k. refl) most_outputs

  all_opened : Opened word_never items
  all_opened = opened_all read_items (joined most_reads (read_literal s c)) (named_below (named_reads c) most_reads) read_has read_words read_opened output_named output_item (λ k. refl) most_outputs

  all_has : has_one items ≡ true
  all_has =
      let one = some_bit s.n (outs c) (outs_lt s.r s.n c ms) ms.has_out in
      let few = (counts s ok).n_le in
      sym (has_all read_items (joined most_reads (read_literal s c)) (named_below (named_reads c) most_reads) read_has read_words read_opened output_named output_item (λ k. refl) most_outputs)
      ∙ or_right (named_below (named_reads c) most_reads) (some most_outputs output_named) (some_true most_outputs output_named one.0 (omega (arith, one.1, few)) one.2)

  -- The words of the line are those of its literals.
  line_words : never_line s c ≡ as_words items
  unfolding never_line
  line_words = ap (λ (l : List (List ℕ)). never_word ∷ l) all_words ∙ first_never items all_opened all_has

  -- The literals read off the line are those of the constraint.
  pub line_literals : (words : List (List ℕ)) → words ≡ never_line s c → literals_in (length words) words ≡ items
  line_literals words e =
      ap (λ (l : List (List ℕ)). literals_in (length l) l) (e ∙ line_words) ∙ literals_back word_never items (length (as_words items)) (words_long items) all_opened

  -- ---- each literal is of a point

  read_below : (k : ℕ) → read_has_name k ≡ true → k < s.r
  read_below k e = bit_below s.r k (named_reads c) (or_lt s.r c.read_plain c.read_negated ms.read_plain ms.read_negated) e

  output_below : (k : ℕ) → output_named k ≡ true → k < s.n
  output_below k e = bit_below s.n k (outs c) (outs_lt s.r s.n c ms) e

  -- a literal of the line
  item_of : (l : Shown) → Among l items → ((k : ℕ) × (read_has_name k ≡ true) × (read_item k ≡ l)) ⊎ ((k : ℕ) × (output_named k ≡ true) × (output_item k ≡ l))
  item_of l a =
      ⊎_elim (λ x. let r = items_among read_has_name read_item l most_reads x in inl (r.0, r.2, r.3)) (λ x. let r = items_among output_named output_item l most_outputs x in inr (r.0, r.2, r.3))
      (among_either l read_items output_items a)

  read_among : (k : ℕ) → read_has_name k ≡ true → Among (read_item k) items
  read_among k e =
      let h = read_below k e in
      let few = (counts s ok).r_le in
      among_left (read_item k) read_items output_items (among_items read_has_name read_item most_reads k (omega arith) e)

  output_among : (k : ℕ) → output_named k ≡ true → Among (output_item k) items
  output_among k e =
      let h = output_below k e in
      let few = (counts s ok).n_le in
      among_right (output_item k) read_items output_items (among_items output_named output_item most_outputs k (omega arith) e)

  read_found : (k : ℕ) → read_has_name k ≡ true → OfRead s (read_item k) k
  read_found k e = ((find_refusals s (read_name s k)).read k).1 (ok, read_below k e, refl)

  output_found : (k : ℕ) → output_named k ≡ true → OfOutput s (output_item k) k
  output_found k e = ((find_refusals s (output_name s k)).output k).1 (ok, output_below k e, refl)

  told_same : (x y j k : ℕ) → 0 ∷ x ∷ j ∷ [] ≡ 0 ∷ y ∷ k ∷ [] → (x ≡ y) × (j ≡ k)
  told_same x y j k e = (cc, cc)

  told_apart : {C : Type 0} (j k : ℕ) → 0 ∷ 0 ∷ j ∷ [] ≡ 0 ∷ 1 ∷ k ∷ [] → C
  told_apart j k e = let z : ◌≡◌ {A = ℕ} 0 1 = (told_same 0 1 j k e).0 in absurd (omega arith)

  -- a literal of read point k
  of_read : (l : Shown) → Among l items → (k : ℕ) → OfRead s l k → (read_has_name k ≡ true) × (read_item k ≡ l)
  of_read l a k f =
      ⊎_elim
      (λ x.
      let same : x.0 ≡ k = (told_same 0 0 x.0 k (sym (read_found x.0 x.1) ∙ ap (λ (y : Shown). find_told (find_of s y.name)) x.2 ∙ f)).1 in
      subst (λ (j : ℕ). (read_has_name j ≡ true) × (read_item j ≡ l)) same (x.1, x.2))
      (λ x. told_apart k x.0 (sym f ∙ sym (ap (λ (y : Shown). find_told (find_of s y.name)) x.2) ∙ output_found x.0 x.1))
      (item_of l a)

  -- a literal of output k
  of_output : (l : Shown) → Among l items → (k : ℕ) → OfOutput s l k → (output_named k ≡ true) × (output_item k ≡ l)
  of_output l a k f =
      ⊎_elim
      (λ x. told_apart x.0 k (sym (read_found x.0 x.1) ∙ ap (λ (y : Shown). find_told (find_of s y.name)) x.2 ∙ f))
      (λ x.
      let same : x.0 ≡ k = (told_same 1 1 x.0 k (sym (output_found x.0 x.1) ∙ ap (λ (y : Shown). find_told (find_of s y.name)) x.2 ∙ f)).1 in
      subst (λ (j : ℕ). (output_named j ≡ true) × (output_item j ≡ l)) same (x.1, x.2))
      (item_of l a)

  -- ---- masks

  says_read : (k : ℕ) (state : List ℕ) → ((read_has_name k ≡ true) × (state_word (bit k c.read_plain) ≡ state)) ↔ SaysRead s items k state
  says_read k state = (
    λ x. (read_item k, read_among k x.0, read_found k x.0, x.1),
    λ x. let r = of_read x.0 x.1 k x.2 in (r.0, ap (λ (l : Shown). l.state) r.1 ∙ x.3),
  )

  says_output : (k : ℕ) (state : List ℕ) → ((output_named k ≡ true) × (state_word (bit k c.out_plain) ≡ state)) ↔ SaysOutput s items k state
  says_output k state = (
    λ x. (output_item k, output_among k x.0, output_found k x.0, x.1),
    λ x. let r = of_output x.0 x.1 k x.2 in (r.0, ap (λ (l : Shown). l.state) r.1 ∙ x.3),
  )

  both : {A B C : Type 0} → A ↔ B → B ↔ C → A ↔ C
  both f g = (λ a. g.0 (f.0 a), λ c. f.1 (g.1 c))

  read_plain_says : (k : ℕ) → Bit k c.read_plain ↔ SaysRead s items k on_word
  read_plain_says k = both (plain_on c.read_plain c.read_negated ms.read_once k) (says_read k on_word)

  read_negated_says : (k : ℕ) → Bit k c.read_negated ↔ SaysRead s items k off_word
  read_negated_says k = both (negated_off c.read_plain c.read_negated ms.read_once k) (says_read k off_word)

  out_plain_says : (k : ℕ) → Bit k c.out_plain ↔ SaysOutput s items k on_word
  out_plain_says k = both (plain_on c.out_plain c.out_negated ms.out_once k) (says_output k on_word)

  out_negated_says : (k : ℕ) → Bit k c.out_negated ↔ SaysOutput s items k off_word
  out_negated_says k = both (negated_off c.out_plain c.out_negated ms.out_once k) (says_output k off_word)

  -- ---- truth

  stands_on : (state : List ℕ) (k word : ℕ) → state ≡ on_word → StandsIn state k word → Bit k word
  stands_on state k word e = ⊎_elim (λ x. x.1) (λ x. absurd (on_not_off state e x.0))

  stands_off : (state : List ℕ) (k word : ℕ) → state ≡ off_word → StandsIn state k word → ¬ Bit k word
  stands_off state k word e = ⊎_elim (λ x. absurd (on_not_off state x.0 e)) (λ x. x.1)

  module _ (w v : ℕ) where
    -- a true literal of a read point, and of an output
    true_read : (l : Shown) (k : ℕ) → OfRead s l k → ShownTrue s l w v → StandsIn l.state k w
    true_read l k f =
        ⊎_elim (λ x. subst (λ (j : ℕ). StandsIn l.state j w) (told_same 0 0 x.0 k (sym x.1 ∙ f)).1 x.2) (λ x. told_apart k x.0 (sym f ∙ x.1))

    true_output : (l : Shown) (k : ℕ) → OfOutput s l k → ShownTrue s l w v → StandsIn l.state k v
    true_output l k f =
        ⊎_elim (λ x. told_apart x.0 k (sym x.1 ∙ f)) (λ x. subst (λ (j : ℕ). StandsIn l.state j v) (told_same 1 1 x.0 k (sym x.1 ∙ f)).1 x.2)

    -- in a constraint that is true the point stands as the state says
    read_stands : IsTrue c w v → (k : ℕ) → read_has_name k ≡ true → (b : Bool) → bit k c.read_plain ≡ b → StandsIn (state_word b) k w
    read_stands t k e true p = inl (refl, t.0.0 k (bit_set k c.read_plain p))
    read_stands t k e false p = inr (refl, t.0.1 k ((negated_off c.read_plain c.read_negated ms.read_once k).1 (e, ap state_word p)))

    output_stands : IsTrue c w v → (k : ℕ) → output_named k ≡ true → (b : Bool) → bit k c.out_plain ≡ b → StandsIn (state_word b) k v
    output_stands t k e true p = inl (refl, t.1.0 k (bit_set k c.out_plain p))
    output_stands t k e false p = inr (refl, t.1.1 k ((negated_off c.out_plain c.out_negated ms.out_once k).1 (e, ap state_word p)))

    true_says : IsTrue c w v ↔ ((l : Shown) → Among l items → ShownTrue s l w v)
    true_says = (
      λ t l a.
          ⊎_elim
          (λ x. subst (λ (y : Shown). ShownTrue s y w v) x.2 (inl (x.0, read_found x.0 x.1, read_stands t x.0 x.1 (bit x.0 c.read_plain) refl)))
          (λ x. subst (λ (y : Shown). ShownTrue s y w v) x.2 (inr (x.0, output_found x.0 x.1, output_stands t x.0 x.1 (bit x.0 c.out_plain) refl)))
          (item_of l a),
      λ all. (
        (
          λ k b. let x = (read_plain_says k).0 b in stands_on x.0.state k w x.3 (true_read x.0 k x.2 (all x.0 x.1)),
          λ k b. let x = (read_negated_says k).0 b in stands_off x.0.state k w x.3 (true_read x.0 k x.2 (all x.0 x.1)),
        ),
        (
          λ k b. let x = (out_plain_says k).0 b in stands_on x.0.state k v x.3 (true_output x.0 k x.2 (all x.0 x.1)),
          λ k b. let x = (out_negated_says k).0 b in stands_off x.0.state k v x.3 (true_output x.0 k x.2 (all x.0 x.1)),
        ),
      ),
    )

-- ---- the line of constraint i

not_false : (b : Bool) → not b ≡ false → b ≡ true
not_false true e = refl
not_false false e = clash refl e

some_long : (ls : List Shown) → has_one ls ≡ true → 1 ≤ length ls
some_long [] e = clash e refl
some_long (l ∷ ls) e = omega arith

module _ (s : Set) (ok : well_formed s ≡ true) (i : ℕ) (h : i < s.m) where
  abbrev c : Constraint
  c = constraint s i

  ms : Masks s.r s.n c
  ms = masks s ok i h

  abbrev line : List Shown
  line = items s ok c ms

  -- where no rank is shown it is 0
  unshown : (k : ℕ) → shows s ok c ms k ≡ false → rank c k ≡ 0
  unshown k e = eqb-true (rank c k) 0 (not_false (eqb (rank c k) 0) (or_false (several c) (not (eqb (rank c k) 0)) e).1)

  literal_says : (l : Shown) → Among l line → LiteralSays s i l
  unfolding combined
  literal_says l a = record {
    point = ⊎_elim (λ x. inl (x.0, subst (λ (y : Shown). OfRead s y x.0) x.2 (read_found s ok c ms x.0 x.1)))
        (λ x. inr (x.0, subst (λ (y : Shown). OfOutput s y x.0) x.2 (output_found s ok c ms x.0 x.1))) (item_of s ok c ms l a);
    state = ⊎_elim (λ x. subst (λ (y : Shown). (y.state ≡ on_word) ⊎ (y.state ≡ off_word)) x.2 (state_either (bit x.0 c.read_plain)))
        (λ x. subst (λ (y : Shown). (y.state ≡ on_word) ⊎ (y.state ≡ off_word)) x.2 (state_either (bit x.0 c.out_plain))) (item_of s ok c ms l a);
    ranks = λ k f.
        let x = of_output s ok c ms l a k f in
        let few = output_below s ok c ms k x.0 in
        let most = (counts s ok).n_le in
        digits_said (shows s ok c ms k) (rank c k) (rank_lt c k (ms.ranks_ok k (omega arith))) (unshown k) ∙ ap (λ (y : Shown). said y.digits) x.1;
    ranked = λ d k f.
        let x = of_output s ok c ms l a k f in
        subst (λ (y : Shown). 1 ≤ length y.digits) x.1 (digits_long (shows s ok c ms k) (rank c k) (or_left (several c) (not (eqb (rank c k) 0)) ((combined_iff s ok i h).1 d)));
    digits = ⊎_elim (λ x. subst (λ (y : Shown). Digits y.digits) x.2 (λ j l. absurd (omega arith)))
        (λ x. subst (λ (y : Shown). Digits y.digits) x.2 (digits_each (shows s ok c ms x.0) (rank c x.0))) (item_of s ok c ms l a);
    shortest = ⊎_elim (λ x. subst (λ (y : Shown). Shortest y.digits) x.2 (λ m. absurd (omega arith)))
        (λ x.
        let few = output_below s ok c ms x.0 x.1 in
        let most = (counts s ok).n_le in
        subst (λ (y : Shown). Shortest y.digits) x.2 (digits_shortest (shows s ok c ms x.0) (rank c x.0) (rank_lt c x.0 (ms.ranks_ok x.0 (omega arith))))) (item_of s ok c ms l a);
    no_rank = λ k f. sym (ap (λ (y : Shown). y.digits) (of_read s ok c ms l a k f).1);
  }

  line_says : NeverSays s i line
  line_says = record {
    some = some_long line (all_has s ok c ms);
    opened = all_opened s ok c ms;
    true_when = true_says s ok c ms;
    read_plain = read_plain_says s ok c ms;
    read_negated = read_negated_says s ok c ms;
    out_plain = out_plain_says s ok c ms;
    out_negated = out_negated_says s ok c ms;
    each = literal_says;
  }

  -- The literals read off the words of the line say the constraint.
  pub never_says : (words : List (List ℕ)) → words ≡ never_line s c → NeverSays s i (literals_in (length words) words)
  never_says words e = subst (λ (l : List Shown). NeverSays s i l) (sym (line_literals s ok c ms words e)) line_says

  -- Nothing else stands in it.
  pub never_words : (words : List (List ℕ)) → words ≡ never_line s c → words ≡ as_words (literals_in (length words) words)
  never_words words e = e ∙ line_words s ok c ms ∙ sym (ap as_words (line_literals s ok c ms words e))
