-- What a text says is one set: two well-formed sets of which the same text says what it says are the same.
-- Assumes nothing.
use mathlib.Core.Path.{◌≡◌, refl, sym, ap, subst, ◌∙◌}
use mathlib.Core.Bool.{true}
use mathlib.Core.List.{List, [], ◌∷◌, ◌++◌}
use mathlib.Core.Logic.{◌↔◌, ◌⊎◌, inl, inr, ⊎_elim}
use Prim.Native.Nat.{ℕ, zero, suc, ◌+◌, ◌-◌, ◌^◌, ◌≤◌, ◌<◌}
use native.Mathlib.Decide.{dec_lt}
use native.Mathlib.Omega.{arith}
use lib.Dec.{ltb}
use lib.ListN.{length, get_or, replicate}
use lib.Seq.{ext_get_or}
use borrow.Author.Tests.{ltb-true}
use Rattle.words.specs.Word.{bit}
use Rattle.words.proofs.BoolLaws.{by_test, and_true, same_truth}
use Rattle.words.proofs.BitLaws.{same_bits}
use Rattle.scan.specs.declared.set.Kind.{Kind}
use Rattle.scan.specs.declared.set.Kind.TheVariants.{Sensor, PastOutput, PastSensor}
use Rattle.scan.specs.declared.set.Set.{Set}
use Rattle.scan.specs.Set.{read_point, output_point, kind, constraint, rank, no_read, no_output, no_constraint}
use Rattle.scan.specs.Shape.{kind_ok, is_sensor, well_formed}
use Rattle.scan.proofs.ShapeLaws.{rest_lt, masks, read_formed, points_formed}
use Rattle.text.specs.Text.{text_of}
use Rattle.promise.specs.Allowed.{read_name, output_name}
use Rattle.promise.specs.Terms.{Bit}
use Rattle.promise.specs.Meanings.{PlacesMean}
use Rattle.promise.specs.Texts.{parts_at, words_of, word_never, on_word, off_word, ReadShown, RestShown, Shown, literals_in, literals_of, Opened, OfRead, OfOutput, SaysRead, SaysOutput, NeverSays, TextSays}
use Rattle.promise.proofs.Bits.{bit_set, set_bit, bit_clear}
use Rattle.promise.proofs.NameRefusals.{find_refusals}
use Rattle.promise.proofs.NameMeanings.{names_mean}
use Rattle.promise.proofs.PlaceMeanings.{places_mean}
use Rattle.promise.proofs.RestLines.{rest_below}
use Rattle.promise.proofs.TextsSay.{text_says}

-- ---- counts: the first byte of a line tells which it is

-- o, s or p, r, n, e
record Tells (n r q m : ℕ) (first : ℕ → ℕ) : Type 0 where
  output : (k : ℕ) → k < n → first k ≡ 0x6F
  read : (k : ℕ) → k < r → (first (n + k) ≡ 0x73) ⊎ (first (n + k) ≡ 0x70)
  rest : (k : ℕ) → k < q → first (n + r + k) ≡ 0x72
  never : (k : ℕ) → k < m → first (n + r + q + k) ≡ 0x6E
  ends : first (n + r + q + m) ≡ 0x65

module _ (n r q m : ℕ) (first : ℕ → ℕ) (t : Tells n r q m first) where
  -- the line behind the outputs at rest
  behind_rests : (first (n + r + q) ≡ 0x6E) ⊎ (first (n + r + q) ≡ 0x65)
  behind_rests = go (dec_lt 0 m)
    where
      go : Dec (0 < m) → (first (n + r + q) ≡ 0x6E) ⊎ (first (n + r + q) ≡ 0x65)
      go (yes h) = inl (ap first (omega arith) ∙ t.never 0 h)
      go (no h) = inr (ap first (omega arith) ∙ t.ends)

  -- the line behind the read points
  behind_reads : (first (n + r) ≡ 0x72) ⊎ ((first (n + r) ≡ 0x6E) ⊎ (first (n + r) ≡ 0x65))
  behind_reads = go (dec_lt 0 q)
    where
      go : Dec (0 < q) → (first (n + r) ≡ 0x72) ⊎ ((first (n + r) ≡ 0x6E) ⊎ (first (n + r) ≡ 0x65))
      go (yes h) = inl (ap first (omega arith) ∙ t.rest 0 h)
      go (no h) =
          let e : first (n + r) ≡ first (n + r + q) = ap first (omega arith) in
          inr (⊎_elim (λ a. inl (e ∙ a)) (λ a. inr (e ∙ a)) behind_rests)

  no_output_law : ¬ (first n ≡ 0x6F)
  no_output_law e = go (dec_lt 0 r)
    where
      go : Dec (0 < r) → ⊥
      go (yes h) =
          let z : first (n + 0) ≡ 0x6F = ap first (omega arith) ∙ e in
          ⊎_elim (λ a. omega arith) (λ a. omega arith) (t.read 0 h)
      go (no h) =
          let z : first (n + r) ≡ 0x6F = ap first (omega arith) ∙ e in
          ⊎_elim (λ a. omega arith) (⊎_elim (λ a. omega arith) (λ a. omega arith)) behind_reads

  no_read_law : ¬ ((first (n + r) ≡ 0x73) ⊎ (first (n + r) ≡ 0x70))
  no_read_law =
      ⊎_elim (λ a. ⊎_elim (λ b. omega arith) (⊎_elim (λ b. omega arith) (λ b. omega arith)) behind_reads)
      (λ a. ⊎_elim (λ b. omega arith) (⊎_elim (λ b. omega arith) (λ b. omega arith)) behind_reads)

  no_rest : ¬ (first (n + r + q) ≡ 0x72)
  no_rest e = ⊎_elim (λ a. omega arith) (λ a. omega arith) behind_rests

-- two runs of lines of one sort that both end where another sort stands
same_run : (Sort : ℕ → Type 0) (n n' : ℕ) → ((k : ℕ) → k < n → Sort k) → ¬ Sort n → ((k : ℕ) → k < n' → Sort k) → ¬ Sort n' → n ≡ n'
same_run Sort n n' a end b end' = go (dec_lt n n') (dec_lt n' n)
  where
    go : Dec (n < n') → Dec (n' < n) → n ≡ n'
    go (yes h) l = absurd (end (b n h))
    go (no h) (yes l) = absurd (end' (a n' l))
    go (no h) (no l) = omega arith

same_counts : (n r q m n' r' q' m' : ℕ) (first : ℕ → ℕ) → Tells n r q m first → Tells n' r' q' m' first → n + r + q + m ≡ n' + r' + q' + m'
    → (n ≡ n') × (r ≡ r') × (q ≡ q') × (m ≡ m')
same_counts n r q m n' r' q' m' first t u total =
    let en = same_run (λ (k : ℕ). first k ≡ 0x6F) n n' t.output (no_output_law n r q m first t) u.output (no_output_law n' r' q' m' first u) in
    let v = subst (λ (x : ℕ). Tells x r' q' m' first) (sym en) u in
    let er = same_run (λ (k : ℕ). (first (n + k) ≡ 0x73) ⊎ (first (n + k) ≡ 0x70)) r r' t.read (no_read_law n r q m first t) v.read (no_read_law n r' q' m' first v) in
    let w = subst (λ (x : ℕ). Tells n x q' m' first) (sym er) v in
    let eq = same_run (λ (k : ℕ). first (n + r + k) ≡ 0x72) q q' t.rest (no_rest n r q m first t) w.rest (no_rest n r q' m' first w) in
    (en, er, eq, omega arith)

-- the first byte of a line's first word
abbrev first_byte : List (List ℕ) → ℕ
first_byte words = get_or (get_or words 0 []) 0 0

-- where literals are read, the word before the first is that of the line
first_literal : (most : ℕ) (words : List (List ℕ)) → 1 ≤ length (literals_in most words) → Opened word_never (literals_in most words) → get_or words 0 [] ≡ word_never
unfolding literals_in
first_literal zero words h o = absurd (omega arith)
first_literal (suc most) [] h o = absurd (omega arith)
first_literal (suc most) (w ∷ words) h o = o.0

tells : (s : Set) (text : List ℕ) (t : TextSays s text) → Tells s.n s.r t.resting s.m (λ k. first_byte (words_of text k))
unfolding parts_at
tells s text t = record {
  output = λ k h. ap first_byte (t.outputs k h);
  read = λ k h. by_kind (kind s k) k (words_of text (s.n + k)) (t.reads k h);
  rest = λ k h. ap first_byte (t.at_rest k h).2;
  never = λ k h.
      let words = words_of text (s.n + s.r + t.resting + k) in
      ap (λ (w : List ℕ). get_or w 0 0) (first_literal (length words) words (t.constraints k h).some (t.constraints k h).opened);
  ends = ap (λ (l : List ℕ). first_byte (parts_at 0x20 l)) t.last;
}
  where
    by_kind : (x : Kind) (k : ℕ) (words : List (List ℕ)) → ReadShown s k x words → (first_byte words ≡ 0x73) ⊎ (first_byte words ≡ 0x70)
    by_kind Sensor k words e = inl (ap first_byte e)
    by_kind (PastOutput i) k words e = inr (ap first_byte e)
    by_kind (PastSensor i) k words e = inr (ap first_byte e)

-- ---- a past names a point of the set

abbrev NamesPoint : Set → Kind → Type 0
NamesPoint s Sensor = Unit {0}
NamesPoint s (PastOutput i) = i < s.n
NamesPoint s (PastSensor i) = i < s.r

names_of : (s : Set) → well_formed s ≡ true → (k : ℕ) → k < s.r → NamesPoint s (kind s k)
unfolding kind kind_ok
names_of s ok k h = go (read_point s.reads k).kind (read_formed s.reads s.n k ((points_formed s ok).read_ok_law k h)).kind_ok_law
  where
    go : (x : Kind) → kind_ok s.reads s.n k x ≡ true → NamesPoint s x
    go Sensor e = tt
    go (PastOutput i) e = ltb-true i s.n e
    go (PastSensor i) e = let less = ltb-true i k (and_true (ltb i k) (is_sensor (read_point s.reads i).kind) e).0 in omega arith

-- ---- two sets of one text

module _ (s t : Set) (os : well_formed s ≡ true) (ot : well_formed t ≡ true) (text : List ℕ) (a : TextSays s text) (b : TextSays t text) where
  counts_same : (s.n ≡ t.n) × (s.r ≡ t.r) × (a.resting ≡ b.resting) × (s.m ≡ t.m)
  counts_same =
      let total : s.n + s.r + a.resting + s.m + 2 ≡ t.n + t.r + b.resting + t.m + 2 = sym a.count ∙ b.count in
      same_counts s.n s.r a.resting s.m t.n t.r b.resting t.m (λ k. first_byte (words_of text k)) (tells s text a) (tells t text b) (omega arith)

  n_same : s.n ≡ t.n
  n_same = counts_same.0

  r_same : s.r ≡ t.r
  r_same = counts_same.1

  resting_same : a.resting ≡ b.resting
  resting_same = counts_same.2

  m_same : s.m ≡ t.m
  m_same = counts_same.3

  -- ---- names

  output_name_bytes : (j : ℕ) → j < s.n → output_name s j ≡ output_name t j
  output_name_bytes j h = ap (λ (l : List (List ℕ)). get_or l 1 []) (sym (a.outputs j h) ∙ b.outputs j (omega (arith, n_same)))

  read_line_law : (k : ℕ) → k < s.r → ReadShown t k (kind t k) (words_of text (s.n + k))
  read_line_law k h = subst (λ (x : ℕ). ReadShown t k (kind t k) (words_of text (x + k))) (sym n_same) (b.reads k (omega (arith, r_same)))

  name_shown : (u : Set) (k : ℕ) (x : Kind) (words : List (List ℕ)) → ReadShown u k x words → get_or words 1 [] ≡ read_name u k
  name_shown u k Sensor words e = ap (λ (l : List (List ℕ)). get_or l 1 []) e
  name_shown u k (PastOutput i) words e = ap (λ (l : List (List ℕ)). get_or l 1 []) e
  name_shown u k (PastSensor i) words e = ap (λ (l : List (List ℕ)). get_or l 1 []) e

  read_name_bytes : (k : ℕ) → k < s.r → read_name s k ≡ read_name t k
  read_name_bytes k h = sym (name_shown s k (kind s k) (words_of text (s.n + k)) (a.reads k h)) ∙ name_shown t k (kind t k) (words_of text (s.n + k)) (read_line_law k h)

  -- ---- kinds

  kind_same : (k : ℕ) → k < s.r → kind s k ≡ kind t k
  kind_same k h = go (kind s k) (kind t k) (words_of text (s.n + k)) (names_of s os k h) (names_of t ot k (omega (arith, r_same))) (a.reads k h) (read_line_law k h)
    where
      go : (x y : Kind) (words : List (List ℕ)) → NamesPoint s x → NamesPoint t y → ReadShown s k x words → ReadShown t k y words → x ≡ y
      go Sensor Sensor words p q e f = refl
      go Sensor (PastOutput j) words p q e f = let z : ◌≡◌ {A = ℕ} 2 4 = ap length (sym e ∙ f) in absurd (omega arith)
      go Sensor (PastSensor j) words p q e f = let z : ◌≡◌ {A = ℕ} 2 4 = ap length (sym e ∙ f) in absurd (omega arith)
      go (PastOutput i) Sensor words p q e f = let z : ◌≡◌ {A = ℕ} 4 2 = ap length (sym e ∙ f) in absurd (omega arith)
      go (PastSensor i) Sensor words p q e f = let z : ◌≡◌ {A = ℕ} 4 2 = ap length (sym e ∙ f) in absurd (omega arith)
      go (PastOutput i) (PastOutput j) words p q e f =
          let l : j < s.n = omega (arith, n_same) in
          ap PastOutput ((names_mean s os).one_output i j p l (ap (λ (ws : List (List ℕ)). get_or ws 3 []) (sym e ∙ f) ∙ sym (output_name_bytes j l)))
      go (PastSensor i) (PastSensor j) words p q e f =
          let l : j < s.r = omega (arith, r_same) in
          ap PastSensor ((names_mean s os).one_read i j p l (ap (λ (ws : List (List ℕ)). get_or ws 3 []) (sym e ∙ f) ∙ sym (read_name_bytes j l)))
      go (PastOutput i) (PastSensor j) words p q e f =
          let l : j < s.r = omega (arith, r_same) in
          absurd ((names_mean s os).two_kinds j i l p (read_name_bytes j l ∙ sym (ap (λ (ws : List (List ℕ)). get_or ws 3 []) (sym e ∙ f))))
      go (PastSensor i) (PastOutput j) words p q e f =
          let l : j < s.n = omega (arith, n_same) in
          absurd ((names_mean s os).two_kinds i j p l (ap (λ (ws : List (List ℕ)). get_or ws 3 []) (sym e ∙ f) ∙ sym (output_name_bytes j l)))

  -- ---- points

  places_s : PlacesMean s
  places_s = places_mean s os

  places_t : PlacesMean t
  places_t = places_mean t ot

  output_point_law : (j : ℕ) → j < 12 → output_point s.outputs j ≡ output_point t.outputs j
  output_point_law j h = go (dec_lt j s.n)
    where
      go : Dec (j < s.n) → output_point s.outputs j ≡ output_point t.outputs j
      go (yes l) =
          let name : (output_point s.outputs j).name ≡ (output_point t.outputs j).name =
          places_s.output_name_bytes j l ∙ ap (λ (x : List ℕ). x ++ replicate (8 - length x) 0) (output_name_bytes j l) ∙ sym (places_t.output_name_bytes j (omega (arith, n_same))) in
          (λ i. record { name = name i })
      go (no l) = places_s.output_beyond j (omega arith) h ∙ sym (places_t.output_beyond j (omega (arith, n_same)) h)

  outputs_same : s.outputs ≡ t.outputs
  outputs_same =
      let ls = places_s.places in
      let lt = places_t.places in
      ext_get_or no_output s.outputs t.outputs (ls.1 ∙ sym lt.1) (λ j h. output_point_law j (omega (arith, ls.1)))

  read_point_law : (k : ℕ) → k < 20 → read_point s.reads k ≡ read_point t.reads k
  unfolding kind
  read_point_law k h = go (dec_lt k s.r)
    where
      go : Dec (k < s.r) → read_point s.reads k ≡ read_point t.reads k
      go (yes l) =
          let name : (read_point s.reads k).name ≡ (read_point t.reads k).name =
          places_s.read_name_bytes k l ∙ ap (λ (x : List ℕ). x ++ replicate (8 - length x) 0) (read_name_bytes k l) ∙ sym (places_t.read_name_bytes k (omega (arith, r_same))) in
          (λ i. record { kind = kind_same k l i; name = name i })
      go (no l) = places_s.read_beyond k (omega arith) h ∙ sym (places_t.read_beyond k (omega (arith, r_same)) h)

  reads_same : s.reads ≡ t.reads
  reads_same =
      let ls = places_s.places in
      let lt = places_t.places in
      ext_get_or no_read s.reads t.reads (ls.0 ∙ sym lt.0) (λ k h. read_point_law k (omega (arith, ls.0)))

  -- ---- a name finds the same point in both

  found_read : (l : Shown) (k : ℕ) → OfRead s l k ↔ OfRead t l k
  found_read l k = (
    λ f. let x = ((find_refusals s l.name).read k).0 f in ((find_refusals t l.name).read k).1 (ot, omega (arith, x.1, r_same), sym (read_name_bytes k x.1) ∙ x.2),
    λ f.
        let x = ((find_refusals t l.name).read k).0 f in
        let h : k < s.r = omega (arith, x.1, r_same) in
        ((find_refusals s l.name).read k).1 (os, h, read_name_bytes k h ∙ x.2),
  )

  found_output : (l : Shown) (k : ℕ) → OfOutput s l k ↔ OfOutput t l k
  found_output l k = (
    λ f. let x = ((find_refusals s l.name).output k).0 f in ((find_refusals t l.name).output k).1 (ot, omega (arith, x.1, n_same), sym (output_name_bytes k x.1) ∙ x.2),
    λ f.
        let x = ((find_refusals t l.name).output k).0 f in
        let h : k < s.n = omega (arith, x.1, n_same) in
        ((find_refusals s l.name).output k).1 (os, h, output_name_bytes k h ∙ x.2),
  )

  -- two masks with the same bits
  mask_same : (n p q : ℕ) → p < 2 ^ n → q < 2 ^ n → ((k : ℕ) → Bit k p ↔ Bit k q) → p ≡ q
  mask_same n p q hp hq e =
      same_bits n p q hp hq
      (λ k h. same_truth (bit k p) (bit k q) (λ x. set_bit k q ((e k).0 (bit_set k p x))) (λ x. set_bit k p ((e k).1 (bit_set k q x))))

  read_lt : (x : ℕ) → x < 2 ^ t.r → x < 2 ^ s.r
  read_lt x l = subst (λ (k : ℕ). x < 2 ^ k) (sym r_same) l

  out_lt : (x : ℕ) → x < 2 ^ t.n → x < 2 ^ s.n
  out_lt x l = subst (λ (k : ℕ). x < 2 ^ k) (sym n_same) l

  -- ---- the rest word

  -- a line is of the same output in both
  rest_one : (j k l : ℕ) → Bit k s.rest → Bit l t.rest → RestShown s k (words_of text (s.n + s.r + j)) → RestShown t l (words_of text (t.n + t.r + j)) → k ≡ l
  rest_one j k l x y e f =
      let hk = rest_below s os k (set_bit k s.rest x) in
      let hl : l < s.n = omega (arith, n_same, rest_below t ot l (set_bit l t.rest y)) in
      let place : s.n + s.r + j ≡ t.n + t.r + j = omega (arith, n_same, r_same) in
      (names_mean s os).one_output k l hk hl (ap (λ (ws : List (List ℕ)). get_or ws 1 []) (sym e ∙ ap (words_of text) place ∙ f) ∙ sym (output_name_bytes l hl))

  rest_bits : (k : ℕ) → Bit k s.rest ↔ Bit k t.rest
  rest_bits k = (
    λ x.
        let line = a.rests k x in
        let other = b.at_rest line.0 (omega (arith, resting_same, line.1)) in
        subst (λ (l : ℕ). Bit l t.rest) (sym (rest_one line.0 k other.0 x other.1 line.2 other.2)) other.1,
    λ y.
        let line = b.rests k y in
        let other = a.at_rest line.0 (omega (arith, resting_same, line.1)) in
        subst (λ (l : ℕ). Bit l s.rest) (rest_one line.0 other.0 k other.1 y other.2 line.2) other.1,
  )

  rest_same : s.rest ≡ t.rest
  rest_same = mask_same s.n s.rest t.rest (rest_lt s os) (out_lt t.rest (rest_lt t ot)) rest_bits

  -- ---- constraints

  module _ (i : ℕ) (h : i < s.m) where
    abbrev line : List Shown
    line = literals_of text (s.n + s.r + a.resting + i)

    it : i < t.m
    it = omega (arith, m_same)

    own_s : NeverSays s i line
    own_s = a.constraints i h

    own_t : NeverSays t i line
    own_t = subst (λ (k : ℕ). NeverSays t i (literals_of text k)) (omega (arith, n_same, r_same, resting_same)) (b.constraints i it)

    says_read : (k : ℕ) (state : List ℕ) → SaysRead s line k state ↔ SaysRead t line k state
    says_read k state = (λ x. (x.0, x.1, (found_read x.0 k).0 x.2, x.3), λ x. (x.0, x.1, (found_read x.0 k).1 x.2, x.3))

    says_output : (k : ℕ) (state : List ℕ) → SaysOutput s line k state ↔ SaysOutput t line k state
    says_output k state = (λ x. (x.0, x.1, (found_output x.0 k).0 x.2, x.3), λ x. (x.0, x.1, (found_output x.0 k).1 x.2, x.3))

    chain : {A B C D : Type 0} → A ↔ B → B ↔ C → D ↔ C → A ↔ D
    chain f g e = (λ x. e.1 (g.0 (f.0 x)), λ x. f.1 (g.1 (e.0 x)))

    out_plain : (constraint s i).out_plain ≡ (constraint t i).out_plain
    out_plain =
        mask_same s.n (constraint s i).out_plain (constraint t i).out_plain (masks s os i h).out_plain (out_lt (constraint t i).out_plain (masks t ot i it).out_plain)
        (λ k. chain (own_s.out_plain k) (says_output k on_word) (own_t.out_plain k))

    out_negated : (constraint s i).out_negated ≡ (constraint t i).out_negated
    out_negated =
        mask_same s.n (constraint s i).out_negated (constraint t i).out_negated (masks s os i h).out_negated (out_lt (constraint t i).out_negated (masks t ot i it).out_negated)
        (λ k. chain (own_s.out_negated k) (says_output k off_word) (own_t.out_negated k))

    read_plain : (constraint s i).read_plain ≡ (constraint t i).read_plain
    read_plain =
        mask_same s.r (constraint s i).read_plain (constraint t i).read_plain (masks s os i h).read_plain (read_lt (constraint t i).read_plain (masks t ot i it).read_plain)
        (λ k. chain (own_s.read_plain k) (says_read k on_word) (own_t.read_plain k))

    read_negated : (constraint s i).read_negated ≡ (constraint t i).read_negated
    read_negated =
        mask_same s.r (constraint s i).read_negated (constraint t i).read_negated (masks s os i h).read_negated (read_lt (constraint t i).read_negated (masks t ot i it).read_negated)
        (λ k. chain (own_s.read_negated k) (says_read k off_word) (own_t.read_negated k))

    -- ranks: of an output that is named what its digits say, and else 0
    rank_said : (k : ℕ) (state : List ℕ) → SaysOutput s line k state → rank (constraint s i) k ≡ rank (constraint t i) k
    rank_said k state x = (own_s.each x.0 x.1).ranks k x.2 ∙ sym ((own_t.each x.0 x.1).ranks k ((found_output x.0 k).0 x.2))

    rank_same : (k : ℕ) → rank (constraint s i) k ≡ rank (constraint t i) k
    rank_same k =
        by_test (bit k (constraint s i).out_plain) (λ e. rank_said k on_word ((own_s.out_plain k).0 (bit_set k (constraint s i).out_plain e)))
        (λ e. by_test (bit k (constraint s i).out_negated) (λ f. rank_said k off_word ((own_s.out_negated k).0 (bit_set k (constraint s i).out_negated f)))
        (λ f.
        places_s.rank_unnamed i h k (⊎_elim (bit_clear k (constraint s i).out_plain e) (bit_clear k (constraint s i).out_negated f))
        ∙ sym (places_t.rank_unnamed i it k
        (⊎_elim (λ x. bit_clear k (constraint s i).out_plain e (subst (λ (w : ℕ). Bit k w) (sym out_plain) x))
        (λ x. bit_clear k (constraint s i).out_negated f (subst (λ (w : ℕ). Bit k w) (sym out_negated) x))))))

    ranks_same : (constraint s i).ranks ≡ (constraint t i).ranks
    ranks_same =
        ext_get_or 0 (constraint s i).ranks (constraint t i).ranks (places_s.rank_places i h ∙ sym (places_t.rank_places i it)) (λ k l. rank_same k)

    constraint_same : constraint s i ≡ constraint t i
    constraint_same = λ j. record { read_plain = read_plain j; read_negated = read_negated j; out_plain = out_plain j; out_negated = out_negated j; ranks = ranks_same j }

  constraint_each : (i : ℕ) → i < 64 → constraint s i ≡ constraint t i
  constraint_each i h = go (dec_lt i s.m)
    where
      go : Dec (i < s.m) → constraint s i ≡ constraint t i
      go (yes l) = constraint_same i l
      go (no l) = places_s.constraint_beyond i (omega arith) h ∙ sym (places_t.constraint_beyond i (omega (arith, m_same)) h)

  constraints_same : s.constraints ≡ t.constraints
  unfolding constraint
  constraints_same =
      let ls = places_s.places in
      let lt = places_t.places in
      ext_get_or no_constraint s.constraints t.constraints (ls.2 ∙ sym lt.2) (λ i h. constraint_each i (omega (arith, ls.2)))

  -- What a text says is one set.
  pub one_set : s ≡ t
  one_set = λ j. record { r = r_same j; n = n_same j; m = m_same j; rest = rest_same j; reads = reads_same j; outputs = outputs_same j; constraints = constraints_same j }

-- Two well-formed sets with the same text are the same set.
pub one_text : (s t : Set) → well_formed s ≡ true → well_formed t ≡ true → text_of s ≡ text_of t → s ≡ t
one_text s t os ot e = one_set s t os ot (text_of s) (text_says s os) (subst (λ (text : List ℕ). TextSays t text) (sym e) (text_says t ot))
