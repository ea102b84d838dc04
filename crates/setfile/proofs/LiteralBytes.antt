-- Literals and their bytes, two or, in a wide body, three: what bytes say, and the bytes of what is said. The laws of literals in the other files are
-- over what is said.
-- Assumes nothing.
use mathlib.Core.Path.{◌≡◌, refl, sym, ◌∙◌, ap, ap₂, subst}
use mathlib.Core.Bool.{Bool, true, false, cond}
use mathlib.Core.List.{List, [], ◌∷◌, ◌++◌, append_assoc, append-nil}
use Prim.Native.Nat.{ℕ, zero, suc, ◌+◌, ◌*◌, ◌/◌, ◌%◌, ◌^◌, ◌≤◌, ◌<◌}
use native.Mathlib.Nat.{lt_of_le_of_lt}
use native.Mathlib.Decide.{dec_lt}
use native.Mathlib.Omega.{arith}
use lib.Bits.{bit_or, and_le_l, and_le_r, or_add_and, or_lt}
use lib.ListN.{length}
use lib.Pow.{shr-shr}
use borrow.Author.Tests.{eqb-true, eqb-false, eq-eqb, ne_eqb, leb-false, lt-leb}
use Rattle.words.specs.Loop.{joined}
use Rattle.words.specs.Word.{bit}
use Rattle.words.proofs.BitLaws.{bit_above}
use Rattle.scan.specs.declared.set.Constraint.{Constraint}
use Rattle.scan.specs.Set.{most_reads, most_outputs, rank_end}
use Rattle.header.specs.Bytes.{Bytes}
use Rattle.header.specs.Tag.{literal_size, names_high}
use Rattle.literal.specs.declared.literal.Said.{Said}
use Rattle.literal.specs.Literal.{is_output, is_negated, spare, four_bits, six_bits, narrow, wide, narrows, wides, said_by}
use Rattle.writer.specs.Write.{literal_bytes, read_literal, output_literal, literals_by}
use Rattle.literal.proofs.LiteralLaws.{room}
use Rattle.setfile.proofs.LiteralPlaces.{by_four, said, mask}
use Rattle.setfile.proofs.BodyPlaces.{up_to, worth, said_if, said_of, all_said, by_kind}

-- ---- which constraints are wide

-- Where no read point above 15 is named, the masks of read points are below 2 ^ 16.
pub low_masks : (c : Constraint) → names_high c ≡ false → (g : Bool) → mask false g c < 2 ^ 16
unfolding names_high
low_masks c e g = lt_of_le_of_lt (part g) (leb-false (2 ^ 16) (bit_or c.read_plain c.read_negated) e)
  where
    part : (g : Bool) → mask false g c ≤ bit_or c.read_plain c.read_negated
    part true = omega (arith, or_add_and c.read_plain c.read_negated, and_le_l c.read_plain c.read_negated)
    part false = omega (arith, or_add_and c.read_plain c.read_negated, and_le_r c.read_plain c.read_negated)

-- And the other way round.
pub masks_low : (c : Constraint) → ((g : Bool) → mask false g c < 2 ^ 16) → names_high c ≡ false
unfolding names_high
masks_low c h = lt-leb (2 ^ 16) (bit_or c.read_plain c.read_negated) (or_lt 16 c.read_plain c.read_negated (h false) (h true))

-- ---- one literal

-- bits 7 and 6 of a literal's first byte
abbrev pub flags : Bool → Bool → ℕ
flags true true = 0xC0
flags true false = 0x40
flags false true = 0x80
flags false false = 0

-- the bytes of a literal
abbrev bytes_one : Bool → Said → List ℕ
bytes_one is_wide l = literal_bytes is_wide (flags l.out l.negated) l.number l.rank

-- A literal's two bytes say what they were made of, where its number has four bits.
narrow_bytes : (k x : ℕ) → k < 16 → (o g : Bool) → narrow (flags o g + k) x ≡ said o g k x
narrow_bytes k x h =
    by_four (λ (o g : Bool). narrow (flags o g + k) x ≡ said o g k x)
    (says (0xC0 + k) true true (omega arith) (eq-eqb ((0xC0 + k) / 2 ^ 6 % 2) 1 (omega arith)) (eq-eqb ((0xC0 + k) / 2 ^ 7) 1 (omega arith)) (omega arith))
    (says (0x40 + k) true false (omega arith) (eq-eqb ((0x40 + k) / 2 ^ 6 % 2) 1 (omega arith)) (ne_eqb ((0x40 + k) / 2 ^ 7) 1 (omega arith)) (omega arith))
    (says (0x80 + k) false true (omega arith) (ne_eqb ((0x80 + k) / 2 ^ 6 % 2) 1 (omega arith)) (eq-eqb ((0x80 + k) / 2 ^ 7) 1 (omega arith)) (omega arith))
    (says (0 + k) false false (omega arith) (ne_eqb ((0 + k) / 2 ^ 6 % 2) 1 (omega arith)) (ne_eqb ((0 + k) / 2 ^ 7) 1 (omega arith)) (omega arith))
  where
    says : (first : ℕ) (o g : Bool) → spare first ≡ 0 → is_output first ≡ o → is_negated first ≡ g → four_bits first ≡ k → narrow first x ≡ said o g k x
    says first o g z a b e = λ i. record { clear = eq-eqb (spare first) 0 z i; out = a i; negated = b i; number = e i; rank = x }

-- So do its three, whatever its number.
wide_bytes : (k x : ℕ) (o g : Bool) → wide (flags o g) k x ≡ said o g k x
wide_bytes k x = by_four (λ (o g : Bool). wide (flags o g) k x ≡ said o g k x) refl refl refl refl

-- bits 7 and 6 of a byte
module _ (first : ℕ) (h : first < 256) where
  six : first / 16 / 4 ≡ first / 64
  six = shr-shr first 4 2

  seven : first / 64 / 2 ≡ first / 128
  seven = shr-shr first 6 1

  -- A byte with bits 5 and 4 zero is made of what it says.
  narrow_is : spare first ≡ 0 → flags (is_output first) (is_negated first) + four_bits first ≡ first
  narrow_is z = go (is_output first) (is_negated first) refl refl
    where
      go : (o g : Bool) → is_output first ≡ o → is_negated first ≡ g → flags o g + four_bits first ≡ first
      go true true a b = let x = eqb-true (first / 2 ^ 6 % 2) 1 a in let y = eqb-true (first / 2 ^ 7) 1 b in omega (arith, six, seven)
      go true false a b = let x = eqb-true (first / 2 ^ 6 % 2) 1 a in let y = eqb-false (first / 2 ^ 7) 1 b in omega (arith, six, seven)
      go false true a b = let x = eqb-false (first / 2 ^ 6 % 2) 1 a in let y = eqb-true (first / 2 ^ 7) 1 b in omega (arith, six, seven)
      go false false a b = let x = eqb-false (first / 2 ^ 6 % 2) 1 a in let y = eqb-false (first / 2 ^ 7) 1 b in omega (arith, six, seven)

  -- So is one with all bits but 7 and 6 zero.
  wide_is : six_bits first ≡ 0 → flags (is_output first) (is_negated first) ≡ first
  wide_is z = go (is_output first) (is_negated first) refl refl
    where
      go : (o g : Bool) → is_output first ≡ o → is_negated first ≡ g → flags o g ≡ first
      go true true a b = let x = eqb-true (first / 2 ^ 6 % 2) 1 a in let y = eqb-true (first / 2 ^ 7) 1 b in omega (arith, seven)
      go true false a b = let x = eqb-true (first / 2 ^ 6 % 2) 1 a in let y = eqb-false (first / 2 ^ 7) 1 b in omega (arith, seven)
      go false true a b = let x = eqb-false (first / 2 ^ 6 % 2) 1 a in let y = eqb-true (first / 2 ^ 7) 1 b in omega (arith, seven)
      go false false a b = let x = eqb-false (first / 2 ^ 6 % 2) 1 a in let y = eqb-false (first / 2 ^ 7) 1 b in omega (arith, seven)

-- ---- literals

-- the bytes of literals
unfoldable pub bytes_of : Bool → List Said → List ℕ
bytes_of is_wide [] = []
bytes_of is_wide (l ∷ rest) = bytes_one is_wide l ++ bytes_of is_wide rest

pub bytes_long : (is_wide : Bool) (ls : List Said) → length (bytes_of is_wide ls) ≡ literal_size is_wide * length ls
unfolding bytes_of
bytes_long true [] = refl
bytes_long true (l ∷ rest) = let h : length (bytes_of true rest) ≡ 3 * length rest = bytes_long true rest in omega arith
bytes_long false [] = refl
bytes_long false (l ∷ rest) = let h : length (bytes_of false rest) ≡ 2 * length rest = bytes_long false rest in omega arith

bytes_append : (is_wide : Bool) (a b : List Said) → bytes_of is_wide (a ++ b) ≡ bytes_of is_wide a ++ bytes_of is_wide b
unfolding bytes_of
bytes_append is_wide [] b = refl
bytes_append is_wide (l ∷ a) b =
    ap (λ (t : List ℕ). bytes_one is_wide l ++ t) (bytes_append is_wide a b) ∙ sym (append_assoc (bytes_one is_wide l) (bytes_of is_wide a) (bytes_of is_wide b))

-- ---- written literals are read back

-- the literals' bytes say them, whatever follows
abbrev Back : Bool → List Said → Type 0
Back is_wide ls = (t : List ℕ) → said_by is_wide (bytes_of is_wide ls ++ t) ≡ ls ++ said_by is_wide t

back_none : (is_wide : Bool) → Back is_wide []
unfolding bytes_of
back_none is_wide t = refl

back_one : (is_wide o g : Bool) (k x : ℕ) → (is_wide ≡ false → k < 16) → Back is_wide (said o g k x ∷ [])
unfolding bytes_of narrows wides
back_one true o g k x h t = ap (λ (l : Said). l ∷ wides t) (wide_bytes k x o g)
back_one false o g k x h t = ap (λ (l : Said). l ∷ narrows t) (narrow_bytes k x (h refl) o g)

back_append : (is_wide : Bool) (a b : List Said) → Back is_wide a → Back is_wide b → Back is_wide (a ++ b)
back_append is_wide a b f g t =
    ap (λ (x : List ℕ). said_by is_wide (x ++ t)) (bytes_append is_wide a b)
    ∙ ap (said_by is_wide) (append_assoc (bytes_of is_wide a) (bytes_of is_wide b) t)
    ∙ f (bytes_of is_wide b ++ t) ∙ ap (λ (x : List Said). a ++ x) (g t) ∙ sym (append_assoc a b (said_by is_wide t))

back_if : (is_wide o p q : Bool) (k x : ℕ) → (is_wide ≡ false → k < 16) → Back is_wide (said_if o p q k x)
back_if is_wide o true q k x h = back_one is_wide o false k x h
back_if is_wide o false true k x h = back_one is_wide o true k x h
back_if is_wide o false false k x h = back_none is_wide

back_upto : (is_wide : Bool) (N : ℕ) (f : ℕ → List Said) → ((k : ℕ) → k < N → Back is_wide (f k)) → Back is_wide (up_to N f)
unfolding up_to
back_upto is_wide zero f h = back_none is_wide
back_upto is_wide (suc N) f h = back_append is_wide (up_to N f) (f N) (back_upto is_wide N f (λ k l. h k (omega arith))) (h N (omega arith))

-- The bytes of a constraint's literals say them, in wide form or, where no read point above 15 is named, in the other.
pub said_back : (is_wide : Bool) (c : Constraint) → (is_wide ≡ false → names_high c ≡ false) → said_by is_wide (bytes_of is_wide (all_said c)) ≡ all_said c
unfolding narrows wides
said_back is_wide c low =
    ap (said_by is_wide) (sym (append-nil (bytes_of is_wide (all_said c)))) ∙ ap (λ (ls : List Said). said_by is_wide (bytes_of is_wide ls ++ [])) (by_kind c)
    ∙ back_append is_wide (up_to most_reads (said_of c false)) (up_to most_outputs (said_of c true)) (point false) (point true) []
    ∙ ap (λ (ls : List Said). (up_to most_reads (said_of c false) ++ up_to most_outputs (said_of c true)) ++ ls) (nothing is_wide) ∙ append-nil _ ∙ sym (by_kind c)
  where
    nothing : (w : Bool) → said_by w [] ≡ []
    nothing true = refl
    nothing false = refl

    none : (g : Bool) (k : ℕ) → is_wide ≡ false → (k < 16 → ⊥) → bit k (mask false g c) ≡ false
    none g k e h = bit_above 16 k (mask false g c) (low_masks c (low e) g) (omega arith)

    at : (o : Bool) (k : ℕ) → k < room o → Dec (k < 16) → (w : Bool) → is_wide ≡ w → Back is_wide (said_of c o k)
    at o k h (yes l) w e = back_if is_wide o (bit k (mask o false c)) (bit k (mask o true c)) k (worth o c k) (λ z. l)
    at o k h (no l) true e =
        back_if is_wide o (bit k (mask o false c)) (bit k (mask o true c)) k (worth o c k) (λ z. let q : ◌≡◌ {A = Bool} true false = sym e ∙ z in let y : ◌≡◌ {A = ℕ} 0 1 = cc in absurd (omega arith))
    at true k h (no l) false e = absurd (omega arith)
    at false k h (no l) false e =
        subst (Back is_wide) (sym (ap₂ (λ (p q : Bool). said_if false p q k (worth false c k)) (none false k e l) (none true k e l))) (back_none is_wide)

    point : (o : Bool) → Back is_wide (up_to (room o) (said_of c o))
    point o = back_upto is_wide (room o) (said_of c o) (λ k h. at o k h (dec_lt k 16) is_wide refl)

-- ---- read literals are written as they were

-- the bits are zero that have to be
abbrev pub AllClear : List Said → Type 0
AllClear [] = Unit {0}
AllClear (l ∷ rest) = (l.clear ≡ true) × AllClear rest

-- ranks are bytes, and numbers have four bits where the body is not wide
abbrev pub AllSized : Bool → List Said → Type 0
AllSized is_wide [] = Unit {0}
AllSized is_wide (l ∷ rest) = ((l.rank < rank_end) × (is_wide ≡ false → l.number < 16)) × AllSized is_wide rest

-- The bytes of what bytes say are those bytes.
pub bytes_back : (is_wide : Bool) (body : List ℕ) → Bytes body → AllClear (said_by is_wide body) → bytes_of is_wide (said_by is_wide body) ≡ body
unfolding bytes_of narrows wides
bytes_back true [] b a = refl
bytes_back true (first ∷ []) b a = let z : ◌≡◌ {A = ℕ} 0 1 = cc in absurd (omega arith)
bytes_back true (first ∷ number ∷ []) b a = let z : ◌≡◌ {A = ℕ} 0 1 = cc in absurd (omega arith)
bytes_back true (first ∷ number ∷ rank ∷ rest) b a =
    ap₂ (λ (x : ℕ) (t : List ℕ). x ∷ number ∷ rank ∷ t) (wide_is first (b 0 (omega arith)) (eqb-true (six_bits first) 0 a.0))
    (bytes_back true rest (λ k h. b (suc (suc (suc k))) (omega arith)) a.1)
bytes_back false [] b a = refl
bytes_back false (first ∷ []) b a = let z : ◌≡◌ {A = ℕ} 0 1 = cc in absurd (omega arith)
bytes_back false (first ∷ rank ∷ rest) b a =
    ap₂ (λ (x : ℕ) (t : List ℕ). x ∷ rank ∷ t) (narrow_is first (b 0 (omega arith)) (eqb-true (spare first) 0 a.0))
    (bytes_back false rest (λ k h. b (suc (suc k)) (omega arith)) a.1)

pub said_sized : (is_wide : Bool) (body : List ℕ) → Bytes body → AllSized is_wide (said_by is_wide body)
unfolding narrows wides
said_sized true [] b = tt
said_sized true (first ∷ []) b = ((omega arith, λ e. omega arith), tt)
said_sized true (first ∷ number ∷ []) b = ((omega arith, λ e. omega arith), tt)
said_sized true (first ∷ number ∷ rank ∷ rest) b =
    ((b 2 (omega arith), λ e. let z : ◌≡◌ {A = ℕ} 0 1 = cc in absurd (omega arith)), said_sized true rest (λ k h. b (suc (suc (suc k))) (omega arith)))
said_sized false [] b = tt
said_sized false (first ∷ []) b = ((omega arith, λ e. omega arith), tt)
said_sized false (first ∷ rank ∷ rest) b = ((b 1 (omega arith), λ e. omega arith), said_sized false rest (λ k h. b (suc (suc k)) (omega arith)))

-- ---- the body that is written

-- the bytes of point k's literal, if it is there
abbrev pub told : Bool → Bool → Bool → Bool → ℕ → ℕ → List ℕ
told is_wide o plain negated k x = cond plain (literal_bytes is_wide (flags o false) k x) (cond negated (literal_bytes is_wide (flags o true) k x) [])

-- those of an output's or a read point's
abbrev pub literal : Bool → Constraint → Bool → ℕ → List ℕ
literal is_wide c o k = told is_wide o (bit k (mask o false c)) (bit k (mask o true c)) k (worth o c k)

told_bytes : (is_wide o p q : Bool) (k x : ℕ) → told is_wide o p q k x ≡ bytes_of is_wide (said_if o p q k x)
unfolding bytes_of
told_bytes is_wide o true q k x = sym (append-nil _)
told_bytes is_wide o false true k x = sym (append-nil _)
told_bytes is_wide o false false k x = refl

joined_bytes : (is_wide : Bool) (N : ℕ) (f : ℕ → List ℕ) (g : ℕ → List Said) → ((k : ℕ) → f k ≡ bytes_of is_wide (g k)) → joined N f ≡ bytes_of is_wide (up_to N g)
unfolding joined up_to bytes_of
joined_bytes is_wide zero f g h = refl
joined_bytes is_wide (suc N) f g h = ap₂ ◌++◌ (joined_bytes is_wide N f g h) (h N) ∙ sym (bytes_append is_wide (up_to N g) (g N))

-- The body of a constraint is the bytes of its literals.
pub body_said : (is_wide : Bool) (c : Constraint) → literals_by is_wide c ≡ bytes_of is_wide (all_said c)
unfolding literals_by read_literal output_literal
body_said is_wide c =
    ap₂ ◌++◌ (kind false most_reads) (kind true most_outputs)
    ∙ sym (bytes_append is_wide (up_to most_reads (said_of c false)) (up_to most_outputs (said_of c true))) ∙ ap (bytes_of is_wide) (sym (by_kind c))
  where
    kind : (o : Bool) (N : ℕ) → joined N (literal is_wide c o) ≡ bytes_of is_wide (up_to N (said_of c o))
    kind o N = joined_bytes is_wide N (literal is_wide c o) (said_of c o) (λ k. told_bytes is_wide o (bit k (mask o false c)) (bit k (mask o true c)) k (worth o c k))
