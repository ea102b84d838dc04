-- The literals of a constraint's body: those of the points in its masks, and no others.
-- Assumes nothing.
use mathlib.Core.Path.{◌≡◌, refl, sym, ap, subst, ◌∙◌}
use mathlib.Core.Bool.{Bool, true, false, cond, not}
use mathlib.Core.List.{List, [], ◌∷◌, ◌++◌}
use mathlib.Core.Logic.{◌↔◌, ◌⊎◌, inl, inr, ⊎_elim}
use Prim.Native.Nat.{ℕ, zero, suc, ◌+◌, ◌*◌, ◌/◌, ◌%◌, ◌<◌}
use native.Mathlib.Omega.{arith}
use lib.ListN.{get_or}
use Rattle.words.specs.Word.{bit}
use Rattle.words.proofs.BoolLaws.{clash}
use Rattle.words.proofs.BitLaws.{bit_below}
use Rattle.words.proofs.LoopLaws.{below_suc}
use Rattle.scan.specs.declared.set.Constraint.{Constraint}
use Rattle.scan.specs.Set.{most_reads, most_outputs}
use Rattle.header.specs.Tag.{tag_by, names_high}
use Rattle.literal.specs.declared.literal.Said.{Said}
use Rattle.literal.proofs.LiteralLaws.{room}
use Rattle.writer.specs.Write.{constraint_tag, literal_body}
use Rattle.setfile.proofs.LiteralPlaces.{said, mask}
use Rattle.setfile.proofs.BodyPlaces.{up_to, worth, said_if, said_of, by_kind}
use Rattle.setfile.proofs.LiteralBytes.{low_masks, flags, bytes_of, body_said}
use Rattle.promise.specs.Fields.{TagBody}
use Rattle.promise.specs.FileSays.{HasLiteral, first_byte, point_number, rank_byte, Says}
use Rattle.promise.proofs.FirstBytes.{code, narrow_code, narrow_number, wide_code}

-- ---- what stands in a list

-- it is one of the list
abbrev In : {A : Type 0} → A → List A → Type 0
In x [] = ⊥
In x (y ∷ l) = (y ≡ x) ⊎ In x l

-- of two lists one after the other
in_left : {A : Type 0} (x : A) (a b : List A) → In x a → In x (a ++ b)
in_left x [] b h = elim h [ ]
in_left x (y ∷ a) b (inl e) = inl e
in_left x (y ∷ a) b (inr h) = inr (in_left x a b h)

in_right : {A : Type 0} (x : A) (a b : List A) → In x b → In x (a ++ b)
in_right x [] b h = h
in_right x (y ∷ a) b h = inr (in_right x a b h)

in_either : {A : Type 0} (x : A) (a b : List A) → In x (a ++ b) → In x a ⊎ In x b
in_either x [] b h = inr h
in_either x (y ∷ a) b (inl e) = inl (inl e)
in_either x (y ∷ a) b (inr h) = ⊎_elim (λ l. inl (inr l)) (λ r. inr r) (in_either x a b h)

-- it is one of those that f gives for a number below n
in_upto : {A : Type 0} (x : A) (f : ℕ → List A) (n k : ℕ) → k < n → In x (f k) → In x (up_to n f)
unfolding up_to
in_upto x f zero k h i = absurd (omega arith)
in_upto x f (suc n) k h i =
    below_suc (λ (j : ℕ). In x (f j) → In x (up_to n f ++ f n)) {n = n} (λ j l q. in_left x (up_to n f) (f n) (in_upto x f n j l q)) (λ q. in_right x (up_to n f) (f n) q) k h i

upto_in : {A : Type 0} (x : A) (f : ℕ → List A) (n : ℕ) → In x (up_to n f) → (k : ℕ) × (k < n) × In x (f k)
unfolding up_to
upto_in x f zero h = absurd h
upto_in x f (suc n) h = ⊎_elim (λ l. let r = upto_in x f n l in (r.0, omega arith, r.2)) (λ r. (n, omega arith, r)) (in_either x (up_to n f) (f n) h)

-- ---- literals and their bytes

-- the field of literals, wide or not
abbrev field_by : Bool → List Said → TagBody
field_by wide ls = record { tag = tag_by wide; body = bytes_of wide ls }

-- the first byte of a literal
abbrev first_of : Bool → Said → ℕ
first_of wide l = cond wide (flags l.out l.negated) (flags l.out l.negated + l.number)

-- what a field says of its literal j is what l says
abbrev SaysLiteral : Bool → TagBody → ℕ → Said → Type 0
SaysLiteral wide f j l = (first_byte f j ≡ first_of wide l) × (point_number f j ≡ cond wide l.number (first_of wide l % 16)) × (rank_byte f j ≡ l.rank)

-- the bytes of the second literal and those after it
skip_two : (x y : ℕ) (l : List ℕ) (j i : ℕ) → get_or (x ∷ y ∷ l) (2 * suc j + i) 0 ≡ get_or l (2 * j + i) 0
skip_two x y l j i = let e : 2 * suc j + i ≡ suc (suc (2 * j + i)) = omega arith in ap (λ (k : ℕ). get_or (x ∷ y ∷ l) k 0) e

skip_three : (x y z : ℕ) (l : List ℕ) (j i : ℕ) → get_or (x ∷ y ∷ z ∷ l) (3 * suc j + i) 0 ≡ get_or l (3 * j + i) 0
skip_three x y z l j i = let e : 3 * suc j + i ≡ suc (suc (suc (3 * j + i))) = omega arith in ap (λ (k : ℕ). get_or (x ∷ y ∷ z ∷ l) k 0) e

-- The first literal of a field, and the others.
first_says : (wide : Bool) (m : Said) (ls : List Said) → HasLiteral (field_by wide (m ∷ ls)) 0 × SaysLiteral wide (field_by wide (m ∷ ls)) 0 m
unfolding bytes_of
first_says true m ls = (omega arith, (refl, refl, refl))
first_says false m ls = (omega arith, (refl, refl, refl))

later_says : (wide : Bool) (m : Said) (ls : List Said) (j : ℕ) (l : Said) → SaysLiteral wide (field_by wide ls) j l → SaysLiteral wide (field_by wide (m ∷ ls)) (suc j) l
unfolding bytes_of
later_says true m ls j l s =
    let skip = skip_three (flags m.out m.negated) m.number m.rank (bytes_of true ls) j in
    (skip 0 ∙ s.0, skip 1 ∙ s.1, skip 2 ∙ s.2)
later_says false m ls j l s =
    let skip = skip_two (flags m.out m.negated + m.number) m.rank (bytes_of false ls) j in
    (skip 0 ∙ s.0, ap (λ (b : ℕ). b % 16) (skip 0) ∙ s.1, skip 1 ∙ s.2)

later_has : (wide : Bool) (m : Said) (ls : List Said) (j : ℕ) → HasLiteral (field_by wide ls) j ↔ HasLiteral (field_by wide (m ∷ ls)) (suc j)
unfolding bytes_of
later_has true m ls j = (λ h. omega arith, λ h. omega arith)
later_has false m ls j = (λ h. omega arith, λ h. omega arith)

none_has : (wide : Bool) (j : ℕ) → HasLiteral (field_by wide []) j → ⊥
unfolding bytes_of
none_has true j h = omega arith
none_has false j h = omega arith

-- A literal of a list has its bytes among the list's.
in_bytes : (wide : Bool) (l : Said) (ls : List Said) → In l ls → (j : ℕ) × HasLiteral (field_by wide ls) j × SaysLiteral wide (field_by wide ls) j l
in_bytes wide l [] h = elim h [ ]
in_bytes wide l (m ∷ ls) (inl e) = let f = first_says wide m ls in (0, f.0, subst (SaysLiteral wide (field_by wide (m ∷ ls)) 0) e f.1)
in_bytes wide l (m ∷ ls) (inr h) =
    let s = in_bytes wide l ls h in
    (suc s.0, (later_has wide m ls s.0).0 s.1, later_says wide m ls s.0 l s.2)

-- Bytes of the list are those of a literal of it.
bytes_in : (wide : Bool) (ls : List Said) (j : ℕ) → HasLiteral (field_by wide ls) j → (l : Said) × In l ls × SaysLiteral wide (field_by wide ls) j l
bytes_in wide [] j h = absurd (none_has wide j h)
bytes_in wide (m ∷ ls) zero h = (m, inl refl, (first_says wide m ls).1)
bytes_in wide (m ∷ ls) (suc j) h = let s = bytes_in wide ls j ((later_has wide m ls j).1 h) in (s.0, inr s.1, later_says wide m ls j s.0 s.2)

-- Where numbers have room, bits 7 and 6 and the number are those of the literal.
bits_say : (wide : Bool) (f : TagBody) (j : ℕ) (l : Said) → (wide ≡ false → l.number < 16) → SaysLiteral wide f j l
    → (first_byte f j / 64 ≡ code l.out l.negated) × (point_number f j ≡ l.number)
bits_say true f j l h s = (ap (λ (b : ℕ). b / 64) s.0 ∙ wide_code l.out l.negated, s.1)
bits_say false f j l h s = (ap (λ (b : ℕ). b / 64) s.0 ∙ narrow_code l.out l.negated l.number (h refl), s.1 ∙ narrow_number l.out l.negated l.number (h refl))

-- ---- the literals of a constraint

-- the field of a constraint
abbrev pub field_for : Constraint → TagBody
field_for c = record { tag = constraint_tag c; body = literal_body c }

-- literal j of a field is one of the constraint: of an output or a read point, negated or plain, whose bit is set in that mask
pub record Literal (c : Constraint) (f : TagBody) (j : ℕ) : Type 0 where
  pub out : Bool
  pub negated : Bool
  pub number : ℕ
  pub within : number < room out
  pub has : bit number (mask out negated c) ≡ true
  pub flags_are : first_byte f j / 64 ≡ code out negated
  pub number_is : point_number f j ≡ number
  pub rank_is : rank_byte f j ≡ worth out c number

module _ (c : Constraint) where
  abbrev reads : List Said
  reads = up_to most_reads (said_of c false)

  abbrev outputs : List Said
  outputs = up_to most_outputs (said_of c true)

  -- the field has the bytes of its literals
  field_said : field_for c ≡ field_by (names_high c) (reads ++ outputs)
  field_said = ap (λ (body : List ℕ). record { tag = constraint_tag c; body = body }) (body_said (names_high c) c ∙ ap (bytes_of (names_high c)) (by_kind c))

  -- a point that is named has a number of four bits where the constraint is not wide
  four_bits : (o g : Bool) (k : ℕ) → k < room o → bit k (mask o g c) ≡ true → names_high c ≡ false → k < 16
  four_bits true g k h e low = omega arith
  four_bits false g k h e low = bit_below 16 k (mask false g c) (low_masks c low g) e

  -- a literal of point k
  said_in : (o p q : Bool) (k x : ℕ) (l : Said) → In l (said_if o p q k x) → (g : Bool) × (l ≡ said o g k x) × (cond g q p ≡ true)
  said_in o true q k x l (inr h) = elim h [ ]
  said_in o false true k x l (inr h) = elim h [ ]
  said_in o false false k x l h = elim h [ ]
  said_in o true q k x l (inl e) = (false, sym e, refl)
  said_in o false true k x l (inl e) = (true, sym e, refl)

  -- a literal of the outputs or of the read points
  said_of_law : (f : TagBody) (j : ℕ) (o : Bool) (l : Said) → In l (up_to (room o) (said_of c o)) → SaysLiteral (names_high c) f j l → Literal c f j
  said_of_law f j o l h y =
      let u = upto_in l (said_of c o) (room o) h in
      let k = u.0 in
      let s = said_in o (bit k (mask o false c)) (bit k (mask o true c)) k (worth o c k) l u.2 in
      let g = s.0 in
      let set = sym (side g k) ∙ s.2 in
      let b = bits_say (names_high c) f j (said o g k (worth o c k)) (four_bits o g k u.1 set) (subst (SaysLiteral (names_high c) f j) s.1 y) in
      record {
        out = o;
        negated = g;
        number = k;
        within = u.1;
        has = set;
        flags_are = b.0;
        number_is = b.1;
        rank_is = y.2 ∙ ap (λ (m : Said). m.rank) s.1;
      }
    where
      side : (g : Bool) (k : ℕ) → cond g (bit k (mask o true c)) (bit k (mask o false c)) ≡ bit k (mask o g c)
      side true k = refl
      side false k = refl

  -- Each literal of the field is one of the constraint.
  pub body_literal : (j : ℕ) → HasLiteral (field_for c) j → Literal c (field_for c) j
  body_literal =
      subst (λ (f : TagBody). (j : ℕ) → HasLiteral f j → Literal c f j) (sym field_said)
      (λ j h.
      let f = field_by (names_high c) (reads ++ outputs) in
      let s = bytes_in (names_high c) (reads ++ outputs) j h in
      ⊎_elim (λ i. said_of_law f j false s.0 i s.2) (λ i. said_of_law f j true s.0 i s.2) (in_either s.0 reads outputs s.1))

  -- point k has its literal
  in_said : (o g p q : Bool) (k x : ℕ) → cond g q p ≡ true → cond g p q ≡ false → In (said o g k x) (said_if o p q k x)
  in_said o true true q k x e f = clash refl f
  in_said o true false true k x e f = inl refl
  in_said o true false false k x e f = clash e refl
  in_said o false true q k x e f = inl refl
  in_said o false false q k x e f = clash e refl

  -- Each literal of the constraint is in the field.
  pub literal_body_law : (o g : Bool) (k : ℕ) → k < room o → bit k (mask o g c) ≡ true → bit k (mask o (not g) c) ≡ false → Says (field_for c) (code o g) k
  literal_body_law o g k h e f =
      subst (λ (x : TagBody). Says x (code o g) k) (sym field_said)
      (let l = said o g k (worth o c k) in
      let s = in_bytes (names_high c) l (reads ++ outputs) (place o
      (in_upto l (said_of c o) (room o) k h (in_said o g (bit k (mask o false c)) (bit k (mask o true c)) k (worth o c k) (here g e) (there g f)))) in
      let b = bits_say (names_high c) (field_by (names_high c) (reads ++ outputs)) s.0 l (four_bits o g k h e) s.2 in
      (s.0, s.1, b.0, b.1))
    where
      here : (g : Bool) → bit k (mask o g c) ≡ true → cond g (bit k (mask o true c)) (bit k (mask o false c)) ≡ true
      here true e = e
      here false e = e

      there : (g : Bool) → bit k (mask o (not g) c) ≡ false → cond g (bit k (mask o false c)) (bit k (mask o true c)) ≡ false
      there true e = e
      there false e = e

      place : (o : Bool) → In (said o g k (worth o c k)) (up_to (room o) (said_of c o)) → In (said o g k (worth o c k)) (reads ++ outputs)
      place true i = in_right _ reads outputs i
      place false i = in_left _ reads outputs i
