-- Laws of the code's way with literals: what is said at a place of a body is what the body says there, and a literal more in the word is a literal more
-- in its constraint.
-- Assumes nothing.
use mathlib.Core.Path.{◌≡◌, sym, ap, ap₂, ◌∙◌}
use mathlib.Core.Bool.{Bool, true, false, cond}
use mathlib.Core.List.{List, [], ◌∷◌}
use Prim.Native.Nat.{ℕ, suc, ◌+◌, ◌-◌, ◌/◌, ◌%◌, ◌^◌, ◌≤◌, ◌<◌}
use native.Mathlib.Nat.{mod-eq_of_lt, div-eq_of_lt, zero-mod, mul-mod_left}
use native.Mathlib.Numerals.{add-one}
use native.Mathlib.Omega.{arith}
use lib.Dec.{leb}
use lib.ListN.{length, drop, set as store, drop_of_length-le}
use lib.Bits.{bit_or, or_zero_r, or_shr, or_mod}
use lib.Pow.{pow-lt, pow-add, shl-shr}
use lib.Seq.{drop-cons}
use borrow.Author.Tests.{leb-true, leb-false}
use Rattle.words.proofs.BoolLaws.{by_test}
use Rattle.scan.specs.declared.set.Constraint.{Constraint}
use Rattle.scan.specs.Set.{most_reads, most_outputs}
use Rattle.literal.specs.declared.literal.Said.{Said}
use Rattle.literal.specs.Literal.{Literals, narrows, wides, said_by, place, is_literal, with_bit, with_literal, last_literal, literals_from}
use Rattle.header.specs.Tag.{literal_size}
use Rattle.literal.specs.way.Literal.{said_at, sign_bits, in_word, part, of_word}
use Rattle.literal.proofs.LiteralLaws.{room, one_more}

-- ---- what a body says at a place

-- behind the end it says nothing
said_end : (is_wide : Bool) (body : List ℕ) (i : ℕ) → length body ≤ i → said_by is_wide (drop i body) ≡ []
unfolding narrows wides
said_end true body i h = rw (drop_of_length-le body h)
said_end false body i h = rw (drop_of_length-le body h)

-- before the end it says a literal, and then what stands behind that
abbrev Next : Bool → List ℕ → ℕ → Type 0
Next is_wide body i = said_by is_wide (drop i body) ≡ said_at is_wide body i ∷ said_by is_wide (drop (i + literal_size is_wide) body)

narrow_next : (body : List ℕ) (i : ℕ) → i < length body → Next false body i
unfolding narrows
narrow_next body i h = by_test (leb (i + 2) (length body)) more last
  where
    more : leb (i + 2) (length body) ≡ true → Next false body i
    more t =
        let far = leb-true (i + 2) (length body) t in
        let e : suc (i + 1) ≡ i + 2 = omega arith in
        rw (t, drop-cons body i 0 h, ← add-one i, drop-cons body (i + 1) 0 (omega arith), e)

    last : leb (i + 2) (length body) ≡ false → Next false body i
    last t =
        let short = leb-false (i + 2) (length body) t in
        let past : length body ≤ suc i = omega arith in
        let over : length body ≤ i + 2 = omega arith in
        rw (t, drop-cons body i 0 h, drop_of_length-le body past, drop_of_length-le body over)

wide_next : (body : List ℕ) (i : ℕ) → i < length body → Next true body i
unfolding wides
wide_next body i h = by_test (leb (i + 3) (length body)) more (λ t. by_test (leb (i + 2) (length body)) (two t) (one t))
  where
    e1 : suc (i + 1) ≡ i + 2
    e1 = omega arith

    e2 : suc (i + 2) ≡ i + 3
    e2 = omega arith

    more : leb (i + 3) (length body) ≡ true → Next true body i
    more t =
        let far = leb-true (i + 3) (length body) t in
        rw (t, drop-cons body i 0 h, ← add-one i, drop-cons body (i + 1) 0 (omega arith), e1, drop-cons body (i + 2) 0 (omega arith), e2)

    two : leb (i + 3) (length body) ≡ false → leb (i + 2) (length body) ≡ true → Next true body i
    two t u =
        let short = leb-false (i + 3) (length body) t in
        let far = leb-true (i + 2) (length body) u in
        let past : length body ≤ i + 2 = omega arith in
        let over : length body ≤ i + 3 = omega arith in
        rw (t, drop-cons body i 0 h, ← add-one i, drop-cons body (i + 1) 0 (omega arith), e1, drop_of_length-le body past, drop_of_length-le body over)

    one : leb (i + 3) (length body) ≡ false → leb (i + 2) (length body) ≡ false → Next true body i
    one t u =
        let short = leb-false (i + 2) (length body) u in
        let past : length body ≤ suc i = omega arith in
        let over : length body ≤ i + 3 = omega arith in
        rw (t, drop-cons body i 0 h, drop_of_length-le body past, drop_of_length-le body over)

said_next : (is_wide : Bool) (body : List ℕ) (i : ℕ) → i < length body → Next is_wide body i
said_next true = wide_next
said_next false = narrow_next

-- ---- parts of a word

part_or : (from long w v : ℕ) → part from long (bit_or w v) ≡ bit_or (part from long w) (part from long v)
part_or from long w v = ap (λ (x : ℕ). x % 2 ^ long) (or_shr w v from) ∙ or_mod (w / 2 ^ from) (v / 2 ^ from) long

-- a bit more within the part, below it and above it
module _ (from long w k : ℕ) where
  bit_within : k < long → (p : ℕ) → p ≡ k + from → part from long (with_bit w p) ≡ with_bit (part from long w) k
  bit_within h p e =
      part_or from long w (2 ^ p)
      ∙ ap (bit_or (part from long w))
      (ap (λ (x : ℕ). x / 2 ^ from % 2 ^ long) (ap (λ (x : ℕ). 2 ^ x) e ∙ pow-add 2 k from)
      ∙ ap (λ (x : ℕ). x % 2 ^ long) (shl-shr (2 ^ k) from) ∙ mod-eq_of_lt (pow-lt h))

  bit_before : k < from → part from long (with_bit w k) ≡ part from long w
  bit_before h =
      part_or from long w (2 ^ k)
      ∙ ap (bit_or (part from long w)) (ap (λ (x : ℕ). x % 2 ^ long) (div-eq_of_lt (pow-lt h)) ∙ zero-mod (2 ^ long))
      ∙ or_zero_r (part from long w)

  bit_behind : from + long ≤ k → part from long (with_bit w k) ≡ part from long w
  bit_behind h =
      let d = k - (from + long) in
      let e : k ≡ d + long + from = omega arith in
      part_or from long w (2 ^ k)
      ∙ ap (bit_or (part from long w))
      (ap (λ (x : ℕ). x / 2 ^ from % 2 ^ long) (ap (λ (x : ℕ). 2 ^ x) e ∙ pow-add 2 (d + long) from)
      ∙ ap (λ (x : ℕ). x % 2 ^ long) (shl-shr (2 ^ (d + long)) from ∙ pow-add 2 d long) ∙ mul-mod_left (2 ^ d) (2 ^ long))
      ∙ or_zero_r (part from long w)

-- ---- a literal more

-- a literal more in the word, and its rank if it is an output's, is a literal more in their constraint
literal_word : (w : ℕ) (ranks : List ℕ) (l : Said) → l.number < room l.out
    → of_word (in_word w l.negated (place l)) (cond l.out (store ranks l.number l.rank) ranks) ≡ with_literal (of_word w ranks) l
unfolding with_literal
literal_word w ranks l fits = go l.out l.negated fits
  where
    k : ℕ
    k = l.number

    c : Constraint
    c = of_word w ranks

    with_rank : List ℕ
    with_rank = store ranks k l.rank

    go : (out negated : Bool) → k < room out → of_word (in_word w negated (cond out (most_reads + k) k)) (cond out with_rank ranks)
        ≡ cond out
        (cond negated
        (record { read_plain = c.read_plain; read_negated = c.read_negated; out_plain = c.out_plain; out_negated = with_bit c.out_negated k; ranks = with_rank })
        (record { read_plain = c.read_plain; read_negated = c.read_negated; out_plain = with_bit c.out_plain k; out_negated = c.out_negated; ranks = with_rank }))
        (cond negated
        (record { read_plain = c.read_plain; read_negated = with_bit c.read_negated k; out_plain = c.out_plain; out_negated = c.out_negated; ranks = c.ranks })
        (record { read_plain = with_bit c.read_plain k; read_negated = c.read_negated; out_plain = c.out_plain; out_negated = c.out_negated; ranks = c.ranks }))
    go true true h =
        let p = sign_bits + (most_reads + k) in
        let rp = bit_behind 0 most_reads w p (omega arith) in
        let rn = bit_behind sign_bits most_reads w p (omega arith) in
        let op = bit_behind most_reads most_outputs w p (omega arith) in
        let on = bit_within (sign_bits + most_reads) most_outputs w k h p (omega arith) in
        λ i. record { read_plain = rp i; read_negated = rn i; out_plain = op i; out_negated = on i; ranks = with_rank }
    go true false h =
        let p = most_reads + k in
        let rp = bit_behind 0 most_reads w p (omega arith) in
        let rn = bit_before sign_bits most_reads w p (omega arith) in
        let op = bit_within most_reads most_outputs w k h p (omega arith) in
        let on = bit_before (sign_bits + most_reads) most_outputs w p (omega arith) in
        λ i. record { read_plain = rp i; read_negated = rn i; out_plain = op i; out_negated = on i; ranks = with_rank }
    go false true h =
        let p = sign_bits + k in
        let rp = bit_behind 0 most_reads w p (omega arith) in
        let rn = bit_within sign_bits most_reads w k h p (omega arith) in
        let op = bit_behind most_reads most_outputs w p (omega arith) in
        let on = bit_before (sign_bits + most_reads) most_outputs w p (omega arith) in
        λ i. record { read_plain = rp i; read_negated = rn i; out_plain = op i; out_negated = on i; ranks = ranks }
    go false false h =
        let rp = bit_within 0 most_reads w k h k (omega arith) in
        let rn = bit_before sign_bits most_reads w k (omega arith) in
        let op = bit_before most_reads most_outputs w k h in
        let on = bit_before (sign_bits + most_reads) most_outputs w k (omega arith) in
        λ i. record { read_plain = rp i; read_negated = rn i; out_plain = op i; out_negated = on i; ranks = ranks }

-- ---- the loop over a body's literals

-- where the loop has come to the end
pub literals_end : (is_wide : Bool) (r n next : ℕ) (c : Constraint) (body : List ℕ) (i : ℕ) → length body ≤ i
    → literals_from is_wide r n next c (said_by is_wide (drop i body)) ≡ last_literal is_wide next c
unfolding literals_from
literals_end is_wide r n next c body i h = ap (literals_from is_wide r n next c) (said_end is_wide body i h)

-- where the loop stands at place i of the body: what the whole body gives is what its literals from there on give, the next of which is l
module _ (is_wide : Bool) (r n next w : ℕ) (ranks body : List ℕ) (i : ℕ) (h : i < length body) (l : Said) (said : l ≡ said_at is_wide body i)
    (whole : Literals) (inv : whole ≡ literals_from is_wide r n next (of_word w ranks) (said_by is_wide (drop i body))) where
  -- the literals behind it
  abbrev others : List Said
  others = said_by is_wide (drop (i + literal_size is_wide) body)

  pub here : whole ≡ literals_from is_wide r n next (of_word w ranks) (l ∷ others)
  here = inv ∙ ap (literals_from is_wide r n next (of_word w ranks)) (said_next is_wide body i h ∙ ap (λ (x : Said). x ∷ others) (sym said))

  -- its bit in the word, and the ranks with its own if it is an output's
  pub turned : is_literal l r n ≡ true → next ≤ place l → l.number < room l.out
      → (at : ℕ) → at ≡ place l → (after : ℕ) → after ≡ in_word w l.negated at
      → (ranked : List ℕ) → cond l.out (store ranks l.number l.rank) ranks ≡ ranked
      → (size : ℕ) → size ≡ literal_size is_wide → whole ≡ literals_from is_wide r n (at + 1) (of_word after ranked) (said_by is_wide (drop (i + size) body))
  turned ok rises fits at e after word ranked own size z =
      here ∙ one_more is_wide r n next (of_word w ranks) l others ok rises
      ∙ ap₂ (λ (x : ℕ) (c : Constraint). literals_from is_wide r n (x + 1) c others) (sym e)
      (sym (literal_word w ranks l fits) ∙ ap₂ of_word (ap (in_word w l.negated) (sym e) ∙ sym word) own)
      ∙ ap (λ (x : ℕ). literals_from is_wide r n (at + 1) (of_word after ranked) (said_by is_wide (drop (i + x) body))) (sym z)
