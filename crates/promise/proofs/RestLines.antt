-- The lines of the outputs at rest: of the outputs whose bits are set in the rest word, and of no others, by number.
-- Assumes nothing.
use mathlib.Core.Path.{◌≡◌, refl, sym, ap, ap₂, subst, ◌∙◌}
use mathlib.Core.Bool.{Bool, true, false, cond}
use mathlib.Core.List.{List, [], ◌∷◌, ◌++◌, map, map-append, append-nil}
use mathlib.Core.Logic.{◌⊎◌, inl, inr, ⊎_elim}
use Prim.Native.Nat.{ℕ, zero, suc, ◌+◌, ◌<◌}
use native.Mathlib.Omega.{arith}
use lib.ListN.{length, get_or, length-append, length-map, get_or-append}
use Rattle.words.specs.Word.{bit}
use Rattle.words.specs.Loop.{joined}
use Rattle.words.proofs.BoolLaws.{clash}
use Rattle.words.proofs.BitLaws.{bit_below}
use Rattle.words.proofs.LoopLaws.{below_suc}
use Rattle.scan.specs.declared.set.Set.{Set}
use Rattle.scan.specs.Set.{most_outputs}
use Rattle.scan.specs.Shape.{well_formed}
use Rattle.scan.proofs.ShapeLaws.{counts, rest_lt}
use Rattle.text.specs.Text.{rest_line}
use Rattle.promise.specs.Allowed.{output_name}
use Rattle.promise.specs.Terms.{Bit}
use Rattle.promise.specs.Texts.{rest_word, RestShown}
use Rattle.promise.proofs.Bits.{bit_set, set_bit}
use Rattle.promise.proofs.NameMeanings.{names_mean}

-- ---- the numbers below a count that pass a test

-- each of the list passes, each that passes is in the list, and later ones are higher
record Passing (n : ℕ) (p : ℕ → Bool) (numbers : List ℕ) : Type 0 where
  each : (j : ℕ) → j < length numbers → (get_or numbers j 0 < n) × (p (get_or numbers j 0) ≡ true)
  all : (k : ℕ) → k < n → p k ≡ true → (j : ℕ) × (j < length numbers) × (get_or numbers j 0 ≡ k)
  rising : (i j : ℕ) → i < j → j < length numbers → get_or numbers i 0 < get_or numbers j 0

last_at : (l : List ℕ) (x : ℕ) → get_or (l ++ (x ∷ [])) (length l) 0 ≡ x
last_at [] x = refl
last_at (y ∷ l) x = last_at l x

-- a number of a list with one more behind it is one of the list, or that one
front_or_last : (l : List ℕ) (x j : ℕ) → j < length (l ++ (x ∷ [])) → (j < length l) ⊎ (j ≡ length l)
front_or_last [] x zero h = inr refl
front_or_last [] x (suc j) h = absurd (omega arith)
front_or_last (y ∷ l) x zero h = inl (omega arith)
front_or_last (y ∷ l) x (suc j) h = ⊎_elim (λ a. inl (omega arith)) (λ a. inr (ap suc a)) (front_or_last l x j (omega arith))

module _ (p : ℕ → Bool) where
  -- one that does not pass is left out
  one_out : (n : ℕ) (l : List ℕ) → p n ≡ false → Passing n p l → Passing (suc n) p l
  one_out n l e q = record {
    each = λ j h. let x = q.each j h in (omega (arith, x.0), x.1);
    all = below_suc (λ (k : ℕ). p k ≡ true → (j : ℕ) × (j < length l) × (get_or l j 0 ≡ k)) {n = n} q.all (λ t. clash t e);
    rising = q.rising;
  }

  -- one that passes stands behind the others
  one_in : (n : ℕ) (l : List ℕ) → p n ≡ true → Passing n p l → Passing (suc n) p (l ++ (n ∷ []))
  one_in n l e q = record {
    each = λ j h. ⊎_elim (λ a. subst In (sym (front j a)) (let x = q.each j a in (omega (arith, x.0), x.1))) (λ a. subst In (sym (last j a)) (omega arith, e)) (front_or_last l n j h);
    all = below_suc (λ (k : ℕ). p k ≡ true → (j : ℕ) × (j < length (l ++ (n ∷ []))) × (get_or (l ++ (n ∷ [])) j 0 ≡ k)) {n = n}
        (λ k h t. let x = q.all k h t in (x.0, omega (arith, long, x.1), front x.0 x.1 ∙ x.2)) (λ t. (length l, omega (arith, long), last_at l n));
    rising = λ i j h g.
        ⊎_elim (λ a. let b : i < length l = omega arith in omega (arith, front i b, front j a, q.rising i j h a))
        (λ a. let b : i < length l = omega arith in omega (arith, front i b, last j a, (q.each i b).0)) (front_or_last l n j g);
  }
    where
      In : ℕ → Type 0
      In k = (k < suc n) × (p k ≡ true)

      long : length (l ++ (n ∷ [])) ≡ length l + 1
      long = length-append l (n ∷ [])

      front : (j : ℕ) → j < length l → get_or (l ++ (n ∷ [])) j 0 ≡ get_or l j 0
      front j a = get_or-append l (n ∷ []) 0 j a

      last : (j : ℕ) → j ≡ length l → get_or (l ++ (n ∷ [])) j 0 ≡ n
      last j a = ap (λ (i : ℕ). get_or (l ++ (n ∷ [])) i 0) a ∙ last_at l n

  abbrev passing : ℕ → List ℕ
  passing n = joined n (λ k. cond (p k) (k ∷ []) [])

  -- The numbers below n that pass.
  passes : (n : ℕ) → Passing n p (passing n)
  unfolding joined
  passes zero = record { each = λ j h. absurd (omega arith); all = λ k h. absurd (omega arith); rising = λ i j h g. absurd (omega arith) }
  passes (suc n) = go (p n) refl (passes n)
    where
      go : (b : Bool) → p n ≡ b → Passing n p (passing n) → Passing (suc n) p (passing n ++ cond b (n ∷ []) [])
      go true e q = one_in n (passing n) e q
      go false e q = subst (Passing (suc n) p) (sym (append-nil (passing n))) (one_out n (passing n) e q)

  -- what stands for each of them
  items_of : {A : Type 0} (item : ℕ → A) (n : ℕ) → joined n (λ k. cond (p k) (item k ∷ []) []) ≡ map item (passing n)
  unfolding joined
  items_of item zero = refl
  items_of item (suc n) = ap₂ ◌++◌ (items_of item n) (one (p n)) ∙ sym (map-append item (passing n) (cond (p n) (n ∷ []) []))
    where
      one : (b : Bool) → cond b (item n ∷ []) [] ≡ map item (cond b (n ∷ []) [])
      one true = refl
      one false = refl

item_at : {A : Type 0} (item : ℕ → A) (d : A) (l : List ℕ) (j : ℕ) → j < length l → get_or (map item l) j d ≡ item (get_or l j 0)
item_at item d [] j h = absurd (omega arith)
item_at item d (x ∷ l) zero h = refl
item_at item d (x ∷ l) (suc j) h = item_at item d l j (omega arith)

-- ---- the lines of a set

module _ (s : Set) (ok : well_formed s ≡ true) where
  abbrev at_rest : ℕ → Bool
  at_rest k = bit k s.rest

  -- the numbers of the outputs at rest
  abbrev numbers : List ℕ
  numbers = passing at_rest most_outputs

  own : Passing most_outputs at_rest numbers
  own = passes at_rest most_outputs

  abbrev pub rest_lines : List (List (List ℕ))
  rest_lines = joined most_outputs (rest_line s)

  abbrev line_of : ℕ → List (List ℕ)
  line_of k = rest_word ∷ output_name s k ∷ []

  lines_of : rest_lines ≡ map line_of numbers
  unfolding rest_line
  lines_of = items_of at_rest line_of most_outputs

  lines_long : length rest_lines ≡ length numbers
  lines_long = ap length lines_of ∙ length-map numbers line_of

  line_is : (j : ℕ) → j < length numbers → RestShown s (get_or numbers j 0) (get_or rest_lines j [])
  line_is j h = ap (λ (l : List (List (List ℕ))). get_or l j []) lines_of ∙ item_at line_of [] numbers j h

  -- an output at rest is one of the set
  pub rest_below : (k : ℕ) → bit k s.rest ≡ true → k < s.n
  rest_below k e = bit_below s.n k s.rest (rest_lt s ok) e

  number_below : (j : ℕ) → j < length numbers → get_or numbers j 0 < s.n
  number_below j h = rest_below (get_or numbers j 0) (own.each j h).1

  -- Each line is of an output at rest,
  pub rest_of : (j : ℕ) → j < length rest_lines → (k : ℕ) × Bit k s.rest × RestShown s k (get_or rest_lines j [])
  rest_of j h =
      let l : j < length numbers = omega (arith, lines_long) in
      (get_or numbers j 0, bit_set (get_or numbers j 0) s.rest (own.each j l).1, line_is j l)

  -- each output at rest has one,
  pub rest_for : (k : ℕ) → Bit k s.rest → (j : ℕ) × (j < length rest_lines) × RestShown s k (get_or rest_lines j [])
  rest_for k b =
      let e = set_bit k s.rest b in
      let few : k < most_outputs = omega (arith, rest_below k e, (counts s ok).n_le) in
      let x = own.all k few e in
      (x.0, omega (arith, lines_long, x.1), line_is x.0 x.1 ∙ ap line_of x.2)

  -- a line is of one output
  one_shown : (p q : ℕ) (words : List (List ℕ)) → p < s.n → q < s.n → RestShown s p words → RestShown s q words → p ≡ q
  one_shown p q words hp hq e f = (names_mean s ok).one_output p q hp hq (ap (λ (l : List (List ℕ)). get_or l 1 []) (sym e ∙ f))

  -- and a later line is of a higher output.
  pub rest_rising : (i j : ℕ) → i < j → j < length rest_lines → (p q : ℕ) → p < s.n → q < s.n
      → RestShown s p (get_or rest_lines i []) → RestShown s q (get_or rest_lines j []) → p < q
  rest_rising i j h g p q hp hq e f =
      let lj : j < length numbers = omega (arith, lines_long) in
      let li : i < length numbers = omega arith in
      let ep = one_shown p (get_or numbers i 0) (get_or rest_lines i []) hp (number_below i li) e (line_is i li) in
      let eq = one_shown q (get_or numbers j 0) (get_or rest_lines j []) hq (number_below j lj) f (line_is j lj) in
      omega (arith, ep, eq, own.rising i j h lj)
