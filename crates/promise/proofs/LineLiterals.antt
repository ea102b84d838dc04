-- The literals of a line: words put for literals, one after the other, are read back as those literals.
-- Assumes nothing.
use mathlib.Core.Path.{◌≡◌, refl, sym, ap, ap₂, subst, ◌∙◌}
use mathlib.Core.Bool.{Bool, true, false, cond, ◌||◌}
use mathlib.Core.List.{List, [], ◌∷◌, ◌++◌, append_assoc, append-nil}
use mathlib.Core.Logic.{◌⊎◌, inl, inr, ⊎_elim}
use Prim.Native.Nat.{ℕ, zero, suc, ◌≤◌, ◌<◌}
use native.Mathlib.Omega.{arith}
use lib.ListN.{length, length-append}
use Rattle.words.specs.Loop.{some, joined}
use Rattle.words.proofs.LoopLaws.{below_suc}
use Rattle.text.specs.Text.{behind}
use Rattle.promise.specs.Column.{same_bytes}
use Rattle.promise.specs.Texts.{word_never, and_word, Shown, literals_in, rank_behind, as_words, Among, Opened}

-- ---- the words of literals

-- of a literal, without the one before it
abbrev pub own_words : Shown → List (List ℕ)
own_words l = l.name ∷ l.state ∷ rank_behind l.digits

words_append : (x y : List Shown) → as_words (x ++ y) ≡ as_words x ++ as_words y
words_append [] y = refl
words_append (l ∷ x) y =
    ap (λ (r : List (List ℕ)). (l.before ∷ own_words l) ++ r) (words_append x y) ∙ sym (append_assoc (l.before ∷ own_words l) (as_words x) (as_words y))

-- ---- read back

abbrev shown : List ℕ → List ℕ → List ℕ → List ℕ → Shown
shown before name state digits = record { before = before; name = name; state = state; digits = digits }

-- one literal at the front
one_back : (most : ℕ) (before name state digits : List ℕ) (ls : List Shown) → Opened and_word ls
    → literals_in (suc most) (before ∷ name ∷ state ∷ (rank_behind digits ++ as_words ls)) ≡ shown before name state digits ∷ literals_in most (as_words ls)
unfolding literals_in same_bytes
one_back most before name state (d ∷ ds) ls o = refl
one_back most before name state [] [] o = refl
one_back most before name state [] (l ∷ ls) o =
    subst (λ (w : List ℕ). literals_in (suc most) (before ∷ name ∷ state ∷ w ∷ (own_words l ++ as_words ls)) ≡ shown before name state [] ∷ literals_in most (w ∷ (own_words l ++ as_words ls)))
    (sym o.0) refl

-- Literals are read back from their words.
pub literals_back : (word : List ℕ) (ls : List Shown) (most : ℕ) → length ls ≤ most → Opened word ls → literals_in most (as_words ls) ≡ ls
unfolding literals_in
literals_back word [] zero h o = refl
literals_back word [] (suc most) h o = refl
literals_back word (l ∷ ls) zero h o = absurd (omega arith)
literals_back word (l ∷ ls) (suc most) h o =
    one_back most l.before l.name l.state l.digits ls o.1 ∙ ap (λ (r : List Shown). l ∷ r) (literals_back and_word ls most (omega arith) o.1)

-- a literal has a word at least
pub words_long : (ls : List Shown) → length ls ≤ length (as_words ls)
words_long [] = omega arith
words_long (l ∷ ls) = omega (arith, length-append (l.before ∷ own_words l) (as_words ls), words_long ls)

-- ---- literals with `and` between them

-- there is one
abbrev pub has_one : List Shown → Bool
has_one [] = false
has_one (l ∷ ls) = true

has_append : (x y : List Shown) → has_one (x ++ y) ≡ has_one x || has_one y
has_append [] y = refl
has_append (l ∷ x) y = refl

-- words without the first
abbrev pub but_first : List (List ℕ) → List (List ℕ)
but_first [] = []
but_first (w ∷ ws) = ws

-- `never` and the words behind the first are the words of the literals
pub first_never : (ls : List Shown) → Opened word_never ls → has_one ls ≡ true → word_never ∷ but_first (as_words ls) ≡ as_words ls
first_never [] o e = absurd (one_not e)
  where
    one_not : ◌≡◌ {A = Bool} false true → ⊥
    one_not q = let z : ◌≡◌ {A = ℕ} 0 1 = ap (λ (b : Bool). cond b 1 0) q in omega arith
first_never (l ∷ ls) o e = ap (λ (w : List ℕ). w ∷ (own_words l ++ as_words ls)) (sym o.0)

-- the literal, where it is there
abbrev pub one_if : Bool → Shown → List Shown
one_if there l = cond there (l ∷ []) []

-- a literal more: its words behind the others'
more_words : (ls : List Shown) (l : Shown) (there others : Bool) (words : List (List ℕ)) → words ≡ but_first (as_words ls) → others ≡ has_one ls
    → l.before ≡ cond others and_word word_never → words ++ cond there (behind others (own_words l)) [] ≡ but_first (as_words (ls ++ one_if there l))
more_words ls l false others words e q b = append-nil words ∙ e ∙ ap (λ (x : List Shown). but_first (as_words x)) (sym (append-nil ls))
more_words [] l true others words e q b =
    ap₂ (λ (ws : List (List ℕ)) (o : Bool). ws ++ behind o (own_words l)) e q ∙ sym (append-nil (own_words l))
more_words (x ∷ ls) l true others words e q b =
    let word : l.before ≡ and_word = b ∙ ap (λ (o : Bool). cond o and_word word_never) q in
    ap₂ (λ (ws : List (List ℕ)) (o : Bool). ws ++ behind o (own_words l)) e q
    ∙ append_assoc (own_words x) (as_words ls) (and_word ∷ own_words l)
    ∙ ap₂ (λ (w : List ℕ) (r : List (List ℕ)). own_words x ++ (as_words ls ++ (w ∷ r))) (sym word) (sym (append-nil (own_words l)))
    ∙ ap (λ (r : List (List ℕ)). own_words x ++ r) (sym (words_append ls (l ∷ [])))

-- and its place among them
more_opened : (ls : List Shown) (l : Shown) (there : Bool) → Opened word_never ls → l.before ≡ cond (has_one ls) and_word word_never → Opened word_never (ls ++ one_if there l)
more_opened ls l false o b = subst (λ (x : List Shown). Opened word_never x) (sym (append-nil ls)) o
more_opened [] l true o b = (b, tt)
more_opened (x ∷ ls) l true o b = (o.0, last ls o.1)
  where
    last : (xs : List Shown) → Opened and_word xs → Opened and_word (xs ++ (l ∷ []))
    last [] p = (b, tt)
    last (y ∷ xs) p = (p.0, last xs p.1)

-- the literals of the points that pass a test, behind others
module _ (pre : List Shown) (words : List (List ℕ)) (others : Bool) (q : others ≡ has_one pre) (e : words ≡ but_first (as_words pre)) (o : Opened word_never pre)
    (p : ℕ → Bool) (item : ℕ → Shown) (opening : (k : ℕ) → (item k).before ≡ cond (others || some k p) and_word word_never) where
  abbrev items : ℕ → List Shown
  items n = joined n (λ k. one_if (p k) (item k))

  has_items : (n : ℕ) → has_one (items n) ≡ some n p
  unfolding joined some
  has_items zero = refl
  has_items (suc n) = has_append (items n) (one_if (p n) (item n)) ∙ ap₂ ◌||◌ (has_items n) (has_if (p n))
    where
      has_if : (b : Bool) → has_one (one_if b (item n)) ≡ b
      has_if true = refl
      has_if false = refl

  pub has_all : (n : ℕ) → others || some n p ≡ has_one (pre ++ items n)
  has_all n = ap₂ ◌||◌ q (sym (has_items n)) ∙ sym (has_append pre (items n))

  pub words_all : (n : ℕ) → words ++ joined n (λ k. cond (p k) (behind (others || some k p) (own_words (item k))) []) ≡ but_first (as_words (pre ++ items n))
  unfolding joined
  words_all zero = append-nil words ∙ e ∙ ap (λ (x : List Shown). but_first (as_words x)) (sym (append-nil pre))
  words_all (suc n) =
      sym (append_assoc words (joined n (λ k. cond (p k) (behind (others || some k p) (own_words (item k))) [])) _)
      ∙ more_words (pre ++ items n) (item n) (p n) (others || some n p) _ (words_all n) (has_all n) (opening n)
      ∙ ap (λ (x : List Shown). but_first (as_words x)) (append_assoc pre (items n) (one_if (p n) (item n)))

  pub opened_all : (n : ℕ) → Opened word_never (pre ++ items n)
  unfolding joined
  opened_all zero = subst (λ (x : List Shown). Opened word_never x) (sym (append-nil pre)) o
  opened_all (suc n) =
      subst (λ (x : List Shown). Opened word_never x) (append_assoc pre (items n) (one_if (p n) (item n)))
      (more_opened (pre ++ items n) (item n) (p n) (opened_all n) (opening n ∙ ap (λ (b : Bool). cond b and_word word_never) (has_all n)))

-- ---- one of a list

pub among_left : {A : Type 0} (x : A) (a b : List A) → Among x a → Among x (a ++ b)
among_left x [] b h = elim h [ ]
among_left x (y ∷ a) b (inl e) = inl e
among_left x (y ∷ a) b (inr h) = inr (among_left x a b h)

pub among_right : {A : Type 0} (x : A) (a b : List A) → Among x b → Among x (a ++ b)
among_right x [] b h = h
among_right x (y ∷ a) b h = inr (among_right x a b h)

pub among_either : {A : Type 0} (x : A) (a b : List A) → Among x (a ++ b) → Among x a ⊎ Among x b
among_either x [] b h = inr h
among_either x (y ∷ a) b (inl e) = inl (inl e)
among_either x (y ∷ a) b (inr h) = ⊎_elim (λ l. inl (inr l)) (λ r. inr r) (among_either x a b h)

-- those of the points that pass a test
module _ (p : ℕ → Bool) (item : ℕ → Shown) where
  pub among_items : (n k : ℕ) → k < n → p k ≡ true → Among (item k) (joined n (λ j. one_if (p j) (item j)))
  unfolding joined
  among_items zero k h e = absurd (omega arith)
  among_items (suc n) k h e =
      below_suc (λ (j : ℕ). p j ≡ true → Among (item j) (joined n (λ j. one_if (p j) (item j)) ++ one_if (p n) (item n))) {n = n}
      (λ j l t. among_left (item j) (joined n (λ i. one_if (p i) (item i))) (one_if (p n) (item n)) (among_items n j l t))
      (λ t. among_right (item n) (joined n (λ j. one_if (p j) (item j))) (one_if (p n) (item n)) (there (p n) t)) k h e
    where
      there : (b : Bool) → b ≡ true → Among (item n) (one_if b (item n))
      there true t = inl refl
      there false t = let z : ◌≡◌ {A = ℕ} 0 1 = ap (λ (x : Bool). cond x 1 0) t in absurd (omega arith)

  pub items_among : (l : Shown) (n : ℕ) → Among l (joined n (λ j. one_if (p j) (item j))) → (k : ℕ) × (k < n) × (p k ≡ true) × (item k ≡ l)
  unfolding joined
  items_among l zero h = absurd h
  items_among l (suc n) h =
      ⊎_elim (λ a. let r = items_among l n a in (r.0, omega (arith, r.1), r.2, r.3)) (λ a. let r = there (p n) a in (n, omega arith, r.0, r.1))
      (among_either l (joined n (λ j. one_if (p j) (item j))) (one_if (p n) (item n)) h)
    where
      there : (b : Bool) → Among l (one_if b (item n)) → (b ≡ true) × (item n ≡ l)
      there true (inl e) = (refl, e)
      there true (inr h) = elim h [ ]
      there false h = elim h [ ]
