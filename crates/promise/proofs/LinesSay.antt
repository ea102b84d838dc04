-- What the verdict program's line says.
-- Assumes nothing.
use mathlib.Core.Path.{◌≡◌, refl, sym, ap, subst, ◌∙◌}
use mathlib.Core.Bool.{true}
use mathlib.Core.List.{List, [], ◌∷◌, ◌++◌, append_assoc}
use mathlib.Core.Logic.{◌⊎◌, inl, inr}
use Prim.Native.Nat.{ℕ, ◌≤◌}
use native.Mathlib.Omega.{arith}
use lib.Dec.{leb}
use lib.ListN.{length, get_or, drop, length-append}
use borrow.Author.Tests.{le-leb}
use Rattle.decimal.specs.Decimal.{decimal}
use Rattle.decimal.proofs.DigitsLaws.{decimal_says, decimal_digits, decimal_shortest, decimal_short, decimal_some}
use Rattle.scan.specs.declared.set.Set.{Set}
use Rattle.loader.specs.declared.loader.LoadAnswer.{LoadAnswer}
use Rattle.loader.specs.declared.loader.LoadAnswer.TheVariants.{Loaded, Refused}
use Rattle.loader.specs.Load.{load_of}
use Rattle.loader.specs.Told.{load_told}
use Rattle.verdict.specs.declared.verdict.Verdict.{Verdict}
use Rattle.verdict.specs.declared.verdict.Verdict.TheVariants.{Accepted, BadSet, ShortScratch, NoVector as WordNoVector, Clash as WordClash, NoEnd as WordNoEnd}
use Rattle.verdict.specs.Judge.{judge_of}
use Rattle.verdict.specs.Meaning.{Means}
use Rattle.verdict.specs.Told.{verdict_told}
use Rattle.line.specs.declared.printer.Line.{Line}
use Rattle.line.specs.declared.printer.Line.TheVariants.{Accept, Load, NoVector, Clash, NoEnd}
use Rattle.line.specs.Line.{spaced, line_bytes, line_answer, buffer_after, verdict_line, answer_line, line_of}
use Rattle.line.proofs.LoadedSets.{loaded_judged}
use Rattle.promise.proofs.ExactVerdicts.{told_accepted, told_word, told_clash, told_request}
use Rattle.promise.specs.Lines.{IsDecimal, NumbersThenEnd, IsLine, accept_word, load_word, no_vector_word, clash_word, no_end_word, program_scratch, LineSays}

-- ---- numbers

is_decimal : (n : ℕ) → IsDecimal n (decimal n)
is_decimal n = record { says = decimal_says n; digits = decimal_digits n; some = decimal_some n; shortest = decimal_shortest n }

-- one number more, before what is behind it
one_more : (n : ℕ) (numbers rest : List ℕ) → NumbersThenEnd numbers rest → NumbersThenEnd (n ∷ numbers) (spaced n ++ rest)
unfolding spaced
one_more n numbers rest more = (decimal n, rest, refl, is_decimal n, more)

-- ---- lines

accept_line : (r n m : ℕ) → IsLine accept_word (r ∷ n ∷ m ∷ []) (line_bytes (Accept r n m))
unfolding line_bytes
accept_line r n m =
    let end : List ℕ = 0x0A ∷ [] in (
      spaced r ++ (spaced n ++ (spaced m ++ end)),
      append_assoc (accept_word ++ spaced r ++ spaced n) (spaced m) end ∙ append_assoc (accept_word ++ spaced r) (spaced n) (spaced m ++ end) ∙ append_assoc accept_word (spaced r) (spaced n ++ (spaced m ++ end)),
      one_more r (n ∷ m ∷ []) (spaced n ++ (spaced m ++ end)) (one_more n (m ∷ []) (spaced m ++ end) (one_more m [] end refl)),
    )

two_line : (word : List ℕ) (a b : ℕ) → IsLine word (a ∷ b ∷ []) (word ++ spaced a ++ spaced b ++ (0x0A ∷ []))
two_line word a b =
    let end : List ℕ = 0x0A ∷ [] in (
      spaced a ++ (spaced b ++ end),
      append_assoc (word ++ spaced a) (spaced b) end ∙ append_assoc word (spaced a) (spaced b ++ end),
      one_more a (b ∷ []) (spaced b ++ end) (one_more b [] end refl),
    )

one_line : (word : List ℕ) (a : ℕ) → IsLine word (a ∷ []) (word ++ spaced a ++ (0x0A ∷ []))
one_line word a = let end : List ℕ = 0x0A ∷ [] in (spaced a ++ end, append_assoc word (spaced a) end, one_more a [] end refl)

-- ---- by the answer of the load and the verdict

module _ (s : Set) (v : Verdict) where
  -- told by its number and values the verdict is one
  by_verdict : (word numbers : List ℕ) (x : Verdict) → v ≡ x → IsLine word numbers (line_bytes (verdict_line s x)) → IsLine word numbers (line_bytes (verdict_line s v))
  by_verdict word numbers x e l = subst (λ (y : Verdict). IsLine word numbers (line_bytes (verdict_line s y))) (sym e) l

  verdict_accepted : verdict_told v ≡ 0 ∷ [] → IsLine accept_word (s.r ∷ s.n ∷ s.m ∷ []) (line_bytes (verdict_line s v))
  verdict_accepted e = by_verdict accept_word (s.r ∷ s.n ∷ s.m ∷ []) Accepted (told_accepted v e) (accept_line s.r s.n s.m)

  verdict_no_vector : (w : ℕ) → verdict_told v ≡ 22 ∷ w ∷ [] → IsLine no_vector_word (w ∷ []) (line_bytes (verdict_line s v))
  unfolding line_bytes
  verdict_no_vector w e = by_verdict no_vector_word (w ∷ []) (WordNoVector w) (told_word v w e) (one_line no_vector_word w)

  verdict_clash : (w k : ℕ) → verdict_told v ≡ 58 ∷ w ∷ k ∷ [] → IsLine clash_word (w ∷ k ∷ []) (line_bytes (verdict_line s v))
  unfolding line_bytes
  verdict_clash w k e = by_verdict clash_word (w ∷ k ∷ []) (WordClash w k) (told_clash v w k e) (two_line clash_word w k)

  verdict_no_end : (w g : ℕ) → verdict_told v ≡ 23 ∷ w ∷ g ∷ [] → IsLine no_end_word (w ∷ g ∷ []) (line_bytes (verdict_line s v))
  unfolding line_bytes
  verdict_no_end w g e = by_verdict no_end_word (w ∷ g ∷ []) (WordNoEnd w g) (told_request v w g e) (two_line no_end_word w g)

-- the line of a loaded file is that of its verdict
loaded_line : (s : Set) (room : ℕ) (a : LoadAnswer) → load_told a ≡ 0 ∷ [] → answer_line s room a ≡ verdict_line s (judge_of s room)
loaded_line s room Loaded h = refl
loaded_line s room (Refused c o) h = absurd (omega (arith, ap length h))

refused_line : (s : Set) (room : ℕ) (a : LoadAnswer) (c o : ℕ) → load_told a ≡ c ∷ o ∷ [] → IsLine load_word (c ∷ o ∷ []) (line_bytes (answer_line s room a))
unfolding line_bytes
refused_line s room Loaded c o h = absurd (omega (arith, ap length h))
refused_line s room (Refused x y) c o h =
    subst (λ (k : ℕ). IsLine load_word (k ∷ o ∷ []) (line_bytes (Load x y))) (ap (λ (l : List ℕ). get_or l 0 0) h)
    (subst (λ (k : ℕ). IsLine load_word (x ∷ k ∷ []) (line_bytes (Load x y))) (ap (λ (l : List ℕ). get_or l 1 0) h) (two_line load_word x y))

-- a verdict that means something is one of four
meaning : (s : Set) (v : Verdict) → Means s v
    → (verdict_told v ≡ 0 ∷ []) ⊎ ((w : ℕ) × (verdict_told v ≡ 22 ∷ w ∷ [])) ⊎ ((w : ℕ) × (k : ℕ) × (verdict_told v ≡ 58 ∷ w ∷ k ∷ []))
    ⊎ ((w : ℕ) × (g : ℕ) × (verdict_told v ≡ 23 ∷ w ∷ g ∷ []))
meaning s Accepted m = inl refl
meaning s (WordNoVector w) m = inr (inl (w, refl))
meaning s (WordClash w k) m = inr (inr (inl (w, k, refl)))
meaning s (WordNoEnd w g) m = inr (inr (inr (w, g, refl)))
meaning s BadSet m = absurd m
meaning s ShortScratch m = absurd m

was_loaded : (a : LoadAnswer) → load_told a ≡ 0 ∷ [] → a ≡ Loaded
was_loaded Loaded h = refl
was_loaded (Refused c o) h = absurd (omega (arith, ap length h))

-- ---- in a buffer

spaced_short : (n : ℕ) → length (spaced n) ≤ 21
unfolding spaced
spaced_short n = omega (arith, decimal_short n)

line_short : (l : Line) → length (line_bytes l) ≤ 80
unfolding line_bytes
line_short (Accept r n m) =
    omega (
      arith,
      length-append (accept_word ++ spaced r ++ spaced n ++ spaced m) (0x0A ∷ []),
      length-append (accept_word ++ spaced r ++ spaced n) (spaced m),
      length-append (accept_word ++ spaced r) (spaced n),
      length-append accept_word (spaced r),
      spaced_short r,
      spaced_short n,
      spaced_short m,
    )
line_short (Load c o) =
    omega (arith, length-append (load_word ++ spaced c ++ spaced o) (0x0A ∷ []), length-append (load_word ++ spaced c) (spaced o), length-append load_word (spaced c), spaced_short c, spaced_short o)
line_short (NoVector w) = omega (arith, length-append (no_vector_word ++ spaced w) (0x0A ∷ []), length-append no_vector_word (spaced w), spaced_short w)
line_short (Clash w k) =
    omega (arith, length-append (clash_word ++ spaced w ++ spaced k) (0x0A ∷ []), length-append (clash_word ++ spaced w) (spaced k), length-append clash_word (spaced w), spaced_short w, spaced_short k)
line_short (NoEnd w g) =
    omega (arith, length-append (no_end_word ++ spaced w ++ spaced g) (0x0A ∷ []), length-append (no_end_word ++ spaced w) (spaced g), length-append no_end_word (spaced w), spaced_short w, spaced_short g)

line_whole : (l : Line) (buf : List ℕ) → 80 ≤ length buf
    → (line_answer l (length buf) ≡ length (line_bytes l)) × (buffer_after l buf ≡ line_bytes l ++ drop (length (line_bytes l)) buf)
unfolding line_answer buffer_after
line_whole l buf room =
    let short = line_short l in
    let le : leb (length (line_bytes l)) (length buf) ≡ true = le-leb (length (line_bytes l)) (length buf) (omega arith) in
    (simp le, simp le)

-- ---- the program's line

pub printed_says : (file : List ℕ) → LineSays file
unfolding line_of
printed_says file =
    let s = (load_of file).set in
    let a = (load_of file).answer in
    let v = judge_of s program_scratch in
    record {
      refused = refused_line s program_scratch a;
      accepted = λ h e. subst (λ (l : Line). IsLine accept_word (s.r ∷ s.n ∷ s.m ∷ []) (line_bytes l)) (sym (loaded_line s program_scratch a h)) (verdict_accepted s v e);
      no_vector = λ w h e. subst (λ (l : Line). IsLine no_vector_word (w ∷ []) (line_bytes l)) (sym (loaded_line s program_scratch a h)) (verdict_no_vector s v w e);
      clash = λ w k h e. subst (λ (l : Line). IsLine clash_word (w ∷ k ∷ []) (line_bytes l)) (sym (loaded_line s program_scratch a h)) (verdict_clash s v w k e);
      no_end = λ w g h e. subst (λ (l : Line). IsLine no_end_word (w ∷ g ∷ []) (line_bytes l)) (sym (loaded_line s program_scratch a h)) (verdict_no_end s v w g e);
      one = λ bytes h. meaning s v (loaded_judged file program_scratch bytes (omega arith) (was_loaded a h));
      whole = line_whole (line_of file program_scratch);
    }
