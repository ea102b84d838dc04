-- Drives that rest on: which rest words a well-formed set may have, that verdicts and scans do not read it, and that past outputs do until a scan is allowed.
-- Assumes nothing.
use mathlib.Core.Path.{◌≡◌, refl, subst}
use mathlib.Core.Bool.{true}
use mathlib.Core.Logic.{◌↔◌}
use Prim.Native.Nat.{ℕ, ◌^◌, ◌<◌}
use borrow.Author.Tests.{lt-ltb}
use Rattle.words.proofs.BoolLaws.{every_at}
use Rattle.scan.specs.declared.set.Kind.{Kind}
use Rattle.scan.specs.declared.set.Set.{Set}
use Rattle.scan.specs.Set.{kind, constraint}
use Rattle.scan.specs.Shape.{length_tests, constraint_place, set_tests, well_formed}
use Rattle.scan.proofs.ShapeLaws.{rest_lt}
use Rattle.promise.specs.Terms.{Bit, BitRead}
use Rattle.promise.specs.Meanings.{SameButLoneRanks, LoneRanksUnread}
use Rattle.promise.specs.RestWord.{PastOutputsRead, resting_on, RestWord}
use Rattle.promise.proofs.Bits.{set_bit}
use Rattle.promise.proofs.RestLines.{rest_below}
use Rattle.promise.proofs.ReadMeanings.{reads_of_list}
use Rattle.promise.proofs.LoneRankMeanings.{lone_ranks_unread}

-- ---- which words may stand there

rest_bits : (s : Set) → well_formed s ≡ true → (k : ℕ) → Bit k s.rest → k < s.n
rest_bits s ok k b = rest_below s ok k (set_bit k s.rest b)

module _ (s : Set) (word : ℕ) (ok : well_formed s ≡ true) where
  still_formed : word < 2 ^ s.n → well_formed (resting_on s word) ≡ true
  unfolding well_formed set_tests length_tests constraint_place constraint
  still_formed h = let t = every_at (set_tests s) ok in rw (t 0, t 1, t 2, t 3, t 4, lt-ltb word (2 ^ s.n) h)

  formed : (well_formed (resting_on s word) ≡ true) ↔ (word < 2 ^ s.n)
  formed = (λ e. rest_lt (resting_on s word) e, still_formed)

  -- ---- what does not read it

  same_but_rest : SameButLoneRanks (resting_on s word) s
  unfolding kind constraint
  same_but_rest = record {
    r = refl;
    n = refl;
    m = refl;
    kinds = λ k h. refl;
    constraints = λ i h. record { read_plain = refl; read_negated = refl; out_plain = refl; out_negated = refl; ranks = λ c. refl };
  }

  unread : word < 2 ^ s.n → LoneRanksUnread (resting_on s word) s
  unread h = lone_ranks_unread (resting_on s word) s (still_formed h) ok same_but_rest

-- ---- what does

outputs_read : (s : Set) (w output sensor present : ℕ) → ((k : ℕ) → k < s.r → Bit k w ↔ BitRead (kind s k) output sensor present k) → PastOutputsRead s w output
outputs_read s w output sensor present reads k i h e = subst (λ (x : Kind). Bit k w ↔ BitRead x output sensor present k) e (reads k h)

pub rest_word : RestWord
rest_word = record {
  bits = rest_bits;
  formed = formed;
  unjudged = λ s word ok h. (unread s word ok h).verdict;
  unread = λ s word ok h. (unread s word ok h).scan;
  list_first = λ s before n c. outputs_read s _ s.rest c.sensor c.sensor ((reads_of_list s before c).none n);
  list_next = λ s before b earlier l c. outputs_read s _ _ b.sensor c.sensor ((reads_of_list s before c).last b earlier l);
}
