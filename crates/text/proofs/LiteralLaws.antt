-- The laws of literals in a text, as the code puts them one behind the other.
-- Assumes nothing.
use mathlib.Core.Path.{◌≡◌, refl, sym, ap, ◌∙◌}
use mathlib.Core.Bool.{Bool, true, false, cond, ◌||◌}
use mathlib.Core.List.{List, [], ◌∷◌, ◌++◌}
use Prim.Native.Nat.{ℕ, ◌+◌}
use lib.ListN.{get_or}
use Rattle.words.specs.Word.{bit}
use Rattle.words.proofs.BoolLaws.{cond_true}
use Rattle.words.proofs.LoopTurns.{some_none, some_more}
use Rattle.scan.specs.Names.{name_bytes}
use Rattle.text.specs.Grammar.{and_word}
use Rattle.text.specs.Text.{state_word, rank_words, behind, named_below}
use Rattle.text.specs.way.Place.{literal_if, literal_at}

behind_joined : (others : Bool) (words : List (List ℕ)) → cond others (and_word ∷ []) [] ++ words ≡ behind others words
behind_joined true words = refl
behind_joined false words = refl

-- `and`, the name, the state and the rank of a literal that is there
pub literal_made : (there others : Bool) (name : List ℕ) (plain several : Bool) (rank : ℕ) → there ≡ true
    → cond others (and_word ∷ []) [] ++ ((name ∷ []) ++ ((state_word plain ∷ []) ++ rank_words several rank)) ≡ literal_if there others name plain several rank
literal_made there others name plain several rank e =
    behind_joined others (name ∷ state_word plain ∷ rank_words several rank) ∙ cond_true there (behind others (name ∷ state_word plain ∷ rank_words several rank)) [] e

-- no point is named below the first
pub others_none : (begun : Bool) (named : ℕ) → begun ≡ (begun || named_below named 0)
others_none true named = refl
others_none false named = sym (some_none (λ i. bit i named))

-- one point more
pub others_more : (begun : Bool) (named k : ℕ) (others there more : Bool) → others ≡ (begun || named_below named k) → there ≡ bit k named → more ≡ (others || there)
    → more ≡ (begun || named_below named (k + 1))
others_more true named k others there more e t m = m ∙ ap (λ (b : Bool). b || there) e
others_more false named k others there more e t m = m ∙ (λ i. e i || t i) ∙ sym (some_more k (λ i. bit i named))

-- the literal of point k
pub literal_turn : (begun : Bool) (names : List (List ℕ)) (plain named : ℕ) (ranks : List ℕ) (several : Bool) (k : ℕ) (others there on : Bool)
    → others ≡ (begun || named_below named k) → there ≡ bit k named → on ≡ bit k plain
    → literal_if there others (name_bytes (get_or names k [])) on several (get_or ranks k 0) ≡ literal_at begun names plain named ranks several k
unfolding literal_at
literal_turn begun names plain named ranks several k others there on e t p = λ i. literal_if (t i) (e i) (name_bytes (get_or names k [])) (p i) several (get_or ranks k 0)
