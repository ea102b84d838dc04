-- `shape::names::is_name_used` meets its contract. Assumes nothing.
use mathlib.Core.Path.{◌≡◌, ap₂, ◌∙◌}
use mathlib.Core.Bool.{Bool, ◌||◌}
use mathlib.Core.List.{List}
use Prim.Native.Nat.{ℕ}
use lib.Dec.{ltb}
use Rattle.shape.specs.way.Names.{first_name, name_used}
use Rattle.shape.proofs.names.is_name_used.Goals as goal

-- each test is of the name found among as many as there are
used : (reads outputs : List (List ℕ)) (name : List ℕ) (i j a b k l : ℕ) (x : Bool) → a ≡ i → b ≡ j
    → k ≡ first_name reads a name → l ≡ first_name outputs b name → x ≡ (ltb k a || ltb l b) → x ≡ name_used reads i outputs j name
unfolding name_used
used reads outputs name i j a b k l x ea eb ek el ex =
    ex ∙ (λ d. ltb (ek d) a || ltb (el d) b) ∙ ap₂ (λ (y z : ℕ). ltb (first_name reads y name) y || ltb (first_name outputs z name) z) ea eb

pub returns : goal.returns
returns c =
    let o = c in
    let r = o in
    let b = r in
    let a = b in
    used _ _ _ _ _ a.min-a.result b.min-b.result r.first_of.result o.first_of-2.result c.either.result
    a.min-a.ensures b.min-b.ensures r.first_of.ensures o.first_of-2.ensures c.either.ensures
