-- The literals of a constraint, place by place: those of all places, one after the other.
-- Assumes nothing.
use mathlib.Core.Path.{◌≡◌, refl, sym, ◌∙◌, ap, ap₂, subst}
use mathlib.Core.Bool.{Bool, true, false, cond}
use mathlib.Core.List.{List, [], ◌∷◌, ◌++◌, append_assoc, append-nil}
use Prim.Native.Nat.{ℕ, zero, suc, ◌+◌, ◌-◌, ◌≤◌, ◌<◌}
use native.Mathlib.Nat.{add-suc, add-zero}
use native.Mathlib.Decide.{dec_lt}
use native.Mathlib.Omega.{arith}
use lib.Dec.{ltb}
use lib.ListN.{length, length-append}
use borrow.Author.Tests.{lt-ltb, le-ltb}
use Rattle.words.specs.Word.{bit}
use Rattle.scan.specs.declared.set.Constraint.{Constraint}
use Rattle.scan.specs.Set.{most_reads, most_outputs, rank}
use Rattle.literal.specs.declared.literal.Said.{Said}
use Rattle.literal.proofs.LiteralLaws.{room}
use Rattle.setfile.proofs.LiteralPlaces.{said, place_of, places_end, mask}

-- ---- lists one after the other

-- what f gives for 0, 1 .. n - 1, one after the other
unfoldable pub up_to : {A : Type 0} → ℕ → (ℕ → List A) → List A
up_to zero f = []
up_to (suc n) f = up_to n f ++ f n

-- M and then N.
upto_on : {A : Type 0} (f g h : ℕ → List A) (M N : ℕ) → ((k : ℕ) → k < M → h k ≡ f k) → ((k : ℕ) → k < N → h (M + k) ≡ g k) → up_to (M + N) h ≡ up_to M f ++ up_to N g
unfolding up_to
upto_on f g h zero zero a b = refl
upto_on f g h (suc M) zero a b =
    ap (λ (n : ℕ). up_to n h) (add-zero (suc M))
    ∙ ap₂ ◌++◌ (ap (λ (n : ℕ). up_to n h) (sym (add-zero M)) ∙ upto_on f g h M zero (λ k l. a k (omega arith)) (λ k l. absurd (omega arith)) ∙ append-nil (up_to M f)) (a M (omega arith))
    ∙ sym (append-nil (up_to (suc M) f))
upto_on f g h M (suc N) a b =
    ap (λ (n : ℕ). up_to n h) (add-suc M N)
    ∙ ap₂ ◌++◌ (upto_on f g h M N a (λ k l. b k (omega arith))) (b N (omega arith))
    ∙ append_assoc (up_to M f) (up_to N g) (g N)

-- The same from the same.
pub upto_same : {A : Type 0} (f g : ℕ → List A) (N : ℕ) → ((k : ℕ) → k < N → g k ≡ f k) → up_to N g ≡ up_to N f
unfolding up_to
upto_same f g zero h = refl
upto_same f g (suc N) h = ap₂ ◌++◌ (upto_same f g N (λ k l. h k (omega arith))) (h N (omega arith))

-- Where nothing is there from k on, a piece at k comes last.
pub upto_add : {A : Type 0} (f g : ℕ → List A) (k N : ℕ) → k < N → ((j : ℕ) → j < k → g j ≡ f j)
    → ((j : ℕ) → k ≤ j → j < N → f j ≡ []) → ((j : ℕ) → k < j → j < N → g j ≡ []) → up_to N g ≡ up_to N f ++ g k
unfolding up_to
upto_add f g k zero l a b c = absurd (omega arith)
upto_add {A} f g k (suc N) l a b c =
    go (dec_lt k N) (λ h. upto_add f g k N h a (λ j x y. b j x (omega arith)) (λ j x y. c j x (omega arith)))
  where
    go : Dec (k < N) → (k < N → up_to N g ≡ up_to N f ++ g k) → up_to N g ++ g N ≡ (up_to N f ++ f N) ++ g k
    go (yes h) before =
        ap₂ ◌++◌ (before h) (c N h (omega arith))
        ∙ append-nil (up_to N f ++ g k)
        ∙ ap (λ (m : List A). m ++ g k) (sym (ap (λ (m : List A). up_to N f ++ m) (b N (omega arith) (omega arith)) ∙ append-nil (up_to N f)))
    go (no h) before =
        let e : N ≡ k = omega arith in
        ap₂ ◌++◌ (upto_same f g N (λ j x. a j (omega arith))) (ap g e)
        ∙ ap (λ (m : List A). m ++ g k) (sym (ap (λ (m : List A). up_to N f ++ m) (b N (omega arith) (omega arith)) ∙ append-nil (up_to N f)))

-- How long it is: at most one each, and none from W on.
pub upto_long : {A : Type 0} (f : ℕ → List A) (W N : ℕ) → ((k : ℕ) → length (f k) ≤ 1) → ((k : ℕ) → W ≤ k → f k ≡ []) → (length (up_to N f) ≤ N) × (length (up_to N f) ≤ W)
unfolding up_to
upto_long f W zero one none = (omega arith, omega arith)
upto_long {A} f W (suc N) one none =
    let h = upto_long f W N one none in
    let a = length-append (up_to N f) (f N) in
    let t = one N in
    (omega (arith, h.0), bound (dec_lt N W) h a t)
  where
    bound : Dec (N < W) → (length (up_to N f) ≤ N) × (length (up_to N f) ≤ W) → length (up_to N f ++ f N) ≡ length (up_to N f) + length (f N) → length (f N) ≤ 1 → length (up_to N f ++ f N) ≤ W
    bound (yes l) h a t = omega (arith, h.0)
    bound (no l) h a t = let z : length (f N) ≡ 0 = ap length (none N (omega arith)) in omega (arith, h.1)

-- ---- literals by place

-- the rank that a literal carries
abbrev pub worth : Bool → Constraint → ℕ → ℕ
worth true c k = rank c k
worth false c k = 0

-- the literal of point k, which is plain, negated or not there
abbrev pub said_if : Bool → Bool → Bool → ℕ → ℕ → List Said
said_if o plain negated k x = cond plain (said o false k x ∷ []) (cond negated (said o true k x ∷ []) [])

-- the literal of an output or a read point
abbrev pub said_of : Constraint → Bool → ℕ → List Said
said_of c o k = said_if o (bit k (mask o false c)) (bit k (mask o true c)) k (worth o c k)

-- the literal at a place
abbrev pub placed : Constraint → ℕ → List Said
placed c p = cond (ltb p most_reads) (said_of c false p) (said_of c true (p - most_reads))

-- the literals of a constraint
abbrev pub all_said : Constraint → List Said
all_said c = up_to places_end (placed c)

-- It stands at the point's place.
pub placed_at : (c : Constraint) (o : Bool) (k : ℕ) → k < room o → placed c (place_of o k) ≡ said_of c o k
placed_at c true k h =
    let e : most_reads + k - most_reads ≡ k = omega arith in
    ap (λ (b : Bool). cond b (said_of c false (most_reads + k)) (said_of c true (most_reads + k - most_reads))) (le-ltb (most_reads + k) most_reads (omega arith)) ∙ ap (said_of c true) e
placed_at c false k h = ap (λ (b : Bool). cond b (said_of c false k) (said_of c true (k - most_reads))) (lt-ltb k most_reads h)

-- Every place is a point's.
pub by_place : (P : ℕ → Type 0) → ((o : Bool) (k : ℕ) → k < room o → P (place_of o k)) → (p : ℕ) → p < places_end → P p
by_place P f p h = go (dec_lt p most_reads)
  where
    go : Dec (p < most_reads) → P p
    go (yes l) = f false p l
    go (no l) = let e : most_reads + (p - most_reads) ≡ p = omega arith in subst P e (f true (p - most_reads) (omega arith))

-- The literals of a constraint are those of its read points and then those of its outputs.
pub by_kind : (c : Constraint) → all_said c ≡ up_to most_reads (said_of c false) ++ up_to most_outputs (said_of c true)
by_kind c = upto_on (said_of c false) (said_of c true) (placed c) most_reads most_outputs (placed_at c false) (placed_at c true)
