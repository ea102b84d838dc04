-- What the bits of a read word and of a sensor word are.
-- Assumes nothing.
use mathlib.Core.Path.{◌≡◌, refl, sym, ap, ap₂, ◌∙◌}
use mathlib.Core.Bool.{Bool, true, false, not, ◌&&◌}
use Prim.Native.Nat.{ℕ, ◌^◌, ◌<◌}
use lib.Dec.{ltb}
use lib.Bits.{bit_and, and_lt}
use borrow.Author.Tests.{eqb-true, eq-eqb, ltb-true, lt-ltb, not-false}
use Rattle.words.specs.Word.{bit}
use Rattle.words.specs.Loop.{word}
use Rattle.words.proofs.BitLaws.{bit_of_and, bit_zero, bit_below, no_bits}
use Rattle.words.proofs.BoolLaws.{by_test, and_true, and_false}
use Rattle.words.proofs.LoopLaws.{bit_word, word_lt}
use Rattle.scan.specs.declared.set.Set.{Set}
use Rattle.scan.specs.Set.{kind}
use Rattle.scan.specs.Shape.{is_sensor}
use Rattle.machine.specs.Past.{reading, reading_at, read_word}
use Rattle.machine.specs.Machine.{is_past, sensor_ok}

-- read point k reads what its kind says
pub read_bit : (s : Set) (output sensor present k : ℕ) → k < s.r → bit k (read_word s output sensor present) ≡ reading output sensor present k (kind s k)
unfolding read_word reading_at
read_bit s output sensor present k h = bit_word k s.r (reading_at s output sensor present) h

-- a read word has no bit at r or above
pub read_lt : (s : Set) (output sensor present : ℕ) → read_word s output sensor present < 2 ^ s.r
unfolding read_word
read_lt s output sensor present = word_lt s.r (reading_at s output sensor present)

-- an allowed sensor word has r bits
pub sensor_lt : (s : Set) (present : ℕ) → sensor_ok s present ≡ true → present < 2 ^ s.r
unfolding sensor_ok
sensor_lt s present e = ltb-true _ _ (and_true (ltb present (2 ^ s.r)) _ e).0

-- and it has them set at sensors only
pub sensor_bits : (s : Set) (present : ℕ) → sensor_ok s present ≡ true → (k : ℕ) → bit k present ≡ true → (k < s.r) × (is_sensor (kind s k) ≡ true)
unfolding sensor_ok is_past
sensor_bits s present e k b =
    let t = and_true (ltb present (2 ^ s.r)) _ e in
    let h = bit_below s.r k present (sensor_lt s present e) b in
    let clear = sym (bit_of_and k present (word s.r (is_past s))) ∙ ap (bit k) (eqb-true _ 0 t.1) ∙ bit_zero k in
    let past = ap (λ (x : Bool). x && bit k (word s.r (is_past s))) (sym b) ∙ clear in
    (h, not-false (is_sensor (kind s k)) (sym (bit_word k s.r (is_past s) h) ∙ past))

-- a sensor word of r bits, with bits at sensors only, is allowed
pub sensor_allowed : (s : Set) (present : ℕ) → present < 2 ^ s.r → ((k : ℕ) → bit k present ≡ true → is_sensor (kind s k) ≡ true) → sensor_ok s present ≡ true
unfolding sensor_ok is_past
sensor_allowed s present h only =
    let past = word s.r (is_past s) in
    let clear : (k : ℕ) → k < s.r → bit k (bit_and present past) ≡ false =
    λ k l. by_test (bit k present)
    (λ b. bit_of_and k present past ∙ ap (λ (x : Bool). bit k present && x) (bit_word k s.r (is_past s) l ∙ ap not (only k b)) ∙ and_false (bit k present) false refl)
    (λ b. bit_of_and k present past ∙ ap (λ (x : Bool). x && bit k past) b) in
    ap₂ ◌&&◌ (lt-ltb present (2 ^ s.r) h) (eq-eqb (bit_and present past) 0 (no_bits s.r (bit_and present past) (and_lt s.r present past h (word_lt s.r (is_past s))) clear))
