-- `prepared::putting::put_head` meets its contract. Assumes nothing.
use mathlib.Core.Path.{◌≡◌, sym, ap, ◌∙◌}
use mathlib.Core.List.{List}
use Prim.Native.Nat.{ℕ, ◌+◌, ◌%◌, ◌<◌}
use native.Mathlib.Omega.{arith}
use lib.ListN.{get_or, set}
use Rattle.scan.specs.declared.set.Set.{Set}
use Rattle.prepared.specs.Put.{prepared_bytes, digit, head_bytes, byte_of, up_to}
use Rattle.prepared.proofs.FilledLaws.{filled_more}
use Rattle.prepared.proofs.PutLaws.{head_at}
use Rattle.prepared.proofs.putting.put_head.Goals as goal

-- the five bytes of a head, one after the other
five : (s : Set) (out : List ℕ) (a b c d e : ℕ) → a ≡ s.r % 256 → b ≡ s.n % 256 → c ≡ s.m % 256 → d ≡ digit s.rest 0 → e ≡ digit s.rest 1
    → out ≡ up_to s 0 → set (set (set (set (set out 0 a) 1 b) 2 c) 3 d) 4 e ≡ up_to s 5
five s out a b c d e pa pb pc pd pe none =
    put 4 e _ (omega arith) pe (put 3 d _ (omega arith) pd (put 2 c _ (omega arith) pc (put 1 b _ (omega arith) pb (put 0 a out (omega arith) pa none))))
  where
    put : (i x : ℕ) (l : List ℕ) → i < 5 → x ≡ get_or (head_bytes s) i 0 → l ≡ up_to s i → set l i x ≡ up_to s (i + 1)
    put i x l h told same = filled_more prepared_bytes 0 (byte_of s) l i x (omega arith) same (told ∙ head_at s i h)

pub returns : goal.returns
returns c =
    let third = c in
    let second = third in
    let first = second in
    let a = first.args in
    let r : first.count_byte.result ≡ a.r % 256 = first.count_byte.ensures in
    let n : second.count_byte-2.result ≡ a.n % 256 = second.count_byte-2.ensures in
    let m : third.count_byte-3.result ≡ a.m % 256 = third.count_byte-3.ensures in
    let low : c.digit_of.result ≡ digit a.rest 0 = c.digit_of.ensures in
    let high : c.digit_of-2.result ≡ digit a.rest 1 = c.digit_of-2.ensures in
    λ s er en em ew. five s _ _ _ _ _ _
    (r ∙ ap (λ (x : ℕ). x % 256) (sym er)) (n ∙ ap (λ (x : ℕ). x % 256) (sym en)) (m ∙ ap (λ (x : ℕ). x % 256) (sym em))
    (low ∙ ap (λ (x : ℕ). digit x 0) (sym ew)) (high ∙ ap (λ (x : ℕ). digit x 1) (sym ew))
