-- No test of the column of loading has the number 0, so that 0 can say that a file loads.
-- Assumes nothing.
use mathlib.Core.Path.{◌≡◌, subst}
use mathlib.Core.Bool.{Bool, true, false, cond}
use mathlib.Core.List.{List, [], ◌∷◌, ◌++◌}
use mathlib.Core.Logic.{inl, inr}
use Prim.Native.Nat.{ℕ, zero, suc, ◌+◌, ◌<◌}
use native.Mathlib.Omega.{arith}
use lib.Dec.{eqb}
use lib.ListN.{get_or, drop}
use Rattle.header.specs.Test.{Test, FirstFails}
use Rattle.promise.specs.Fields.{Fields, in_fields}
use Rattle.promise.specs.Fields.Fields.{ends, cut, field}
use Rattle.promise.specs.Column.{Given, missing, head_tests, name_tests, read_tests, in_twos, in_threes, literal_tests, body_tests, in_order, end_tests, constraints_tests, rest_tests, outputs_tests, reads_tests, counts_tests, load_tests}
use Rattle.promise.proofs.ColumnLaws.{load_refused}
use Rattle.loader.specs.Load.{load_of}
use Rattle.loader.specs.Told.{load_told}

-- every test of a column has a number above 0
abbrev Numbered : List Test → Type 0
Numbered [] = Unit {0}
Numbered (t ∷ column) = (0 < t.number) × Numbered column

-- so the first that fails has
numbered_first : (column : List Test) (c o : ℕ) → Numbered column → FirstFails column c o → 0 < c
numbered_first [] c o n x = absurd x
numbered_first (t ∷ column) c o n (inl x) = subst (λ (k : ℕ). 0 < k) x.1 n.0
numbered_first (t ∷ column) c o n (inr x) = numbered_first column c o n.1 x.1

-- one column behind another, and one or the other
joined : (a b : List Test) → Numbered a → Numbered b → Numbered (a ++ b)
joined [] b n m = m
joined (t ∷ a) b n m = (n.0, joined a b n.1 m)

either : (q : Bool) (a b : List Test) → Numbered a → Numbered b → Numbered (cond q a b)
either true a b n m = n
either false a b n m = m

-- ---- the columns of a field

missing_numbered : (at : ℕ) → Numbered (missing at)
missing_numbered at = (omega arith, tt)

head_numbered : (at : ℕ) (due full : Bool) (tag : ℕ) (body : List ℕ) → Numbered (head_tests at due full tag body)
unfolding head_tests
head_numbered at due full tag body = (omega arith, (omega arith, (omega arith, (omega arith, tt))))

name_numbered : (at : ℕ) (names : List (List ℕ)) (bytes : List ℕ) → Numbered (name_tests at names bytes)
unfolding name_tests
name_numbered at names bytes = (omega arith, (omega arith, tt))

read_numbered : (at n : ℕ) (kinds : List ℕ) (names : List (List ℕ)) (body : List ℕ) → Numbered (read_tests at n kinds names body)
unfolding read_tests
read_numbered at n kinds names body = (omega arith, name_numbered at names (drop 2 body))

literal_numbered : (at r n next : ℕ) (given : List Given) → Numbered (literal_tests at r n next given)
unfolding literal_tests
literal_numbered at r n next [] = tt
literal_numbered at r n next (l ∷ rest) = (omega arith, (omega arith, literal_numbered at r n (in_order l + 1) rest))

body_numbered : (at r n tag : ℕ) (body : List ℕ) → Numbered (body_tests at r n tag body)
unfolding body_tests
body_numbered at r n tag body =
    either (eqb tag 0x07) _ _
    (joined (literal_tests at r n 0 (in_threes body)) _ (literal_numbered at r n 0 (in_threes body)) (omega arith, (omega arith, tt)))
    (joined (literal_tests at r n 0 (in_twos body)) _ (literal_numbered at r n 0 (in_twos body)) (omega arith, tt))

end_numbered : (fields : Fields) → Numbered (end_tests fields)
unfolding end_tests
end_numbered (ends at) = tt
end_numbered (cut at) = (omega arith, tt)
end_numbered (field at tag body rest) = (omega arith, tt)

-- ---- field after field

constraints_numbered : (r n m : ℕ) (fields : Fields) → Numbered (constraints_tests r n m fields)
unfolding constraints_tests
constraints_numbered r n m (ends at) = missing_numbered at
constraints_numbered r n m (cut at) = missing_numbered at
constraints_numbered r n m (field at tag body rest) =
    joined (head_tests at _ _ tag body) _ (head_numbered at _ _ tag body)
    (either (eqb tag 0x05) _ _ (end_numbered rest) (joined (body_tests at r n tag body) _ (body_numbered at r n tag body) (constraints_numbered r n (m + 1) rest)))

rest_numbered : (r n : ℕ) (fields : Fields) → Numbered (rest_tests r n fields)
unfolding rest_tests
rest_numbered r n (ends at) = missing_numbered at
rest_numbered r n (cut at) = missing_numbered at
rest_numbered r n (field at tag body rest) =
    either (eqb tag 0x06) _ _
    (joined (head_tests at true false tag body) _ (head_numbered at true false tag body) (omega arith, constraints_numbered r n 0 rest))
    (constraints_numbered r n 0 (field at tag body rest))

outputs_numbered : (left r n : ℕ) (names : List (List ℕ)) (fields : Fields) → Numbered (outputs_tests left r n names fields)
unfolding outputs_tests
outputs_numbered zero r n names fields = rest_numbered r n fields
outputs_numbered (suc left) r n names (ends at) = missing_numbered at
outputs_numbered (suc left) r n names (cut at) = missing_numbered at
outputs_numbered (suc left) r n names (field at tag body rest) =
    joined (head_tests at (eqb tag 0x03) false tag body) _ (head_numbered at (eqb tag 0x03) false tag body)
    (joined (name_tests at names body) _ (name_numbered at names body) (outputs_numbered left r n _ rest))

reads_numbered : (left r n : ℕ) (kinds : List ℕ) (names : List (List ℕ)) (fields : Fields) → Numbered (reads_tests left r n kinds names fields)
unfolding reads_tests
reads_numbered zero r n kinds names fields = outputs_numbered n r n names fields
reads_numbered (suc left) r n kinds names (ends at) = missing_numbered at
reads_numbered (suc left) r n kinds names (cut at) = missing_numbered at
reads_numbered (suc left) r n kinds names (field at tag body rest) =
    joined (head_tests at (eqb tag 0x02) false tag body) _ (head_numbered at (eqb tag 0x02) false tag body)
    (joined (read_tests at n kinds names body) _ (read_numbered at n kinds names body) (reads_numbered left r n _ _ rest))

counts_numbered : (fields : Fields) → Numbered (counts_tests fields)
unfolding counts_tests
counts_numbered (ends at) = missing_numbered at
counts_numbered (cut at) = missing_numbered at
counts_numbered (field at tag body rest) =
    joined (head_tests at (eqb tag 0x01) false tag body) _ (head_numbered at (eqb tag 0x01) false tag body)
    (omega arith, reads_numbered (get_or body 0 0) (get_or body 0 0) (get_or body 1 0) [] [] rest)

-- no refusal of a file has the number 0
pub refusal_numbered : (file : List ℕ) (c o : ℕ) → load_told (load_of file).answer ≡ c ∷ o ∷ [] → 0 < c
unfolding load_tests
refusal_numbered file c o e = numbered_first (load_tests file) c o (counts_numbered (in_fields file)) ((load_refused file c o).0 e)
