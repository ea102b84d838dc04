-- The file of a well-formed set is a list of bytes.
-- Assumes nothing.
use mathlib.Core.Path.{◌≡◌, sym, subst}
use mathlib.Core.Bool.{Bool, true, false, cond}
use mathlib.Core.List.{List, [], ◌∷◌, ◌++◌}
use Prim.Native.Nat.{ℕ, zero, suc, ◌+◌, ◌/◌, ◌%◌, ◌^◌, ◌≤◌, ◌<◌}
use native.Mathlib.Omega.{arith}
use lib.Dec.{ltb, leb, eqb}
use lib.ListN.{length, get_or, take, length-take}
use lib.Seq.{get_or-take}
use borrow.Author.Tests.{ltb-true, leb-true}
use Rattle.words.specs.Loop.{joined}
use Rattle.words.specs.Word.{bit}
use Rattle.words.proofs.BoolLaws.{and_true}
use Rattle.words.proofs.LoopLaws.{all_at}
use Rattle.scan.specs.declared.set.Kind.{Kind}
use Rattle.scan.specs.declared.set.Kind.TheVariants.{Sensor, PastOutput, PastSensor}
use Rattle.scan.specs.declared.set.ReadPoint.{ReadPoint}
use Rattle.scan.specs.declared.set.Constraint.{Constraint}
use Rattle.scan.specs.declared.set.Set.{Set}
use Rattle.scan.specs.Set.{most_reads, most_outputs, read_point, output_point, constraint, no_read, no_output, no_constraint}
use Rattle.scan.specs.Names.{name_byte, all_name_bytes, name_bytes, name_ok}
use Rattle.scan.specs.Shape.{is_sensor, kind_ok, well_formed}
use Rattle.scan.proofs.ShapeLaws.{Masks, rank_lt, counts, rest_lt, masks, wide, points_formed}
use Rattle.scan.proofs.NamesLaws.{name_formed, bytes_named}
use Rattle.header.specs.Bytes.{Bytes}
use Rattle.header.specs.Tag.{tag_by, names_high}
use Rattle.header.specs.Header.{longest}
use Rattle.writer.specs.Write.{field_of, kind_bytes, read_body, output_body, literal_bytes, read_literal, output_literal, literals_by, constraint_tag, literal_body, read_tag, output_tag, fields_of, rest_body, rest_field, write_of}
use Rattle.setfile.proofs.LiteralPlaces.{mask, by_four}
use Rattle.setfile.proofs.BodyPlaces.{worth}
use Rattle.setfile.proofs.LiteralBytes.{flags, told, literal}
use Rattle.header.proofs.HeaderLaws.{table_bounds}
use Rattle.setfile.proofs.PointsFit.{read_fits, output_fits}
use Rattle.setfile.proofs.PointKinds.{reads_give, outputs_give}
use Rattle.setfile.proofs.ConstraintRuns.{body_fits}
use Rattle.setfile.proofs.LoadWritten.{behind_rest, behind_outputs, behind_reads, behind_counts, file_parts}

-- ---- lists of bytes

none : Bytes []
none k h = absurd (omega arith)

more : (x : ℕ) (l : List ℕ) → x < 256 → Bytes l → Bytes (x ∷ l)
more x l h b zero w = h
more x l h b (suc k) w = b k (omega arith)

two : (x y : ℕ) → x < 256 → y < 256 → Bytes (x ∷ y ∷ [])
two x y h l = more x (y ∷ []) h (more y [] l none)

both : (a b : List ℕ) → Bytes a → Bytes b → Bytes (a ++ b)
both [] b f g = g
both (x ∷ a) b f g = more x (a ++ b) (f 0 (omega arith)) (both a b (λ k h. f (suc k) (omega arith)) g)

of_field : (tag : ℕ) (body : List ℕ) → tag < 256 → length body ≤ 72 → Bytes body → Bytes (field_of tag body)
of_field tag body h l b =
    more tag (length body / 256 ∷ length body % 256 ∷ body) h (more (length body / 256) (length body % 256 ∷ body) (omega arith) (more (length body % 256) body (omega arith) b))

of_fields : {A : Type 0} (tag : A → ℕ) (body : A → List ℕ) (d : A) (l : List A) → ((p : A) → tag p < 256) → ((k : ℕ) → k < length l → (length (body (get_or l k d)) ≤ 72) × Bytes (body (get_or l k d))) → Bytes (fields_of tag body l)
unfolding fields_of
of_fields tag body d [] h f = none
of_fields tag body d (p ∷ l) h f =
    both (field_of (tag p) (body p)) (fields_of tag body l) (of_field (tag p) (body p) (h p) (f 0 (omega arith)).0 (f 0 (omega arith)).1)
    (of_fields tag body d l h (λ k w. f (suc k) (omega arith)))

-- of the first N elements of a list
of_first : {A : Type 0} (tag : A → ℕ) (body : A → List ℕ) (d : A) (l : List A) (N : ℕ) → ((p : A) → tag p < 256) → ((k : ℕ) → k < N → (length (body (get_or l k d)) ≤ 72) × Bytes (body (get_or l k d)))
    → Bytes (fields_of tag body (take N l))
of_first tag body d l N h f =
    of_fields tag body d (take N l) h
    (λ k w. let e = length-take N l in let v : k < N = omega arith in
    subst (λ p. (length (body p) ≤ 72) × Bytes (body p)) (sym (get_or-take N l k d v)) (f k v))

-- ---- bodies

of_name : (name : List ℕ) → name_ok name ≡ true → Bytes (name_bytes name)
unfolding all_name_bytes name_byte
of_name name ok k h =
    let b = get_or (name_bytes name) k 0 in
    let t = all_at (length (name_bytes name)) (λ j. name_byte (get_or (name_bytes name) j 0)) (bytes_named name (name_formed name ok)) k h in
    let l : b ≤ 0x7E = leb-true b 0x7E (and_true (leb 0x21 b) (leb b 0x7E) t).1 in
    omega arith

of_kind : (reads : List ReadPoint) (n k : ℕ) (x : Kind) → n ≤ most_outputs → k < most_reads → kind_ok reads n k x ≡ true → Bytes (kind_bytes x)
unfolding kind_ok
of_kind reads n k Sensor h l e = two 0 0 (omega arith) (omega arith)
of_kind reads n k (PastOutput i) h l e = let w = ltb-true i n e in two 1 i (omega arith) (omega arith)
of_kind reads n k (PastSensor i) h l e =
    let w = ltb-true i k (and_true (ltb i k) (is_sensor (read_point reads i).kind) e).0 in two 2 i (omega arith) (omega arith)

-- a number that leaves bits 6 and 7 free, as that of every point does
of_literal : (wide : Bool) (k x : ℕ) → k < 64 → x < 256 → (o g : Bool) → Bytes (literal_bytes wide (flags o g) k x)
of_literal true k x h l o g = more (flags o g) (k ∷ x ∷ []) (by_four (λ (o g : Bool). flags o g < 256) (omega arith) (omega arith) (omega arith) (omega arith) o g) (two k x (omega arith) l)
of_literal false k x h l o g = two (flags o g + k) x (by_four (λ (o g : Bool). flags o g + k < 256) (omega arith) (omega arith) (omega arith) (omega arith) o g) l

of_told : (wide o p q : Bool) (k x : ℕ) → k < 64 → x < 256 → Bytes (told wide o p q k x)
of_told wide o true q k x h l = of_literal wide k x h l o false
of_told wide o false true k x h l = of_literal wide k x h l o true
of_told wide o false false k x h l = none

of_joined : (N : ℕ) (f : ℕ → List ℕ) → ((k : ℕ) → k < N → Bytes (f k)) → Bytes (joined N f)
unfolding joined
of_joined zero f h = none
of_joined (suc N) f h = both (joined N f) (f N) (of_joined N f (λ k w. h k (omega arith))) (h N (omega arith))

of_literals : (wide : Bool) (r n : ℕ) (c : Constraint) → Masks r n c → Bytes (literals_by wide c)
unfolding literals_by read_literal output_literal
of_literals wide r n c m =
    both (joined most_reads (literal wide c false)) (joined most_outputs (literal wide c true))
    (of_joined most_reads (literal wide c false) (λ k h. of_told wide false (bit k (mask false false c)) (bit k (mask false true c)) k 0 (omega arith) (omega arith)))
    (of_joined most_outputs (literal wide c true) (λ k h. of_told wide true (bit k (mask true false c)) (bit k (mask true true c)) k (worth true c k) (omega arith) (rank_lt c k (m.ranks_ok k h))))

of_tag : (wide : Bool) → (tag_by wide < 256) × (longest (tag_by wide) ≤ 72)
of_tag true = (omega arith, omega arith)
of_tag false = (omega arith, omega arith)

of_rest : (word : ℕ) → word < 2 ^ 16 → Bytes (rest_field word)
unfolding rest_field
of_rest word h = go (eqb word 0)
  where
    field : List ℕ
    field = field_of 6 (rest_body word)

    go : (b : Bool) → Bytes (cond b [] field)
    go true = none
    go false = of_field 6 (rest_body word) (omega arith) (omega arith) (two (word / 256) (word % 256) (omega arith) (omega arith))

-- The file of a well-formed set is a list of bytes.
pub written_bytes : (s : Set) → well_formed s ≡ true → Bytes (write_of s)
unfolding constraint
written_bytes s ok =
    let c = counts s ok in
    let p = points_formed s ok in
    let few = c.r_le in
    let low = c.n_le in
    subst Bytes (sym (file_parts s))
    (both (field_of 1 (s.r ∷ s.n ∷ [])) (behind_counts s) (of_field 1 (s.r ∷ s.n ∷ []) (omega arith) (omega arith) (two s.r s.n (omega arith) (omega arith)))
    (both (fields_of read_tag read_body (take s.r s.reads)) (behind_reads s)
    (of_first read_tag read_body no_read s.reads s.r (λ p. omega arith)
    (λ k h. let f = read_fits s.n s.reads k (p.read_ok_law k h) in
    let q = read_point s.reads k in
    let w = (table_bounds 2 (length (read_body q)) (reads_give [] s.r s.n s.reads k q f).0).1 in
    (omega (arith, w), both (kind_bytes q.kind) (name_bytes q.name) (of_kind s.reads s.n k q.kind low (omega arith) f.kind_ok_law) (of_name q.name f.name_ok_law))))
    (both (fields_of output_tag output_body (take s.n s.outputs)) (behind_outputs s)
    (of_first output_tag output_body no_output s.outputs s.n (λ p. omega arith)
    (λ k h. let f = output_fits s.reads s.r s.outputs k (p.output_ok_law k h) in
    let q = output_point s.outputs k in
    let w = (table_bounds 3 (length (output_body q)) (outputs_give [] s.r s.n s.reads s.outputs k q f).0).1 in
    (omega (arith, w), of_name q.name f.name_ok_law)))
    (both (rest_field s.rest) (behind_rest s) (of_rest s.rest (wide s ok s.rest (rest_lt s ok)))
    (both (fields_of constraint_tag literal_body (take s.m s.constraints)) (field_of 5 [])
    (of_first constraint_tag literal_body no_constraint s.constraints s.m (λ c. (of_tag (names_high c)).0)
    (λ k h. let m = masks s ok k h in
    let q = get_or s.constraints k no_constraint in
    let w = (table_bounds (constraint_tag q) (length (literal_body q)) (body_fits s.r s.n q c.r_le c.n_le c.sum_le m)).1 in
    (omega (arith, w, (of_tag (names_high q)).1), of_literals (names_high q) s.r s.n q m)))
    (of_field 5 [] (omega arith) (omega arith) none))))))
