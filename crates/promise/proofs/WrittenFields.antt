-- The fields of the file that is written of a set: document 01's fields, read off its bytes, are those that were put one after the other.
-- Assumes nothing.
use mathlib.Core.Path.{◌≡◌, refl, sym, ap, subst, ◌∙◌}
use mathlib.Core.Bool.{Bool, true, false, cond, ◌||◌}
use mathlib.Core.List.{List, [], ◌∷◌, ◌++◌, map, append_assoc, append-nil}
use Prim.Native.Nat.{ℕ, zero, suc, ◌+◌, ◌≤◌, ◌<◌}
use native.Mathlib.Omega.{arith}
use lib.Dec.{eqb, ltb}
use lib.ListN.{length, get_or, take, drop, replicate, length-append, length-map}
use lib.Seq.{take_at, drop_at, length-take-le}
use borrow.Author.Tests.{ne_eqb, le-ltb}
use Rattle.words.proofs.BoolLaws.{clash}
use Rattle.scan.specs.declared.set.ReadPoint.{ReadPoint}
use Rattle.scan.specs.declared.set.OutputPoint.{OutputPoint}
use Rattle.scan.specs.declared.set.Constraint.{Constraint}
use Rattle.scan.specs.declared.set.Set.{Set}
use Rattle.scan.specs.Set.{read_point, output_point, constraint, no_read, no_output, no_constraint}
use Rattle.scan.specs.Shape.{well_formed}
use Rattle.scan.proofs.ShapeLaws.{counts, lengths}
use Rattle.header.specs.Tag.{tag_by, names_high}
use Rattle.writer.specs.Write.{field_of, fields_of, read_body, output_body, constraint_tag, literal_body, read_tag, output_tag, rest_body, rest_field, write_of}
use Rattle.setfile.proofs.LoadWritten.{behind_rest, behind_outputs, behind_reads, behind_counts, file_parts}
use Rattle.promise.specs.Fields.{Fields, ends, cut, field, field_size, fields_from, in_fields, is_whole, tags, bodies, TagBody, constraints_in}
use Rattle.promise.specs.FileSays.{body_of_read, body_of_output, field_of_constraint}
use Rattle.promise.proofs.BodyLiterals.{field_for}

-- ---- one field

module _ (tag : ℕ) (body rest : List ℕ) where
  -- what its header states
  size_said : field_size (field_of tag body ++ rest) ≡ 3 + length body
  size_said = omega arith

  -- A field at the front of what is left.
  field_front : (most at : ℕ) → fields_from (suc most) at (field_of tag body ++ rest) ≡ field at tag body (fields_from most (at + (3 + length body)) rest)
  unfolding fields_from
  field_front most at =
      let left = field_of tag body ++ rest in
      let long = length-append body rest in
      let e = size_said in
      let some : eqb (length left) 0 ≡ false = ne_eqb (length left) 0 (omega arith) in
      let there : ltb (length left) (field_size left) ≡ false = le-ltb (length left) (field_size left) (omega (arith, long, e)) in
      let whole : length (field_of tag body) ≡ field_size left = omega (arith, e) in
      let own : drop 3 (take (field_size left) left) ≡ body = ap (drop 3) (take_at (field_of tag body) rest (field_size left) whole) in
      let next : drop (field_size left) left ≡ rest = drop_at (field_of tag body) rest (field_size left) whole in
      (λ i. cond (some i) (ends at) (cond (there i) (cut at) (field at tag (own i) (fields_from most (at + e i) (next i)))))

-- ---- fields one after the other

-- the tag is a constraint's
abbrev for_constraint : ℕ → Bool
for_constraint tag = eqb tag 0x04 || eqb tag 0x07

-- what is left ends behind a field, and has these tags, these fields of constraints and, for each other tag, these bodies
record Told (left ts : List ℕ) (cs : List TagBody) (bs : ℕ → List (List ℕ)) (most at : ℕ) : Type 0 where
  whole : is_whole (fields_from most at left) ≡ true
  order : tags (fields_from most at left) ≡ ts
  constraints : constraints_in (fields_from most at left) ≡ cs
  others : (wanted : ℕ) → for_constraint wanted ≡ false → bodies wanted (fields_from most at left) ≡ bs wanted

-- from wherever it stands
abbrev Tells : List ℕ → List ℕ → List TagBody → (ℕ → List (List ℕ)) → Type 0
Tells left ts cs bs = (most at : ℕ) → length left < most → Told left ts cs bs most at

-- Nothing is left.
told_none : Tells [] [] [] (λ wanted. [])
unfolding fields_from is_whole tags constraints_in bodies
told_none zero at h = absurd (omega arith)
told_none (suc most) at h = record { whole = refl; order = refl; constraints = refl; others = λ wanted o. refl }

-- the bodies of each tag, with those of this one before them
abbrev more : ℕ → List (List ℕ) → (ℕ → List (List ℕ)) → ℕ → List (List ℕ)
more tag own bs wanted = cond (eqb tag wanted) (own ++ bs wanted) (bs wanted)

-- A field more at the front.
module _ (tag : ℕ) (body rest ts : List ℕ) (cs : List TagBody) (bs : ℕ → List (List ℕ)) (t : Tells rest ts cs bs) where
  -- one of its fields, with those behind it
  front : (most at : ℕ) → length (field_of tag body ++ rest) < suc most
      → (f : Fields) × (fields_from (suc most) at (field_of tag body ++ rest) ≡ field at tag body f)
      × ((is_whole f ≡ true) × (tags f ≡ ts) × (constraints_in f ≡ cs) × ((wanted : ℕ) → for_constraint wanted ≡ false → bodies wanted f ≡ bs wanted))
  front most at h =
      let long = length-append body rest in
      let next = at + (3 + length body) in
      let u = t most next (omega (arith, long)) in
      (fields_from most next rest, field_front tag body rest most at, (u.whole, u.order, u.constraints, u.others))

  -- that of a constraint
  told_constraint : for_constraint tag ≡ true → Tells (field_of tag body ++ rest) (tag ∷ ts) (record { tag = tag; body = body } ∷ cs) bs
  unfolding is_whole tags constraints_in bodies
  told_constraint is zero at h = absurd (omega arith)
  told_constraint is (suc most) at h =
      let f = front most at h in
      let e = f.1 in
      let u = f.2 in
      let own : TagBody = record { tag = tag; body = body } in
      record {
        whole = ap is_whole e ∙ u.0;
        order = ap tags e ∙ ap (λ (l : List ℕ). tag ∷ l) u.1;
        constraints = ap constraints_in e ∙ ap (λ (b : Bool). cond b (own ∷ constraints_in f.0) (constraints_in f.0)) is ∙ ap (λ (l : List TagBody). own ∷ l) u.2;
        others = λ wanted o. ap (bodies wanted) e
            ∙ ap (λ (b : Bool). cond b (body ∷ bodies wanted f.0) (bodies wanted f.0)) (ne_eqb tag wanted (λ same. clash (ap for_constraint (sym same) ∙ is) o)) ∙ u.3 wanted o;
      }

  -- any other
  told_one : for_constraint tag ≡ false → Tells (field_of tag body ++ rest) (tag ∷ ts) cs (more tag (body ∷ []) bs)
  unfolding is_whole tags constraints_in bodies
  told_one is zero at h = absurd (omega arith)
  told_one is (suc most) at h =
      let f = front most at h in
      let e = f.1 in
      let u = f.2 in
      record {
        whole = ap is_whole e ∙ u.0;
        order = ap tags e ∙ ap (λ (l : List ℕ). tag ∷ l) u.1;
        constraints = ap constraints_in e ∙ ap (λ (b : Bool). cond b (record { tag = tag; body = body } ∷ constraints_in f.0) (constraints_in f.0)) is ∙ u.2;
        others = λ wanted o. ap (bodies wanted) e ∙ ap (λ (l : List (List ℕ)). cond (eqb tag wanted) (body ∷ l) l) (u.3 wanted o);
      }

-- The fields of a list's elements at the front, all of one tag that is not a constraint's.
module _ (tag : ℕ) (is : for_constraint tag ≡ false) where
  told_run : {A : Type 0} (tag_of : A → ℕ) → ((p : A) → tag_of p ≡ tag) → (body : A → List ℕ) (ps : List A) (rest ts : List ℕ) (cs : List TagBody) (bs : ℕ → List (List ℕ)) → Tells rest ts cs bs
      → Tells (fields_of tag_of body ps ++ rest) (replicate (length ps) tag ++ ts) cs (more tag (map body ps) bs)
  unfolding fields_of
  told_run tag_of one body [] rest ts cs bs t =
      λ most at h. let u = t most at h in record { whole = u.whole; order = u.order; constraints = u.constraints; others = λ wanted o. u.others wanted o ∙ same (eqb tag wanted) (bs wanted) }
    where
      same : (b : Bool) (l : List (List ℕ)) → l ≡ cond b l l
      same true l = refl
      same false l = refl
  told_run tag_of one body (p ∷ ps) rest ts cs bs t =
      let ts' = replicate (length ps) tag ++ ts in
      let u = told_one tag (body p) (fields_of tag_of body ps ++ rest) ts' cs (more tag (map body ps) bs) (told_run tag_of one body ps rest ts cs bs t) is in
      subst (λ (l : List ℕ). Tells l (tag ∷ ts') cs (more tag (map body (p ∷ ps)) bs))
      (ap (λ (k : ℕ). field_of k (body p) ++ (fields_of tag_of body ps ++ rest)) (sym (one p)) ∙ sym (append_assoc (field_of (tag_of p) (body p)) (fields_of tag_of body ps) rest))
      (λ most at h. let v = u most at h in record { whole = v.whole; order = v.order; constraints = v.constraints; others = λ wanted o. v.others wanted o ∙ once (eqb tag wanted) (bs wanted) })
    where
      once : (b : Bool) (l : List (List ℕ)) → cond b (body p ∷ cond b (map body ps ++ l) l) (cond b (map body ps ++ l) l) ≡ cond b (body p ∷ (map body ps ++ l)) l
      once true l = refl
      once false l = refl

-- either tag of a constraint
tag_is : (wide : Bool) → for_constraint (tag_by wide) ≡ true
tag_is true = refl
tag_is false = refl

-- The fields of constraints at the front.
told_constraints : (ps : List Constraint) (rest ts : List ℕ) (cs : List TagBody) (bs : ℕ → List (List ℕ)) → Tells rest ts cs bs
    → Tells (fields_of constraint_tag literal_body ps ++ rest) (map (λ f. f.tag) (map field_for ps) ++ ts) (map field_for ps ++ cs) bs
unfolding fields_of
told_constraints [] rest ts cs bs t = t
told_constraints (p ∷ ps) rest ts cs bs t =
    subst (λ (l : List ℕ). Tells l (map (λ f. f.tag) (map field_for (p ∷ ps)) ++ ts) (map field_for (p ∷ ps) ++ cs) bs)
    (sym (append_assoc (field_of (constraint_tag p) (literal_body p)) (fields_of constraint_tag literal_body ps) rest))
    (told_constraint (constraint_tag p) (literal_body p) (fields_of constraint_tag literal_body ps ++ rest) _ _ bs (told_constraints ps rest ts cs bs t) (tag_is (names_high p)))

-- ---- the file of a set

-- element k of the bodies of the elements of a list's front
body_at : {A B : Type 0} (body : A → B) (l : List A) (n k : ℕ) (d : A) (e : B) → k < n → n ≤ length l → get_or (map body (take n l) ++ []) k e ≡ body (get_or l k d)
body_at body l zero k d e h few = absurd (omega arith)
body_at body [] (suc n) k d e h few = absurd (omega arith)
body_at body (x ∷ l) (suc n) zero d e h few = refl
body_at body (x ∷ l) (suc n) (suc k) d e h few = body_at body l n k d e (omega arith) (omega arith)

-- the bodies of the fields of a rest word: none for 0
unfoldable pub rest_bodies : ℕ → List (List ℕ)
rest_bodies word = cond (eqb word 0) [] (rest_body word ∷ [])

-- its field, if it has one, is the fields of those
rest_run : (word : ℕ) → rest_field word ≡ fields_of (λ body. 0x06) (λ body. body) (rest_bodies word)
unfolding rest_field fields_of rest_bodies
rest_run word = go (eqb word 0)
  where
    go : (b : Bool) → cond b [] (field_of 0x06 (rest_body word)) ≡ fields_of (λ body. 0x06) (λ body. body) (cond b [] (rest_body word ∷ []))
    go true = refl
    go false = sym (append-nil (field_of 0x06 (rest_body word)))

-- The field of a rest word, or none, at the front.
told_rest : (word : ℕ) (rest ts : List ℕ) (cs : List TagBody) (bs : ℕ → List (List ℕ)) → Tells rest ts cs bs
    → Tells (rest_field word ++ rest) (replicate (length (rest_bodies word)) 0x06 ++ ts) cs (more 0x06 (map (λ body. body) (rest_bodies word)) bs)
told_rest word rest ts cs bs t =
    subst (λ (l : List ℕ). Tells (l ++ rest) (replicate (length (rest_bodies word)) 0x06 ++ ts) cs (more 0x06 (map (λ body. body) (rest_bodies word)) bs)) (sym (rest_run word))
    (told_run 0x06 refl (λ body. 0x06) (λ body. refl) (λ body. body) (rest_bodies word) rest ts cs bs t)

-- bodies as they are
same_bodies : (l : List (List ℕ)) → map (λ body. body) l ++ [] ≡ l
same_bodies [] = refl
same_bodies (x ∷ l) = ap (λ (m : List (List ℕ)). x ∷ m) (same_bodies l)

-- the fields of a set's file
pub record SetFields (file : List ℕ) (s : Set) : Type 0 where
  pub whole : is_whole (in_fields file) ≡ true
  pub order : tags (in_fields file) ≡ 0x01 ∷ replicate s.r 0x02 ++ replicate s.n 0x03 ++ replicate (length (rest_bodies s.rest)) 0x06 ++ map (λ f. f.tag) (constraints_in (in_fields file)) ++ 0x05 ∷ []
  pub many : length (constraints_in (in_fields file)) ≡ s.m
  pub rests : bodies 0x06 (in_fields file) ≡ rest_bodies s.rest
  pub counts : bodies 0x01 (in_fields file) ≡ (s.r ∷ s.n ∷ []) ∷ []
  pub read_body_law : (k : ℕ) → k < s.r → body_of_read file k ≡ read_body (read_point s.reads k)
  pub output_body_law : (j : ℕ) → j < s.n → body_of_output file j ≡ output_body (output_point s.outputs j)
  pub constraint_field : (i : ℕ) → i < s.m → field_of_constraint file i ≡ field_for (constraint s i)

module _ (s : Set) (ok : well_formed s ≡ true) where
  abbrev reads_used : List ReadPoint
  reads_used = take s.r s.reads

  abbrev outputs_used : List OutputPoint
  outputs_used = take s.n s.outputs

  abbrev constraints_used : List Constraint
  constraints_used = take s.m s.constraints

  -- the tags
  abbrev tags_put : List ℕ
  tags_put =
      0x01 ∷ (replicate (length reads_used) 0x02 ++ (replicate (length outputs_used) 0x03 ++ (replicate (length (rest_bodies s.rest)) 0x06
      ++ (map (λ f. f.tag) (map field_for constraints_used) ++ (0x05 ∷ [])))))

  -- the fields of constraints
  abbrev constraints_put : List TagBody
  constraints_put = map field_for constraints_used ++ []

  -- the bodies of each other tag
  abbrev bodies_put : ℕ → List (List ℕ)
  bodies_put =
      more 0x01 ((s.r ∷ s.n ∷ []) ∷ []) (more 0x02 (map read_body reads_used) (more 0x03 (map output_body outputs_used)
      (more 0x06 (map (λ body. body) (rest_bodies s.rest)) (more 0x05 ([] ∷ []) (λ wanted. [])))))

  -- The file is its fields one after the other.
  file_told : Tells (write_of s) tags_put constraints_put bodies_put
  file_told =
      subst (λ (file : List ℕ). Tells file tags_put constraints_put bodies_put) (sym (file_parts s))
      (told_one 0x01 (s.r ∷ s.n ∷ []) (behind_counts s) _ _ _
      (told_run 0x02 refl read_tag (λ p. refl) read_body reads_used (behind_reads s) _ _ _ (told_run 0x03 refl output_tag (λ p. refl) output_body outputs_used (behind_outputs s) _ _ _
      (told_rest s.rest (behind_rest s) _ _ _
      (told_constraints constraints_used (field_of 0x05 []) _ _ _ (told_one 0x05 [] [] [] [] (λ wanted. []) told_none refl))))) refl)

  fields_told : Told (write_of s) tags_put constraints_put bodies_put (suc (length (write_of s))) 0
  fields_told = file_told (suc (length (write_of s))) 0 (omega arith)

  -- the counts are the numbers of elements
  tags_put_law : tags_put ≡ 0x01 ∷ replicate s.r 0x02 ++ replicate s.n 0x03 ++ replicate (length (rest_bodies s.rest)) 0x06 ++ map (λ f. f.tag) (map field_for constraints_used) ++ 0x05 ∷ []
  tags_put_law =
      let c = counts s ok in
      let l = lengths s ok in
      rw (
        length-take-le s.r s.reads (omega (arith, c.r_le, l.0)),
        length-take-le s.n s.outputs (omega (arith, c.n_le, l.1)),
      ) (sym (simp append_assoc))

  -- The file of a well-formed set has the fields of its parts.
  pub written_fields : SetFields (write_of s) s
  unfolding constraint in_fields
  written_fields =
      let c = counts s ok in
      let l = lengths s ok in
      let f = fields_told in
      let own : constraints_in (in_fields (write_of s)) ≡ map field_for constraints_used = f.constraints ∙ append-nil (map field_for constraints_used) in
      record {
        whole = f.whole;
        order =
            f.order ∙ tags_put_law
            ∙ ap (λ (x : List TagBody). 0x01 ∷ replicate s.r 0x02 ++ replicate s.n 0x03 ++ replicate (length (rest_bodies s.rest)) 0x06 ++ map (λ f. f.tag) x ++ 0x05 ∷ []) (sym own);
        many = ap length own ∙ length-map constraints_used field_for ∙ length-take-le s.m s.constraints (omega (arith, c.m_le, l.2));
        rests = f.others 0x06 refl ∙ same_bodies (rest_bodies s.rest);
        counts = f.others 0x01 refl;
        read_body_law = λ k h. ap (λ (x : List (List ℕ)). get_or x k []) (f.others 0x02 refl) ∙ body_at read_body s.reads s.r k no_read [] h (omega (arith, c.r_le, l.0));
        output_body_law = λ k h. ap (λ (x : List (List ℕ)). get_or x k []) (f.others 0x03 refl) ∙ body_at output_body s.outputs s.n k no_output [] h (omega (arith, c.n_le, l.1));
        constraint_field = λ k h.
            ap (λ (x : List TagBody). get_or x k (record { tag = 0; body = [] })) f.constraints
            ∙ body_at field_for s.constraints s.m k no_constraint (record { tag = 0; body = [] }) h (omega (arith, c.m_le, l.2));
      }
