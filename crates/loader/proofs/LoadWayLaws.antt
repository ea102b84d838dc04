-- The code's way of loading is that of the definitions: steps over fields, lists of pasts and of names, and how far a load has come.
-- Assumes nothing.
use mathlib.Core.Path.{◌≡◌, refl, sym, ◌∙◌, ap, ap₂, fun_ext}
use mathlib.Core.Bool.{Bool, true, false, cond, not}
use mathlib.Core.List.{List, [], ◌∷◌, map}
use Prim.Native.Nat.{ℕ, zero, suc, ◌+◌, ◌-◌, ◌≤◌, ◌<◌, min}
use native.Mathlib.Nat.{min-eq_left}
use native.Mathlib.Omega.{arith}
use lib.Dec.{eqb, lit≤}
use lib.ListN.{length, take, drop, get_or, set, replicate, length-set, get_or-map}
use Rattle.words.specs.Loop.{first, first_from}
use Rattle.scan.specs.declared.set.ReadPoint.{ReadPoint}
use Rattle.scan.specs.declared.set.OutputPoint.{OutputPoint}
use Rattle.scan.specs.declared.set.Set.{Set}
use Rattle.scan.specs.Set.{most_reads, most_outputs, zero_name, zero_read, zero_output, zero_set, no_read, read_point}
use Rattle.scan.specs.Names.{first_output, is_used}
use Rattle.scan.specs.Shape.{is_sensor}
use Rattle.shape.specs.way.Names.{name_used, ReadNames, OutputNames}
use Rattle.shape.proofs.NamesWayLaws.{read_stored, output_stored, read_zeros, output_zeros}
use Rattle.shape.proofs.ShapeWayLaws.{used_names}
use Rattle.std.specs.Prelude.{Result, Ok}
use Rattle.header.specs.declared.numbers.Refusal.{Refusal}
use Rattle.header.specs.declared.reader.FrontField.{FrontField}
use Rattle.header.specs.Fault.{number, Taken, Refused as Denied, Good}
use Rattle.header.specs.Header.{Header, Refused as Stopped, Field, header_of, front_of, body_of}
use Rattle.header.specs.way.Header.{front_told}
use Rattle.header.proofs.HeaderLaws.{front_place, front_there}
use Rattle.loader.specs.Load.{field_done, field_by, name_field, read_field, sensor_at, read_of, with_read, read_at, output_of, with_output, output_at, rest_word, rest_good, rest_at, going_on}
use Rattle.loader.specs.way.Load.{Step, numbered, not_past, Pasts, if_taken, name_given, read_given, rest_given, step_done, step_by, rest_place, brought, reached_by, points_set, rested_set}
use Rattle.loader.proofs.LoadLaws.{body_at}

-- ---- steps

-- by the field that code found at its place
module _ {A : Type 0} (s : List ℕ) (at due : ℕ) (got : List ℕ → Result A ℕ) where
  -- what code gets from the field's body is what the definitions get
  pub step_body : (f : FrontField) → front_told (Ok f) ≡ front_of s at due 0
      → (x : Result A ℕ) → x ≡ got (body_of (drop f.at s) f.len) → step_done f.at (f.at + 3 + f.len) x ≡ step_by s at got (header_of (drop at s) due 0)
  step_body f e x g =
      let z = front_place s at due 0 f e in
      ap₂ (λ (k : ℕ) (y : Result A ℕ). step_done k (k + 3 + f.len) y) z (g ∙ ap (λ (k : ℕ). got (body_of (drop k s) f.len)) z)
      ∙ ap (step_by s at got) (sym (front_there s at due 0 f e))

  -- the body as a part of the slice
  pub step_taken : (f : FrontField) → front_told (Ok f) ≡ front_of s at due 0
      → (x : Result A ℕ) → x ≡ got (take (f.at + 3 + f.len - (f.at + 3)) (drop (f.at + 3) s)) → step_done f.at (f.at + 3 + f.len) x ≡ step_by s at got (header_of (drop at s) due 0)
  step_taken f e x g = step_body f e x (g ∙ ap got (body_at s f.at f.len))

-- ---- points so far: the read points beside their names and the list of pasts

pub record ReadsKnown (names : List (List ℕ)) (pasts : List Bool) (reads : List ReadPoint) : Type 0 where
  pub named : ReadNames names reads
  pub past : Pasts pasts reads
  pub names_long : length names ≡ most_reads
  pub reads_long : length reads ≡ most_reads

pub reads_none : ReadsKnown (replicate most_reads zero_name) (replicate most_reads false) (replicate most_reads zero_read)
unfolding zero_set
reads_none = record { named = read_zeros; past = refl; names_long = refl; reads_long = refl }

map_set : {A B : Type 0} (f : A → B) (l : List A) (i : ℕ) (x : A) → map f (set l i x) ≡ set (map f l) i (f x)
map_set f [] i x = refl
map_set f (y ∷ l) zero x = refl
map_set {B = B} f (y ∷ l) (suc i) x = ap (λ (t : List B). f y ∷ t) (map_set f l i x)

-- one more
pub reads_more : (names : List (List ℕ)) (pasts : List Bool) (reads : List ReadPoint) (i : ℕ) (p : ReadPoint) (sensor : Bool) → i < most_reads → sensor ≡ is_sensor p.kind
    → ReadsKnown names pasts reads → ReadsKnown (set names i p.name) (set pasts i (not sensor)) (set reads i p)
reads_more names pasts reads i p sensor h e k = record {
  named = read_stored names reads i p (omega (arith, k.names_long)) (omega (arith, k.reads_long)) k.named;
  past = ap₂ (λ (x : List Bool) (b : Bool). set x i (not b)) k.past e ∙ sym (map_set (λ (q : ReadPoint). not (is_sensor q.kind)) reads i p);
  names_long = length-set names i p.name ∙ k.names_long;
  reads_long = length-set reads i p ∙ k.reads_long;
}

pub record OutputsKnown (own : List (List ℕ)) (outputs : List OutputPoint) : Type 0 where
  pub named : OutputNames own outputs
  pub own_long : length own ≡ most_outputs
  pub outputs_long : length outputs ≡ most_outputs

pub outputs_none : OutputsKnown (replicate most_outputs zero_name) (replicate most_outputs zero_output)
unfolding zero_set
outputs_none = record { named = output_zeros; own_long = refl; outputs_long = refl }

pub outputs_more : (own : List (List ℕ)) (outputs : List OutputPoint) (j : ℕ) (p : OutputPoint) → j < most_outputs
    → OutputsKnown own outputs → OutputsKnown (set own j p.name) (set outputs j p)
outputs_more own outputs j p h k = record {
  named = output_stored own outputs j p (omega (arith, k.own_long)) (omega (arith, k.outputs_long)) k.named;
  own_long = length-set own j p.name ∙ k.own_long;
  outputs_long = length-set outputs j p ∙ k.outputs_long;
}

-- ---- a step brings a load as far as its field does

not_not : (b : Bool) → not (not b) ≡ b
not_not true = refl
not_not false = refl

-- a list that says which read points are pasts says which are sensors
sensors_known : (pasts : List Bool) (reads : List ReadPoint) → Pasts pasts reads → (k : ℕ) → not_past pasts k ≡ sensor_at reads k
sensors_known pasts reads e k =
    ap (λ (l : List Bool). not (get_or l k false)) e ∙ ap not (get_or-map (λ (p : ReadPoint). not (is_sensor p.kind)) reads k no_read)
    ∙ not_not (is_sensor (read_point reads k).kind)

-- no output is looked at
no_outputs : (reads : List ReadPoint) (i : ℕ) (a b : List OutputPoint) (name : List ℕ) → is_used reads i a 0 name ≡ is_used reads i b 0 name
unfolding is_used first_output first first_from
no_outputs reads i a b name = refl

by_body : {A : Type 0} (at len : ℕ) (t : Taken) (x : A) (made : A → Set) → brought (step_done at (at + 3 + len) (if_taken t x)) made ≡ field_done at len t (made x)
by_body at len (Denied number) x made = refl
by_body at len Good x made = refl

module _ (s : List ℕ) (at : ℕ) (base : Set) where
  pub read_stepped : (names own : List (List ℕ)) (pasts : List Bool) (i : ℕ) (x : Result (ReadPoint × ℕ) Refusal) → ReadNames names base.reads → Pasts pasts base.reads
      → own ≡ replicate most_outputs zero_name → i ≤ most_reads
      → numbered x ≡ step_by s at (λ body. read_given (read_field base.n (not_past pasts) (name_used names (min i most_reads) own 0) i body)) (header_of (drop at s) 2 0)
      → read_at s at base i ≡ reached_by x (with_read base i)
  unfolding read_at read_of zero_set
  read_stepped names own pasts i x named past none h e =
      let used : name_used names (min i most_reads) own 0 ≡ is_used base.reads i base.outputs 0 =
      fun_ext (λ (name : List ℕ). ap₂ (λ (x : ℕ) (y : List (List ℕ)). name_used names x y 0 name) (min-eq_left h) none
      ∙ used_names names base.reads named (replicate most_outputs zero_name) zero_set.outputs output_zeros i 0 name h (lit≤ tt)
      ∙ no_outputs base.reads i zero_set.outputs base.outputs name) in
      let got : numbered x ≡ step_by s at (λ body. read_given (read_of base i body)) (header_of (drop at s) 2 0) =
      e ∙ ap₂ (λ (x : ℕ → Bool) (y : List ℕ → Bool). step_by s at (λ body. read_given (read_field base.n x y i body)) (header_of (drop at s) 2 0)) (fun_ext (sensors_known pasts base.reads past)) used in
      sym (ap (λ (g : Step ReadPoint). brought g (with_read base i)) got ∙ go (header_of (drop at s) 2 0))
    where
      go : (h : Header) → brought (step_by s at (λ body. read_given (read_of base i body)) h) (with_read base i)
          ≡ field_by s at (λ body. (read_of base i body).taken) (λ body. with_read base i (read_of base i body).read) h
      go (Stopped number) = refl
      go (Field tag len) = let f = read_of base i (body_of (drop at s) len) in by_body at len f.taken f.read (with_read base i)

  pub output_stepped : (names own : List (List ℕ)) (j : ℕ) (x : Result (List ℕ × ℕ) Refusal) → ReadNames names base.reads → OutputNames own base.outputs → base.r ≤ most_reads → j ≤ most_outputs
      → numbered x ≡ step_by s at (λ body. name_given (name_field (name_used names (min base.r most_reads) own (min j most_outputs)) body)) (header_of (drop at s) 3 0)
      → output_at s at base j ≡ reached_by x (with_output base j)
  unfolding output_at output_of
  output_stepped names own j x named owned hr h e =
      let used : name_used names (min base.r most_reads) own (min j most_outputs) ≡ is_used base.reads base.r base.outputs j =
      fun_ext (λ (name : List ℕ). ap₂ (λ (x y : ℕ). name_used names x own y name) (min-eq_left hr) (min-eq_left h)
      ∙ used_names names base.reads named own base.outputs owned base.r j name hr h) in
      let got : numbered x ≡ step_by s at (λ body. name_given (output_of base j body)) (header_of (drop at s) 3 0) =
      e ∙ ap (λ (y : List ℕ → Bool). step_by s at (λ body. name_given (name_field y body)) (header_of (drop at s) 3 0)) used in
      sym (ap (λ (g : Step (List ℕ)). brought g (with_output base j)) got ∙ go (header_of (drop at s) 3 0))
    where
      go : (h : Header) → brought (step_by s at (λ body. name_given (output_of base j body)) h) (with_output base j)
          ≡ field_by s at (λ body. (output_of base j body).taken) (λ body. with_output base j (output_of base j body).name) h
      go (Stopped number) = refl
      go (Field tag len) = let f = output_of base j (body_of (drop at s) len) in by_body at len f.taken f.name (with_output base j)

-- the rest word's field, or none, brings a load as far as its step does
pub rest_stepped : (s : List ℕ) (at r n : ℕ) (reads : List ReadPoint) (outputs : List OutputPoint) (f : Step ℕ) → f ≡ rest_place s at n
    → brought f (λ rest. rested_set r n rest reads outputs) ≡ rest_at s at (points_set r n reads outputs)
unfolding rest_place rest_at zero_set
rest_stepped s at r n reads outputs f e = ap (λ (g : Step ℕ). brought g made) e ∙ go (eqb (get_or (drop at s) 0 0) 6)
  where
    made : ℕ → Set
    made rest = rested_set r n rest reads outputs

    step : (h : Header) → brought (step_by s at (rest_given n) h) made ≡ field_by s at (λ body. rest_good (rest_word body) n) (λ body. made (rest_word body)) h
    step (Stopped number) = refl
    step (Field tag len) = let word = rest_word (body_of (drop at s) len) in by_body at len (rest_good word n) word made

    go : (b : Bool) → brought (cond b (step_by s at (rest_given n) (header_of (drop at s) 6 0)) (Ok (0, at))) made
        ≡ cond b (field_by s at (λ body. rest_good (rest_word body) n) (λ body. made (rest_word body)) (header_of (drop at s) 6 0)) (going_on at (points_set r n reads outputs))
    go true = step (header_of (drop at s) 6 0)
    go false = refl
