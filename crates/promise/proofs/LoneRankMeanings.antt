-- A lone output's rank is never read: well-formed sets that differ only in names and in such ranks have the same verdicts and answers.
-- Assumes nothing.
use mathlib.Core.Path.{◌≡◌, sym, ap, ◌∙◌}
use mathlib.Core.Bool.{true}
use Prim.Native.Nat.{ℕ, ◌≤◌, ◌<◌}
use native.Mathlib.Decide.{dec_lt}
use native.Mathlib.Omega.{arith}
use lib.ListN.{get_or-eq_default}
use Rattle.scan.specs.declared.set.ReadPoint.{ReadPoint}
use Rattle.scan.specs.declared.set.Kind.TheVariants.{Sensor}
use Rattle.scan.specs.declared.set.Constraint.{Constraint}
use Rattle.scan.specs.declared.set.Set.{Set}
use Rattle.scan.specs.Set.{most_reads, most_constraints, no_read, no_constraint, read_point, kind, constraint}
use Rattle.scan.specs.Shape.{well_formed}
use Rattle.scan.proofs.LoneRanks.{SameButLone, AlikeButLone}
use Rattle.machine.proofs.ScanAlike.{scan_alike}
use Rattle.verdict.proofs.JudgeAlike.{judge_alike}
use Rattle.promise.specs.Meanings.{SameButLoneRanks, LoneRanksUnread}
use Rattle.promise.proofs.ConstraintMeanings.{combined_iff}
use Rattle.promise.proofs.PlaceMeanings.{places_mean}

-- what stands beyond the counts of a well-formed set, by the place alone
module _ (s : Set) (ok : well_formed s ≡ true) where
  read_beyond : (k : ℕ) → s.r ≤ k → kind s k ≡ Sensor
  unfolding kind
  read_beyond k l = go (dec_lt k most_reads)
    where
      go : Dec (k < most_reads) → (read_point s.reads k).kind ≡ Sensor
      go (yes h) = ap (λ (p : ReadPoint). p.kind) ((places_mean s ok).read_beyond k l h)
      go (no h) = let long = (places_mean s ok).places.0 in ap (λ (p : ReadPoint). p.kind) (get_or-eq_default s.reads no_read {n = k} (omega arith))

  constraint_past : (i : ℕ) → most_constraints ≤ i → constraint s i ≡ no_constraint
  unfolding constraint
  constraint_past i h = let long = (places_mean s ok).places.2 in get_or-eq_default s.constraints no_constraint {n = i} (omega arith)

module _ (s t : Set) (formed-s : well_formed s ≡ true) (formed-t : well_formed t ≡ true) (a : SameButLoneRanks s t) where
  kinds_alike : (k : ℕ) → kind s k ≡ kind t k
  kinds_alike k = go (dec_lt k s.r)
    where
      go : Dec (k < s.r) → kind s k ≡ kind t k
      go (yes h) = a.kinds k h
      go (no h) = let same = a.r in read_beyond s formed-s k (omega arith) ∙ sym (read_beyond t formed-t k (omega arith))

  beyond_alike : (i : ℕ) → s.m ≤ i → constraint s i ≡ constraint t i
  beyond_alike i l = let same = a.m in go (dec_lt i most_constraints) (omega arith)
    where
      go : Dec (i < most_constraints) → t.m ≤ i → constraint s i ≡ constraint t i
      go (yes h) lt = (places_mean s formed-s).constraint_beyond i l h ∙ sym ((places_mean t formed-t).constraint_beyond i lt h)
      go (no h) lt = constraint_past s formed-s i (omega arith) ∙ sym (constraint_past t formed-t i (omega arith))

  one_alike : (i : ℕ) → SameButLone (constraint s i) (constraint t i)
  one_alike i = go (dec_lt i s.m)
    where
      go : Dec (i < s.m) → SameButLone (constraint s i) (constraint t i)
      go (yes h) =
          let b = a.constraints i h in
          record {
            read_plain = b.read_plain;
            read_negated = b.read_negated;
            out_plain = b.out_plain;
            out_negated = b.out_negated;
            ranks = λ e. b.ranks ((combined_iff s formed-s i h).0 e);
          }
      go (no h) =
          let e = beyond_alike i (omega arith) in
          record {
            read_plain = ap (λ (c : Constraint). c.read_plain) e;
            read_negated = ap (λ (c : Constraint). c.read_negated) e;
            out_plain = ap (λ (c : Constraint). c.out_plain) e;
            out_negated = ap (λ (c : Constraint). c.out_negated) e;
            ranks = λ q. ap (λ (c : Constraint). c.ranks) e;
          }

  alike : AlikeButLone s t
  alike = record { r_same = a.r; n_same = a.n; m_same = a.m; kinds = kinds_alike; constraints = one_alike }

  pub lone_ranks_unread : LoneRanksUnread s t
  lone_ranks_unread = record {
    verdict = judge_alike s t alike (formed-s ∙ sym formed-t);
    scan = scan_alike s t alike (formed-s ∙ sym formed-t);
  }
