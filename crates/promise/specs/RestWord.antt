-- Change request K6, drives that rest on: the outputs of a set's rest word count as on before the first scan. Said of every well-formed set and every list
-- of scans from a start; what a start gives is said in specs/Promise, and what stands in a file in specs/FileSays.
-- Assumes nothing.
use Rattle.std.specs.Prelude.{◌≡◌, Bool, true, List, ◌↔◌, ℕ, ◌^◌, ◌<◌}
use Rattle.scan.specs.declared.set.Kind.TheVariants.{PastOutput}
use Rattle.scan.specs.declared.set.Set.{Set}
use Rattle.scan.specs.Set.{kind}
use Rattle.scan.specs.Shape.{well_formed}
use Rattle.machine.specs.Machine.{scan_of}
use Rattle.machine.specs.History.{Call, read_after}
use Rattle.verdict.specs.Judge.{judge_of}
use Rattle.promise.specs.Terms.{Bit, state_with}
use Rattle.promise.specs.Scans.{LastAllowed, NoneAllowed, due_after}

-- at the read word w each past output has the bit that its index names in this output word
abbrev pub PastOutputsRead : Set → ℕ → ℕ → Type 0
PastOutputsRead s w output = (k i : ℕ) → k < s.r → kind s k ≡ PastOutput i → Bit k w ↔ Bit i output

-- the set with this rest word
abbrev pub resting_on : Set → ℕ → Set
resting_on s word = record { r = s.r; n = s.n; m = s.m; rest = word; reads = s.reads; outputs = s.outputs; constraints = s.constraints }

-- What is promised.
pub record RestWord : Type 0 where
  -- in a well-formed set it has bits at outputs only
  pub bits : (s : Set) → well_formed s ≡ true → (k : ℕ) → Bit k s.rest → k < s.n
  -- any such word may stand there, and no other
  pub formed : (s : Set) (word : ℕ) → well_formed s ≡ true → (well_formed (resting_on s word) ≡ true) ↔ (word < 2 ^ s.n)
  -- it need not be safe: no verdict reads it
  pub unjudged : (s : Set) (word : ℕ) → well_formed s ≡ true → word < 2 ^ s.n → (room : ℕ) → judge_of (resting_on s word) room ≡ judge_of s room
  -- nor does a scan of any state; a start alone takes it
  pub unread : (s : Set) (word : ℕ) → well_formed s ≡ true → word < 2 ^ s.n → (output sensor : ℕ) (accepted : Bool) (present request : ℕ)
      → (scan_of (state_with (resting_on s word) output sensor accepted) present request).answer ≡ (scan_of (state_with s output sensor accepted) present request).answer
  -- in a list from a start, a scan before which none is allowed reads past outputs from it
  pub list_first : (s : Set) (before : List Call) → NoneAllowed s before → (c : Call) → PastOutputsRead s (read_after s before c) s.rest
  -- and any other reads them from the vector due in the last one that is allowed, and from the rest word no more
  pub list_next : (s : Set) (before : List Call) (b : Call) (earlier : List Call) → LastAllowed s before b earlier → (c : Call)
      → PastOutputsRead s (read_after s before c) (due_after s earlier b)
