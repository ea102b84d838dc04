-- Files and sets say the same: a set is well formed exactly if some file loads to it, and no two files load to one set.
-- Assumes nothing.
use mathlib.Core.Path.{◌≡◌, sym, ◌∙◌, ap}
use mathlib.Core.Logic.{◌↔◌}
use mathlib.Core.Bool.{true}
use mathlib.Core.List.{List}
use Prim.Native.Nat.{ℕ}
use Rattle.scan.specs.declared.set.Set.{Set}
use Rattle.scan.specs.Shape.{well_formed}
use Rattle.loader.specs.declared.loader.Loaded.{Loaded}
use Rattle.loader.specs.declared.loader.LoadAnswer.TheVariants.{Loaded as WasLoaded}
use Rattle.header.specs.Bytes.{Bytes}
use Rattle.loader.specs.Load.{load_of}
use Rattle.writer.specs.Write.{write_of}
use Rattle.setfile.proofs.LoadWritten.{load_written}
use Rattle.setfile.proofs.WrittenBytes.{written_bytes}
use Rattle.setfile.proofs.WriteLoaded.{write_loaded}

-- A set is well formed exactly if some file of bytes loads to it.
pub formed_iff : (s : Set) → (well_formed s ≡ true) ↔ ((file : List ℕ) × Bytes file × (load_of file ≡ record { answer = WasLoaded; set = s }))
formed_iff s = (
  λ w. (write_of s, written_bytes s w, load_written s w),
  λ f. ap well_formed (sym (ap (λ (l : Loaded). l.set) f.2)) ∙ (write_loaded f.0 f.1 (ap (λ (l : Loaded). l.answer) f.2)).1,
)

-- Two files of bytes that load to the same are the same.
pub one_file : (f g : List ℕ) → Bytes f → Bytes g → (load_of f).answer ≡ WasLoaded → load_of f ≡ load_of g → f ≡ g
one_file f g bf bg e same =
    sym (write_loaded f bf e).0
    ∙ ap (λ (l : Loaded). write_of l.set) same
    ∙ (write_loaded g bg (ap (λ (l : Loaded). l.answer) (sym same) ∙ e)).0
