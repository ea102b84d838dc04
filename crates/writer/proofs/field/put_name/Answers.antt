-- `writer::field::put_name` meets its contract. Assumes nothing.
use mathlib.Core.Path.{◌≡◌, sym, ap, ◌∙◌}
use Prim.Native.Nat.{ℕ, ◌+◌, ◌-◌, ◌≤◌}
use native.Mathlib.Omega.{arith}
use lib.ListN.{length, take, drop, length-drop}
use lib.Seq.{length-take-le}
use borrow.Author.Rules.{rules}
use Rattle.scan.specs.Set.{name_places}
use Rattle.scan.proofs.NamesLaws.{name_taken, name_short}
use borrow.Rule.Slice.PartMut.{put_mid}
use Rattle.writer.specs.way.Write.{put_at}
use Rattle.writer.proofs.WriteLaws.{put_over}
use Rattle.writer.proofs.field.put_name.Goals as goal
use Rattle.writer.proofs.field.put_name.Goals.{Start}

name_long : (c : Start) → length c.args.name ≡ name_places
name_long c = search rules

short : (c : Start) → c.args.len ≤ length c.args.name
short c = omega (arith, c.requires.0, name_short c.args.name)

pub slice_bounds-name-end : goal.slice_bounds-name-end
slice_bounds-name-end c = short (goal.at.slice_bounds-name-end c).Start

taken : (c : Start) → length (take c.args.len c.args.name) ≡ c.args.len
taken c = length-take-le c.args.len c.args.name (short c)

pub slice_bounds-copy_from_slice-end-2 : goal.slice_bounds-copy_from_slice-end-2
slice_bounds-copy_from_slice-end-2 c = sym (taken (goal.at.slice_bounds-copy_from_slice-end-2 c).Start)

-- the places that are filled are as many as the bytes
places : (c : Start) → let a = c.args in length (take (a.at + a.len - a.at) (drop a.at a.buf.now)) ≡ a.len
places c =
    let a = c.args in
    let back : a.at + a.len - a.at ≡ a.len = omega arith in
    ap (λ (k : ℕ). length (take k (drop a.at a.buf.now))) back ∙ length-take-le a.len (drop a.at a.buf.now) (omega (arith, length-drop a.at a.buf.now, c.requires))

pub copy_from_slice-requires : goal.copy_from_slice-requires
copy_from_slice-requires c = let s = (goal.at.copy_from_slice-requires c).Start in places s ∙ sym (taken s)

pub returns : goal.returns
returns c =
    let a = c.args in
    let s = (goal.at.returns c).Start in
    let back : a.at + a.len - a.at ≡ length (take a.len a.name) = omega (arith, taken s) in (
      ap (put_mid a.at (a.at + a.len - a.at) a.buf.now) c.copy_from_slice.ensures.after ∙ put_over a.buf.now a.at _ (take a.len a.name) back ∙ ap (put_at a.buf.now a.at) (name_taken a.name a.len c.requires.0),
      ap (λ (k : ℕ). a.at + k) c.requires.0,
    )
