-- `writer::writer::file_length` meets its contract: the lengths of the parts, added up. Assumes nothing.
use native.Mathlib.Omega.{arith}
use Rattle.scan.specs.Set.{constraint}
use Rattle.scan.proofs.ShapeLaws.{counts}
use Rattle.writer.proofs.LiteralBodyLaws.{masks_few}
use Rattle.writer.proofs.WriteLaws.{file_long}
use Rattle.writer.proofs.writer.file_length.Goals as goal

pub reads_length-requires : goal.reads_length-requires
reads_length-requires c =
    let s = c in
    (counts s.args.set s.requires).r_le

pub outputs_length-requires : goal.outputs_length-requires
outputs_length-requires c =
    let s = c in
    (counts s.args.set s.requires).n_le

pub constraints_length-requires : goal.constraints_length-requires
unfolding constraint
constraints_length-requires c =
    let s = c in
    ((counts s.args.set s.requires).m_le, masks_few s.args.set s.requires)

pub returns : goal.returns
returns c = omega (arith, file_long c.args.set)
