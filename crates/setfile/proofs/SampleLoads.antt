-- Document 01's set P and its file of 39 bytes: each gives the other, by computation.
-- Assumes nothing.
use mathlib.Core.Path.{◌≡◌, refl}
use Rattle.words.specs.Word.{odd, bit}
use Rattle.words.specs.Loop.{all, first, first_from, joined}
use Rattle.scan.specs.Set.{zero_set}
use Rattle.scan.specs.Names.{name_byte, all_name_bytes, name_length, name_bytes, same_name, read_has_name, first_read, output_named, first_output, is_used}
use Rattle.shape.specs.Spelling.{spelling}
use Rattle.scan.specs.Shape.{count_tests}
use Rattle.scan.specs.Samples.{P}
use Rattle.loader.specs.declared.loader.LoadAnswer.TheVariants.{Loaded}
use Rattle.header.specs.Header.{raw_of, header_of}
use Rattle.header.specs.Tag.{names_high}
use Rattle.literal.specs.Literal.{narrows, wides, with_literal, literals_from}
use Rattle.loader.specs.Load.{counts_at, name_field, kind_of, read_field, read_of, read_at, reads_from, output_of, output_at, outputs_from, rest_at, constraint_at, constraints_from, load_from, load_of}
use Rattle.writer.specs.Write.{read_literal, output_literal, literals_by, fields_of, rest_field, write_of}
use Rattle.setfile.specs.SampleFile.{file_p}

-- The file loads to P.
pub p_loads : load_of file_p ≡ record { answer = Loaded; set = P }
unfolding all first_from first zero_set name_byte all_name_bytes spelling same_name read_has_name first_read output_named first_output is_used
    count_tests raw_of header_of names_high narrows wides with_literal literals_from counts_at name_field kind_of read_field read_of read_at reads_from output_of output_at outputs_from rest_at constraint_at constraints_from load_from load_of
p_loads = refl

-- P's file is the file.
pub p_written : write_of P ≡ file_p
unfolding zero_set odd bit first_from first name_length name_bytes read_literal output_literal names_high joined literals_by fields_of rest_field write_of
p_written = refl
