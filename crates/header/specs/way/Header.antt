-- What the code's answers on a field say: a fault is told by its number.
-- Assumes nothing.
use Rattle.std.specs.Prelude.{Result, Ok, Err}
use Rattle.header.specs.declared.numbers.Fault.{Fault}
use Rattle.header.specs.declared.numbers.Refusal.{Refusal}
use Rattle.header.specs.declared.header.Field.{Field as FieldRead}
use Rattle.header.specs.declared.reader.FrontField.{FrontField}
use Rattle.header.specs.Fault.{number}
use Rattle.header.specs.Header.{Header, Refused, Field, Front}

-- of a field's header
abbrev pub header_told : Result FieldRead Fault → Header
header_told (Ok f) = Field f.tag f.len
header_told (Err fault) = Refused (number fault)

-- of the field at a place
abbrev pub front_told : Result FrontField Refusal → Front
front_told (Ok f) = record { header = Field f.tag f.len; at = f.at }
front_told (Err r) = record { header = Refused (number r.fault); at = r.offset }
