-- Why a set file is refused: document 01's numbers, and those of the change requests.
-- Assumes nothing.
use Rattle.std.specs.Prelude.{ℕ}
use Rattle.header.specs.declared.numbers.Fault.{Fault}
use Rattle.header.specs.declared.numbers.Fault.TheVariants.{PastEnd, TagNotDue, ManyConstraints, BadLength, BadCounts, BadKind, BadNameByte, NameUsed, BadLiteral, NotRising, NoOutput, BytesFollow, BadRest, NoHighRead}

-- the number of each
abbrev pub number : Fault → ℕ
number PastEnd = 1
number TagNotDue = 2
number ManyConstraints = 3
number BadLength = 4
number BadCounts = 5
number BadKind = 6
number BadNameByte = 7
number NameUsed = 8
number BadLiteral = 9
number NotRising = 10
number NoOutput = 11
number BytesFollow = 12
number BadRest = 54
number NoHighRead = 59

-- a refusal's number, or that what was read is good
pub data Taken : Type 0 where
  Refused : ℕ → Taken
  Good : Taken
