-- `prepared::putting::read_byte` meets its contract. Assumes nothing.
use native.Mathlib.Omega.{arith}
use Rattle.prepared.specs.Put.{read_bytes}
use Rattle.prepared.proofs.PutLaws.{behind}
use Rattle.prepared.proofs.putting.read_byte.Goals as goal

pub returns : goal.returns
returns c = let a = c.args in behind 2 (read_bytes a.p) a.j (omega arith)
