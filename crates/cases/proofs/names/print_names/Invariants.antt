-- `print_names` ends, since each turn leaves fewer bytes of names.
use lib.ListN.{length}
use Rattle.cases.proofs.names.print_names.Given as goal

abbrev pub decreases-loop-len : goal.decreases-loop-len
decreases-loop-len g l = length l.rest
