-- `writing::copy_part` meets its contract: what is left are the points from the index on, each of which is a byte.
use lib.ListN.{drop}
use Rattle.basis.proofs.Stores.{Storing}
use Rattle.host_name.proofs.writing.copy_part.Given as goal

abbrev pub invariant-loop-i : goal.invariant-loop-i
invariant-loop-i l = Storing l.initial.label l.part l.label l.i (drop l.i l.part)
