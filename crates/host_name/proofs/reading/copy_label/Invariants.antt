-- `reading::copy_label` meets its contract: what is left are the bytes from the index on.
use lib.ListN.{drop}
use Rattle.basis.proofs.Stores.{Storing}
use Rattle.host_name.proofs.reading.copy_label.Given as goal

abbrev pub invariant-loop-i : goal.invariant-loop-i
invariant-loop-i l = Storing l.initial.text l.label l.text l.i (drop l.i l.label)
