-- What is left are the bytes from `i` on.
use lib.ListN.{drop}
use Rattle.basis.proofs.Stores.{Storing}
use Rattle.brace_decoding.proofs.decoding.copy_bytes.Given as goal

abbrev pub invariant-loop-i : goal.invariant-loop-i
invariant-loop-i l = Storing l.initial.units l.label l.units l.i (drop l.i l.label)
