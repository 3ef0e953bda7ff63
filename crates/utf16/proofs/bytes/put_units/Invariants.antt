-- `bytes::put_units` meets its contract: what is left are the units from `i` on.
use lib.ListN.{length, drop}
use Rattle.utf16.specs.Bytes.{units_of_bytes}
use Rattle.utf16.proofs.Pieces.{Putting}
use Rattle.utf16.proofs.bytes.put_units.Given as goal

abbrev pub invariant-loop-i : goal.invariant-loop-i
invariant-loop-i l = Putting (length (units_of_bytes l.bytes)) 1 (λ k. drop k (units_of_bytes l.bytes)) l.initial.units l.units l.i l.i
