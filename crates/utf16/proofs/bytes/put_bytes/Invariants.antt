-- `bytes::put_bytes` meets its contract: what is left are the bytes of the units from the loop's index on.
use lib.ListN.{length, drop}
use Rattle.utf16.specs.Bytes.{bytes_of_units}
use Rattle.utf16.proofs.Pieces.{Putting}
use Rattle.utf16.proofs.bytes.put_bytes.Given as goal

abbrev pub invariant-loop-unit : goal.invariant-loop-unit
invariant-loop-unit l = Putting (length l.units) 2 (λ k. bytes_of_units (drop k l.units)) l.initial.bytes l.bytes l.at l.unit-index
