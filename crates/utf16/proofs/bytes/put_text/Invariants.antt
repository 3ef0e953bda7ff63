-- `bytes::put_text` meets its contract: what is left are the bytes of the points from the loop's index on.
use lib.ListN.{length, drop}
use Rattle.utf16.specs.Bytes.{bytes_of}
use Rattle.utf16.proofs.Pieces.{Putting}
use Rattle.utf16.proofs.bytes.put_text.Given as goal

abbrev pub invariant-loop-point : goal.invariant-loop-point
invariant-loop-point l = Putting (length l.points) 4 (λ k. bytes_of (drop k l.points)) l.initial.bytes l.bytes l.at l.point-index
