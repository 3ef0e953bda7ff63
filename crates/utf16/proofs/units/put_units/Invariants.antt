-- `units::put_units` meets its contract: what is left are the units of the points from the loop's index on.
use lib.ListN.{length, drop}
use Rattle.utf16.specs.Units.{to_units}
use Rattle.utf16.proofs.Pieces.{Putting}
use Rattle.utf16.proofs.units.put_units.Given as goal

abbrev pub invariant-loop-point : goal.invariant-loop-point
invariant-loop-point l = Putting (length l.points) 2 (λ k. to_units (drop k l.points)) l.initial.units l.units l.at l.point-index
