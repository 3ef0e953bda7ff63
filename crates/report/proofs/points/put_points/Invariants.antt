-- `points::put_points` meets its contract: the other points from the index on are left to store, each after a space.
use Prim.Native.Nat.{◌+◌, ◌≤◌}
use lib.ListN.{length, drop}
use Rattle.report.specs.Lines.{spaced_points}
use Rattle.basis.proofs.Stores.{StoringFrom}
use Rattle.report.proofs.points.put_points.Given as goal

abbrev pub invariant-loop-point : goal.invariant-loop-point
invariant-loop-point l =
    StoringFrom l.initial.next l.initial.out (spaced_points l.others) l.out l.next (spaced_points (drop l.point-index l.others))
    × (l.next + length (spaced_points (drop l.point-index l.others)) ≤ length l.initial.out)
