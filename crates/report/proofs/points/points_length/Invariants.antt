-- `points::points_length` meets its contract: n bytes are counted, those of the other points from the index on are not.
use Prim.Native.Nat.{◌+◌, ◌≤◌}
use mathlib.Core.Path.{◌≡◌}
use lib.ListN.{length, drop}
use Rattle.report.specs.Lines.{spaced_points, points_bytes}
use Rattle.report.proofs.points.points_length.Given as goal

abbrev pub invariant-loop-point : goal.invariant-loop-point
invariant-loop-point l = (length (points_bytes l.points) ≡ l.n + length (spaced_points (drop l.point-index l.others))) × (l.n ≤ l.limit + 67)
