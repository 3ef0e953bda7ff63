-- `units::put_points` meets its contract: what is left are the points of the units from `i` on.
use Rattle.utf16.proofs.Stores.{Pointing}
use Rattle.utf16.proofs.units.put_points.Given as goal

abbrev pub invariant-loop-i : goal.invariant-loop-i
invariant-loop-i g l = Pointing (g.R.Units.units l.row) l.initial.points l.points l.before l.at l.i
