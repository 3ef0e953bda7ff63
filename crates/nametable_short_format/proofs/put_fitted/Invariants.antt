-- `put_fitted` meets its contract: the room before i is filled.
use mathlib.Core.Path.{◌≡◌}
use mathlib.Core.List.{◌++◌}
use lib.ListN.{drop}
use Rattle.basis.specs.Rows.{at, tabulate}
use Rattle.nametable_short_format.proofs.put_fitted.Given as goal

abbrev pub invariant-loop-i : goal.invariant-loop-i
invariant-loop-i l = l.room ≡ tabulate l.i (at (drop l.start l.bytes)) ++ drop l.i l.initial.room
