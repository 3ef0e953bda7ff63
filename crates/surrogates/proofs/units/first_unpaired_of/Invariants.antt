-- `units::first_unpaired_of` meets its contract: no unit before `i` is an unpaired surrogate.
use Rattle.surrogates.proofs.Surrogates.{Searching}
use Rattle.surrogates.proofs.units.first_unpaired_of.Given as goal

abbrev pub invariant-loop-i : goal.invariant-loop-i
invariant-loop-i g l = Searching (g.R.Units.units l.row) l.before l.i
