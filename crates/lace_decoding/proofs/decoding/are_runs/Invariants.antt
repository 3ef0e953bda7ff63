-- What is left are runs, from the place on, exactly when all octets are.
use mathlib.Core.Path.{◌≡◌}
use lib.ListN.{drop}
use Rattle.std.proofs.Common.{None}
use Rattle.lace_decoding.specs.Decoding.{are_runs}
use Rattle.lace_decoding.specs.declared.decoding.Place.TheVariants.{Count}
use Rattle.lace_decoding.proofs.decoding.are_runs.Given as goal

abbrev pub invariant-loop-octet : goal.invariant-loop-octet
invariant-loop-octet l = are_runs (Count None) l.octets ≡ are_runs l.place (drop l.octet-index l.octets)
