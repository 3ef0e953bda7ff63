-- What is left are the units of the octets from the index on, from the place on.
use Prim.Native.Nat.{◌≤◌}
use lib.ListN.{drop}
use Rattle.std.proofs.Common.{None}
use Rattle.basis.proofs.Stores.{Storing}
use Rattle.lace_decoding.specs.Decoding.{units_from}
use Rattle.lace_decoding.specs.declared.decoding.Place.TheVariants.{Count}
use Rattle.lace_decoding.proofs.decoding.put_run_units.Given as goal

abbrev pub invariant-loop-octet : goal.invariant-loop-octet
invariant-loop-octet l = Storing l.initial.units (units_from (Count None) l.octets) l.units l.at (units_from l.place (drop l.octet-index l.octets)) × (l.at ≤ l.octet-index)
