-- Each turn stores the octets of one unit; at most three for each unit passed.
use Prim.Native.Nat.{◌*◌, ◌≤◌}
use lib.ListN.{drop}
use Rattle.std.proofs.Common.{None}
use Rattle.basis.proofs.Stores.{Storing}
use Rattle.lace_encoding.specs.Internal.{run_steps}
use Rattle.lace_encoding.proofs.encoding.put_runs.Given as goal

abbrev pub invariant-loop-i : goal.invariant-loop-i
invariant-loop-i l = (l.at ≤ 3 * l.i) × Storing l.initial.octets (run_steps None l.units) l.octets l.at (run_steps l.before (drop l.i l.units))
