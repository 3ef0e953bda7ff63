-- The loop counts the neighbours that differ; what is left is the count from the next unit on.
use Prim.Native.Nat.{◌+◌, ◌-◌, ◌≤◌}
use mathlib.Core.Path.{◌≡◌}
use lib.ListN.{length, drop}
use Rattle.std.specs.Slice.Iter.{windows_rest, windows_size}
use Rattle.basis.specs.Rows.{at}
use Rattle.lace_format.specs.Octets.{changes, run_count}
use Rattle.lace_format.proofs.run_count.Given as goal

abbrev pub invariant-loop-pair : goal.invariant-loop-pair
invariant-loop-pair l =
    let rest = windows_rest l.pair-iterator in
    (windows_size l.pair-iterator ≡ 2) × (l.r + (length rest - 1) ≤ length l.units) × (run_count l.units ≡ l.r + changes (at rest 0) (drop 1 rest))
