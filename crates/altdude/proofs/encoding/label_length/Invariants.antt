-- `encoding::label_length` meets its contract: n symbols are counted, those of the points from i on are left.
use Prim.Native.Nat.{◌+◌, ◌≤◌}
use mathlib.Core.Path.{◌≡◌}
use lib.ListN.{length, drop}
use Rattle.altdude.specs.Encoding.{symbols_from, label_of}
use Rattle.altdude.proofs.encoding.label_length.Given as goal

abbrev pub invariant-loop-point : goal.invariant-loop-point
invariant-loop-point l = (length (label_of l.text) ≡ l.n + length (symbols_from l.remembered (drop l.point-index l.text))) × (l.n ≤ 63)
