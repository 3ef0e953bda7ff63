-- `encoding::group_length` meets its contract: n symbols are counted, those of y are left.
use Prim.Native.Nat.{◌+◌, ◌≤◌}
use mathlib.Core.Path.{◌≡◌}
use mathlib.Core.List.{[]}
use lib.ListN.{length}
use Rattle.altdude.specs.Encoding.{leading_digits, group_of}
use Rattle.altdude.proofs.encoding.group_length.Given as goal

abbrev pub invariant-loop-y : goal.invariant-loop-y
invariant-loop-y l = (length (group_of l.x []) ≡ l.n + length (leading_digits l.y l.y [])) × (l.n + l.y ≤ l.x + 1)

abbrev pub decreases-loop-y : goal.decreases-loop-y
decreases-loop-y l = l.y
