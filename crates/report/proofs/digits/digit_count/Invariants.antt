-- `digits::digit_count` meets its contract: n digits are counted, those of what is left are not.
use Prim.Native.Nat.{◌+◌, ◌≤◌}
use mathlib.Core.Path.{◌≡◌}
use Rattle.report.specs.Digits.{digit_count}
use Rattle.report.proofs.digits.digit_count.Given as goal

abbrev pub invariant-loop-left : goal.invariant-loop-left
invariant-loop-left l = (digit_count l.base l.number l.number ≡ l.n + digit_count l.base l.left l.left) × (l.n + l.left ≤ l.number)

abbrev pub decreases-loop-left : goal.decreases-loop-left
decreases-loop-left l = l.left
