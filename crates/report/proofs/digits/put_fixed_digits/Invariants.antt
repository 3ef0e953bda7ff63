-- `digits::put_fixed_digits` meets its contract: the digits of what is left are still to be stored, below index j.
use Prim.Native.Nat.{◌-◌}
use mathlib.Core.Path.{◌≡◌}
use lib.Seq.{sets}
use Rattle.report.specs.Digits.{fixed_digits}
use Rattle.report.proofs.digits.put_fixed_digits.Given as goal

abbrev pub invariant-loop-j : goal.invariant-loop-j
invariant-loop-j l = sets l.out l.at (fixed_digits l.base (l.j - l.at) l.left) ≡ sets l.initial.out l.at (fixed_digits l.base l.count l.number)
